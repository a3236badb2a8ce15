use Rattle.std.proofs.Common.{◌≡◌, ◌++◌, map}
use Rattle.std.specs.Prelude.{replicate}
use Rattle.evo_execution.specs.Words.{Empty}
use Rattle.evo_interpreter.specs.Words.{word_of}
use Rattle.evo_interpreter.proofs.words.Words.fill.Given as goal

abbrev pub invariant-loop-made : goal.invariant-loop-made
invariant-loop-made l = map word_of l.self-inside.words.items ≡ map word_of l.initial.self-inside.words.items ++ replicate l.made Empty
