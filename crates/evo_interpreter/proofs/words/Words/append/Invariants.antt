use Rattle.std.proofs.Common.{◌≡◌, ◌++◌, map, take}
use Rattle.evo_interpreter.specs.Words.{word_of}
use Rattle.evo_interpreter.proofs.words.Words.append.Given as goal

abbrev pub invariant-loop-word : goal.invariant-loop-word
invariant-loop-word l = map word_of l.self-inside.words.items ≡ map word_of l.initial.self-inside.words.items ++ map word_of (take l.word-index l.more)
