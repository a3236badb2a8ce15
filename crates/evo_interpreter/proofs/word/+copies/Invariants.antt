use Rattle.std.proofs.Common.{◌≡◌, take}
use Rattle.evo_interpreter.proofs.word.+copies.Given as goal

abbrev pub invariant-copy_box-loop-word : goal.invariant-copy_box-loop-word
invariant-copy_box-loop-word l = l.copies.items ≡ take l.word-index l.words
