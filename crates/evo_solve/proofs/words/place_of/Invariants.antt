use Rattle.evo_solve.proofs.Putting.{Passed}
use Rattle.evo_solve.proofs.words.place_of.Given as goal

abbrev pub invariant-loop-i : goal.invariant-loop-i
invariant-loop-i l = Passed l.word l.others l.i
