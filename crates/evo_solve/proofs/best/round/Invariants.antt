use Rattle.evo_solve.specs.Universe.{Relaxed}
use Rattle.evo_solve.proofs.best.round.Given as goal

abbrev pub invariant-loop-i : goal.invariant-loop-i
invariant-loop-i l = Relaxed l.nodes l.reps l.fn.bests.items l.bests.items l.i
