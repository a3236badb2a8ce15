use Rattle.std.proofs.Common.{◌≡◌, map, take, drop, ◌++◌}
use Rattle.evo_solve.specs.Universe.{redirect}
use Rattle.evo_solve.proofs.classes.merge.Given as goal

abbrev pub invariant-loop-r : goal.invariant-loop-r
invariant-loop-r l = l.reps ≡ map (redirect l.from l.to) (take l.r-index l.initial.reps) ++ drop l.r-index l.initial.reps
