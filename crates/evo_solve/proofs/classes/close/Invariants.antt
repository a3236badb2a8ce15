use Rattle.std.proofs.Common.{◌≡◌, length}
use Rattle.evo_solve.specs.Universe.{Represented, total}
use Rattle.evo_solve.proofs.classes.close.Given as goal

abbrev pub invariant-loop-g : goal.invariant-loop-g
invariant-loop-g l = record { size : length l.reps ≡ length l.nodes; sound : Represented l.written l.nodes l.reps }

abbrev pub decreases-loop-g : goal.decreases-loop-g
decreases-loop-g l = total l.reps
