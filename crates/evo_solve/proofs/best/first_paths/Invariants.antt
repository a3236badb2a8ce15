use Rattle.std.proofs.Common.{◌≡◌, length}
use Rattle.evo_solve.specs.Universe.{Least, Sound}
use Rattle.evo_solve.proofs.best.first_paths.Given as goal

abbrev pub invariant-loop : goal.invariant-loop
invariant-loop l = record { size : length l.bests.items ≡ length l.nodes; least : Least l.nodes l.reps l.counter l.bests.items; sound : Sound l.nodes l.reps l.bests.items }
