use Rattle.std.proofs.Common.{◌≡◌, ◌<◌, MatchBool}
use Rattle.evo_solve.specs.Search.{Rounded, nones}
use Rattle.evo_solve.proofs.distance.round.Given as goal

abbrev pub invariant-loop-place : goal.invariant-loop-place
invariant-loop-place l = record { rounded : Rounded l.classes l.protocols l.far l.initial.distances.items l.distances.items l.place; changed : MatchBool l.changed (nones l.distances.items < nones l.initial.distances.items) (l.distances.items ≡ l.initial.distances.items) }
