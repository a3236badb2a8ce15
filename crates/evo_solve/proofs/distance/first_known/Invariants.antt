use Rattle.std.proofs.Common.{◌≡◌, ℕ, ◌<◌, None}
use Rattle.evo_solve.specs.Search.{StartAt, value}
use Rattle.evo_solve.proofs.distance.first_known.Given as goal

abbrev pub invariant-loop-i : goal.invariant-loop-i
invariant-loop-i l = (j u : ℕ) → j < l.i → StartAt l.starts j u → value l.distances u ≡ None
