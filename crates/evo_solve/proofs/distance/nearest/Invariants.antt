use Rattle.std.proofs.Common.{ℕ, ◌<◌}
use Rattle.evo_solve.specs.Search.{NearBy}
use Rattle.evo_solve.proofs.distance.nearest.Given as goal

abbrev pub invariant-loop-j : goal.invariant-loop-j
invariant-loop-j l = (k : ℕ) → k < l.j → NearBy l.classes l.protocols l.distances l.class l.protocol l.far k → ⊥
