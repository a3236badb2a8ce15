use Rattle.std.proofs.Common.{◌≡◌, ℕ, None, length}
use Rattle.evo_solve.specs.Search.{nones, value}
use Rattle.evo_solve.proofs.conforming.unknown.Given as goal

abbrev pub invariant-loop : goal.invariant-loop
invariant-loop l = record { size : length l.distances.items ≡ l.counter; none : (s : ℕ) → value l.distances.items s ≡ None; nones : nones l.distances.items ≡ l.counter }
