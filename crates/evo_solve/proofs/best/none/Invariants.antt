use Rattle.std.proofs.Common.{◌≡◌, ℕ, None, length}
use Rattle.evo_solve.specs.Universe.{best_of}
use Rattle.evo_solve.proofs.best.none.Given as goal

abbrev pub invariant-loop : goal.invariant-loop
invariant-loop l = record { size : length l.bests.items ≡ l.counter; none : (c : ℕ) → best_of l.bests.items c ≡ None }
