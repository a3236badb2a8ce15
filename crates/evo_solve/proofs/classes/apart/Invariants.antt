use Rattle.std.proofs.Common.{◌≡◌, ℕ, ◌<◌, length, get_or}
use Rattle.evo_solve.proofs.classes.apart.Given as goal

abbrev pub invariant-loop-i : goal.invariant-loop-i
invariant-loop-i l = record { size : length l.reps.items ≡ l.i; own : (k : ℕ) → k < l.i → get_or l.reps.items k 0 ≡ k }
