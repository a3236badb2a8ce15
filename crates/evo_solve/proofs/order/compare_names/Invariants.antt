use Rattle.std.proofs.Common.{◌≡◌, ◌≤◌, length, drop}
use Rattle.evo_solve.specs.Canonical.{names_order}
use Rattle.evo_solve.proofs.order.compare_names.Given as goal

abbrev pub invariant-loop-i : goal.invariant-loop-i
invariant-loop-i l = record { fits : l.i ≤ length l.b; same : names_order l.a l.b ≡ names_order (drop l.i l.a) (drop l.i l.b) }
