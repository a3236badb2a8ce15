use Rattle.std.proofs.Common.{◌≡◌, ℕ, ◌<◌, Some, slice_get}
use Rattle.evo_solve.specs.declared.declarations.Protocol.{Protocol}
use Rattle.evo_solve.proofs.graph.number_of.Given as goal

abbrev pub invariant-loop-i : goal.invariant-loop-i
invariant-loop-i l = (k : ℕ) (p : Protocol) → k < l.i → slice_get l.protocols k ≡ Some p → p.key ≡ l.key → ⊥
