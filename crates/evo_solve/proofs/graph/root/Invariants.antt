use Rattle.std.proofs.Common.{◌≡◌, ℕ, ◌<◌, Some, slice_get}
use Rattle.evo_solve.specs.declared.universe.Node.{Node}
use Rattle.evo_solve.specs.declared.universe.Origin.TheVariants.{Root}
use Rattle.evo_solve.proofs.graph.root.Given as goal

abbrev pub invariant-loop-i : goal.invariant-loop-i
invariant-loop-i l = (k : ℕ) (x : Node) → k < l.i → slice_get l.nodes k ≡ Some x → x.origin ≡ Root → x.path.first ≡ l.ty → ⊥
