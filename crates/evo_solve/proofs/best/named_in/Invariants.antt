use Rattle.std.proofs.Common.{◌≡◌, ℕ, ◌<◌, Some, slice_get}
use Rattle.evo_solve.specs.Canonical.{IsNamed}
use Rattle.evo_solve.specs.Universe.{rep}
use Rattle.evo_solve.specs.declared.universe.Node.{Node}
use Rattle.evo_solve.specs.declared.universe.Origin.TheVariants.{Root}
use Rattle.evo_solve.proofs.best.named_in.Given as goal

abbrev pub invariant-loop-i : goal.invariant-loop-i
invariant-loop-i l = (k : ℕ) (x : Node) → k < l.i → slice_get l.nodes k ≡ Some x → x.origin ≡ Root → IsNamed x.path.first → rep l.reps k ≡ l.class → ⊥
