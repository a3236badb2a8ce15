use Rattle.std.proofs.Common.{◌≡◌, ℕ, ◌<◌, slice_get, Some}
use Rattle.evo_solve.specs.declared.universe.Node.{Node}
use Rattle.evo_solve.specs.declared.universe.Sides.{Sides}
use Rattle.evo_solve.specs.Universe.{Linked, rep}
use Rattle.evo_solve.proofs.classes.gap.Given as goal

abbrev pub invariant-loop-side : goal.invariant-loop-side
invariant-loop-side l = (k : ℕ) (p : Sides) → k < l.side-index → slice_get l.pairs k ≡ Some p → rep l.reps p.left ≡ rep l.reps p.right

abbrev pub invariant-loop-j : goal.invariant-loop-j
invariant-loop-j l = (m : ℕ) (y : Node) → m < l.j → slice_get l.nodes m ≡ Some y → Linked l.reps l.x y → rep l.reps l.i ≡ rep l.reps m

abbrev pub invariant-loop-i : goal.invariant-loop-i
invariant-loop-i l = (k m : ℕ) (x y : Node) → k < l.i → slice_get l.nodes k ≡ Some x → slice_get l.nodes m ≡ Some y → Linked l.reps x y → rep l.reps k ≡ rep l.reps m
