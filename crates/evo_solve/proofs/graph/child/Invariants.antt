use Rattle.std.proofs.Common.{◌≡◌, ℕ, ◌<◌, Some, slice_get}
use Rattle.evo_solve.specs.declared.universe.Node.{Node}
use Rattle.evo_solve.specs.Universe.{TakenFrom}
use Rattle.evo_solve.proofs.graph.child.Given as goal

abbrev pub invariant-loop-i : goal.invariant-loop-i
invariant-loop-i l = (k : ℕ) (x : Node) → k < l.i → slice_get l.nodes k ≡ Some x → TakenFrom l.reps l.class l.name x.origin → ⊥
