use Rattle.std.proofs.Common.{◌≡◌, ℕ, ◌<◌, Some, slice_get}
use Rattle.evo_solve.specs.Universe.{Alike, rep}
use Rattle.evo_solve.specs.declared.universe.Node.{Node}
use Rattle.evo_solve.proofs.conflict.named_agree.Given as goal

abbrev pub invariant-loop-j : goal.invariant-loop-j
invariant-loop-j l = (m : ℕ) (y : Node) → m < l.j → slice_get l.nodes m ≡ Some y → rep l.reps l.i ≡ rep l.reps m → Alike l.x y

abbrev pub invariant-loop-i : goal.invariant-loop-i
invariant-loop-i l = (k m : ℕ) (x y : Node) → k < l.i → slice_get l.nodes k ≡ Some x → slice_get l.nodes m ≡ Some y → rep l.reps k ≡ rep l.reps m → Alike x y
