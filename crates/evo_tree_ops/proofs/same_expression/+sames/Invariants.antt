use Rattle.std.proofs.Common.{◌≡◌, ◌+◌, ◌*◌, map, take}
use Rattle.evo_tree.specs.Bare.{bare_argument, bare_member, bare_operand}
use Rattle.evo_tree_ops.proofs.same_expression.+sames.Given as goal

abbrev pub decreases-same_expr : goal.decreases-same_expr
decreases-same_expr l = 4 * goal.size-same_expr l

abbrev pub decreases-same_boxed : goal.decreases-same_boxed
decreases-same_boxed l = 4 * goal.size-same_boxed l + 1

abbrev pub decreases-same_arguments : goal.decreases-same_arguments
decreases-same_arguments l = 4 * goal.size-same_arguments l + 1

abbrev pub decreases-same_operands : goal.decreases-same_operands
decreases-same_operands l = 4 * goal.size-same_operands l + 1

abbrev pub decreases-same_call : goal.decreases-same_call
decreases-same_call l = 4 * goal.size-same_call l + 2

abbrev pub decreases-same_members : goal.decreases-same_members
decreases-same_members l = 4 * goal.size-same_members l + 3

abbrev pub invariant-same_arguments-loop-i : goal.invariant-same_arguments-loop-i
invariant-same_arguments-loop-i l = map bare_argument (take l.i l.xs) ≡ map bare_argument (take l.i l.ys)

abbrev pub invariant-same_members-loop-i : goal.invariant-same_members-loop-i
invariant-same_members-loop-i l = map bare_member (take l.i l.xs) ≡ map bare_member (take l.i l.ys)

abbrev pub invariant-same_operands-loop-i : goal.invariant-same_operands-loop-i
invariant-same_operands-loop-i l = map bare_operand (take l.i l.xs) ≡ map bare_operand (take l.i l.ys)
