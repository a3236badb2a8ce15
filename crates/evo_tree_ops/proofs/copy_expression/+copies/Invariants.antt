use Rattle.std.proofs.Common.{◌≡◌, ◌+◌, ◌*◌, take}
use Rattle.evo_tree_ops.proofs.copy_expression.+copies.Given as goal

abbrev pub decreases-copy_expr : goal.decreases-copy_expr
decreases-copy_expr l = 4 * goal.size-copy_expr l

abbrev pub decreases-copy_boxed : goal.decreases-copy_boxed
decreases-copy_boxed l = 4 * goal.size-copy_boxed l + 1

abbrev pub decreases-copy_call : goal.decreases-copy_call
decreases-copy_call l = 4 * goal.size-copy_call l + 2

abbrev pub decreases-copy_arguments : goal.decreases-copy_arguments
decreases-copy_arguments l = 4 * goal.size-copy_arguments l + 1

abbrev pub decreases-copy_operands : goal.decreases-copy_operands
decreases-copy_operands l = 4 * goal.size-copy_operands l + 1

abbrev pub decreases-copy_members : goal.decreases-copy_members
decreases-copy_members l = 4 * goal.size-copy_members l + 3

abbrev pub invariant-copy_arguments-loop-label : goal.invariant-copy_arguments-loop-label
invariant-copy_arguments-loop-label l = l.copies ≡ take l.label-index l.label-items

abbrev pub invariant-copy_members-loop-member : goal.invariant-copy_members-loop-member
invariant-copy_members-loop-member l = l.copies ≡ take l.member-index l.member-items

abbrev pub invariant-copy_operands-loop-operator : goal.invariant-copy_operands-loop-operator
invariant-copy_operands-loop-operator l = l.copies ≡ take l.operator-index l.operator-items
