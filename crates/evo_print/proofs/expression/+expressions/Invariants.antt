use Rattle.std.proofs.Common.{◌≡◌, ◌+◌, ◌*◌, ◌++◌, codes, drop}
use Rattle.std.specs.List.{flat_map, join_by}
use Rattle.evo_print.specs.Texts.{member, operand}
use Rattle.evo_print.proofs.Lists.{left}
use Rattle.evo_print.proofs.ExpressionTexts.{argument}
use Rattle.evo_print.proofs.expression.+expressions.Given as goal

abbrev pub decreases-print_expr : goal.decreases-print_expr
decreases-print_expr l = 4 * goal.size-print_expr l

abbrev pub decreases-print_boxed : goal.decreases-print_boxed
decreases-print_boxed l = 4 * goal.size-print_boxed l + 1

abbrev pub decreases-print_call : goal.decreases-print_call
decreases-print_call l = 4 * goal.size-print_call l + 2

abbrev pub decreases-print_arguments : goal.decreases-print_arguments
decreases-print_arguments l = 4 * goal.size-print_arguments l + 1

abbrev pub decreases-print_operands : goal.decreases-print_operands
decreases-print_operands l = 4 * goal.size-print_operands l + 1

abbrev pub decreases-print_members : goal.decreases-print_members
decreases-print_members l = 4 * goal.size-print_members l + 3

-- what is printed and what is left

abbrev pub invariant-print_arguments-loop-index : goal.invariant-print_arguments-loop-index
invariant-print_arguments-loop-index l = l.initial.out ++ join_by argument (codes ", ") l.label-items ≡ l.out ++ left argument (codes ", ") l.index l.label-items

abbrev pub invariant-print_members-loop-item : goal.invariant-print_members-loop-item
invariant-print_members-loop-item l = l.initial.out ++ flat_map member l.item-items ≡ l.out ++ flat_map member (drop l.item-index l.item-items)

abbrev pub invariant-print_operands-loop-operator : goal.invariant-print_operands-loop-operator
invariant-print_operands-loop-operator l = l.initial.out ++ flat_map operand l.operator-items ≡ l.out ++ flat_map operand (drop l.operator-index l.operator-items)
