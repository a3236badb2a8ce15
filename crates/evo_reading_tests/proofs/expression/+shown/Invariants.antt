use Rattle.std.proofs.Common.{◌+◌, ◌*◌}
use Rattle.evo_reading_tests.proofs.expression.+shown.Given as goal

abbrev pub decreases-show : goal.decreases-show
decreases-show l = 4 * goal.size-show l

abbrev pub decreases-show_between : goal.decreases-show_between
decreases-show_between l = 4 * goal.size-show_between l + 1

abbrev pub decreases-show_call : goal.decreases-show_call
decreases-show_call l = 4 * goal.size-show_call l + 2

abbrev pub decreases-show_arguments : goal.decreases-show_arguments
decreases-show_arguments l = 4 * goal.size-show_arguments l + 1

abbrev pub decreases-show_operands : goal.decreases-show_operands
decreases-show_operands l = 4 * goal.size-show_operands l + 1

abbrev pub decreases-show_members : goal.decreases-show_members
decreases-show_members l = 4 * goal.size-show_members l + 3
