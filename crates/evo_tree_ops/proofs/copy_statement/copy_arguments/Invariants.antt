use Rattle.std.proofs.Common.{◌≡◌, take}
use Rattle.evo_tree_ops.proofs.copy_statement.copy_arguments.Given as goal

abbrev pub invariant-loop-label : goal.invariant-loop-label
invariant-loop-label l = l.copies ≡ take l.label-index l.items
