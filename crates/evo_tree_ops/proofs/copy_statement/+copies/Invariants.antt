use Rattle.std.proofs.Common.{◌≡◌, take}
use Rattle.evo_tree_ops.proofs.copy_statement.+copies.Given as goal

abbrev pub invariant-copy_stmts-loop-stmt : goal.invariant-copy_stmts-loop-stmt
invariant-copy_stmts-loop-stmt l = l.copies ≡ take l.stmt-index l.stmt-items

abbrev pub invariant-copy_branches-loop-condition : goal.invariant-copy_branches-loop-condition
invariant-copy_branches-loop-condition l = l.copies ≡ take l.condition-index l.condition-items

abbrev pub invariant-copy_clauses-loop-clause : goal.invariant-copy_clauses-loop-clause
invariant-copy_clauses-loop-clause l = l.copies ≡ take l.clause-index l.clause-items
