use Rattle.std.proofs.Common.{◌≡◌, map, take}
use Rattle.evo_tree.specs.Bare.{bare_stmt, bare_branch, bare_clause}
use Rattle.evo_tree_ops.proofs.same_statement.+sames.Given as goal

abbrev pub invariant-same_stmts-loop-i : goal.invariant-same_stmts-loop-i
invariant-same_stmts-loop-i l = map bare_stmt (take l.i l.xs) ≡ map bare_stmt (take l.i l.ys)

abbrev pub invariant-same_branches-loop-i : goal.invariant-same_branches-loop-i
invariant-same_branches-loop-i l = map bare_branch (take l.i l.xs) ≡ map bare_branch (take l.i l.ys)

abbrev pub invariant-same_clauses-loop-i : goal.invariant-same_clauses-loop-i
invariant-same_clauses-loop-i l = map bare_clause (take l.i l.xs) ≡ map bare_clause (take l.i l.ys)
