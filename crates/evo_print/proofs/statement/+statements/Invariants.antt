use Rattle.std.proofs.Common.{◌≡◌, ◌++◌, codes, drop}
use Rattle.std.specs.List.{flat_map, join_by}
use Rattle.evo_tree.specs.Canonical.{stmt_text}
use Rattle.evo_print.specs.Texts.{branch, clause_lines}
use Rattle.evo_print.proofs.Lists.{left}
use Rattle.evo_print.proofs.statement.+statements.Given as goal

-- what is printed and what is left

abbrev pub invariant-print_stmts-loop-stmt : goal.invariant-print_stmts-loop-stmt
invariant-print_stmts-loop-stmt l = l.initial.out ++ flat_map (λ s. stmt_text s l.depth) l.stmt-items ≡ l.out ++ flat_map (λ s. stmt_text s l.depth) (drop l.stmt-index l.stmt-items)

abbrev pub invariant-print_clauses-loop-clause : goal.invariant-print_clauses-loop-clause
invariant-print_clauses-loop-clause l = l.initial.out ++ flat_map (λ c. clause_lines c l.depth) l.clause-items ≡ l.out ++ flat_map (λ c. clause_lines c l.depth) (drop l.clause-index l.clause-items)

abbrev pub invariant-print_branches-loop-index : goal.invariant-print_branches-loop-index
invariant-print_branches-loop-index l = l.initial.out ++ join_by (branch l.depth) (codes " else ") l.condition-items ≡ l.out ++ left (branch l.depth) (codes " else ") l.index l.condition-items
