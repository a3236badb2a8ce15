use Rattle.std.proofs.Common.{◌++◌, codes}
use Rattle.std.specs.List.{flat_map, join_by}
use Rattle.evo_tree.specs.declared.statement.Block.{out-Block}
use Rattle.evo_tree.specs.declared.statement.Clause.{out-Clause}
use Rattle.evo_tree.specs.Canonical.{indent, line, expr_text, clause_text, block_text, stmt_text}
use Rattle.evo_print.specs.Texts.{branch, clause_lines, words_of}
use Rattle.evo_print.proofs.Steps.{named, named2, named3, named4}
use Rattle.evo_print.proofs.StatementTexts.{block_lines, clause_text_lines, if_words, while_words, switch_words}
use Rattle.evo_print.proofs.statement.+statements.Goals as goal

pub print_block-returns : goal.print_block-returns
print_block-returns t c =
    let inner = c.in_ok-inner.inner in
    let b = c.args.block.now in
    named3 c.close.result c.args.out.now (codes "{\n") (flat_map (λ x. stmt_text x inner) (out-Block b).statements) (indent c.args.depth ++ codes "}")
    c.put.new.self c.print_stmts.new.out c.close.new.self (block_text b c.args.depth)
    c.in_ok-put.ensures c.in_ok-print_stmts.ensures (block_lines b c.args.depth inner c.in_ok-inner.ensures) c.close.ensures

pub print_clause-returns : goal.print_clause-returns
print_clause-returns t c =
    let inner = c.in_ok-inner.inner in
    let b = c.args.clause.now in
    named2 c.print_stmts.result c.args.out.now (line c.args.depth (clause_text (out-Clause b).label)) (flat_map (λ x. stmt_text x inner) (out-Clause b).statements)
    c.print_clause_label.new.out c.print_stmts.new.out (clause_lines b c.args.depth)
    c.in_ok-print_clause_label.ensures (clause_text_lines b c.args.depth inner c.in_ok-inner.ensures) c.print_stmts.ensures

pub print_words-returns-in-If : goal.print_words-returns-in-If
print_words-returns-in-If t c =
    let v = c.in-If in
    let s = c.args.stmt.now in
    named c.print_branches.result c.args.out.now c.print_branches.new.out (join_by (branch c.args.depth) (codes " else ") v.branches) (words_of s c.args.depth)
    (if_words s c.args.depth v.field-0 v.branches v.is) c.print_branches.ensures

pub print_words-returns-in_ok-put-in-While : goal.print_words-returns-in_ok-put-in-While
print_words-returns-in_ok-put-in-While t c =
    let v = c.in-While in
    let s = c.args.stmt.now in
    named3 c.print_block.result c.args.out.now (codes "while " ++ expr_text v.condition) (codes " ") (block_text v.block c.args.depth)
    c.print_value-in-While.new.out c.put.new.self c.print_block.new.out (words_of s c.args.depth)
    c.in_ok-print_value-in-While.ensures c.in_ok-put-in-While.ensures (while_words s c.args.depth v.field-0 v.condition v.block v.is) c.print_block.ensures

pub print_words-returns-in_ok-print_clauses-in-Switch : goal.print_words-returns-in_ok-print_clauses-in-Switch
print_words-returns-in_ok-print_clauses-in-Switch t c =
    let v = c.in-Switch in
    let s = c.args.stmt.now in
    named4 c.close.result c.args.out.now (codes "switch " ++ expr_text v.value) (codes " {\n") (flat_map (λ x. clause_lines x c.args.depth) v.clauses) (indent c.args.depth ++ codes "}")
    c.print_value-in-Switch.new.out c.put-in-Switch.new.self c.print_clauses.new.out c.close.new.self (words_of s c.args.depth)
    c.in_ok-print_value-in-Switch.ensures c.in_ok-put-in-Switch.ensures c.in_ok-print_clauses-in-Switch.ensures (switch_words s c.args.depth v.field-0 v.value v.clauses v.is) c.close.ensures
