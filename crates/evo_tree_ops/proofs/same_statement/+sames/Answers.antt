use Rattle.std.proofs.Common.{false}
use Rattle.evo_tree.specs.Bare.{bare_branch, bare_clause, bare_stmt}
use Rattle.evo_tree_ops.proofs.Lists.{and_iff, iff_trans, pair_iff, slices_differ}
use Rattle.evo_tree.proofs.SameStatements.{if_same, while_same, switch_same}
use Rattle.evo_tree_ops.proofs.same_statement.+sames.Goals as goal

pub same_stmt-returns-in-If-b : goal.same_stmt-returns-in-If-b
same_stmt-returns-in-If-b t c =
    iff_trans c.same_branches.ensures (if_same c.args.a.now c.args.b.now c.in-If.field-0 c.in-If-b.field-0 c.in-If.xs c.in-If-b.ys c.in-If.is c.in-If-b.is)

pub same_stmt-returns-in-While-b : goal.same_stmt-returns-in-While-b
same_stmt-returns-in-While-b t c =
    iff_trans (and_iff c.both-in-While-b.result c.same-in-While-b.result c.same_block.result c.both-in-While-b.ensures c.same-in-While-b.ensures c.same_block.ensures)
    (while_same c.args.a.now c.args.b.now c.in-While.field-0 c.in-While-b.field-0 c.in-While.x c.in-While-b.y c.in-While.v c.in-While-b.w c.in-While.is c.in-While-b.is)

pub same_stmt-returns-in-Switch-b : goal.same_stmt-returns-in-Switch-b
same_stmt-returns-in-Switch-b t c =
    iff_trans (and_iff c.both-in-Switch-b.result c.same-in-Switch-b.result c.same_clauses.result c.both-in-Switch-b.ensures c.same-in-Switch-b.ensures c.same_clauses.ensures)
    (switch_same c.args.a.now c.args.b.now c.in-Switch.field-0 c.in-Switch-b.field-0 c.in-Switch.x c.in-Switch-b.y c.in-Switch.xs c.in-Switch-b.ys c.in-Switch.is c.in-Switch-b.is)

pub same_stmts-returns-then-not-same_stmt : goal.same_stmts-returns-then-not-same_stmt
same_stmts-returns-then-not-same_stmt t c =
    slices_differ bare_stmt c.args.a.now c.args.b.now c.as_slice-xs.result.now c.as_slice-ys.result.now c.loop-i.i c.index-xs-i.result c.index-ys-i.result c.as_slice-xs.ensures c.as_slice-ys.ensures c.loop-i-test.true c.if-xs-ys.false c.index-xs-i.is c.index-ys-i.is
    c.if-not-same_stmt.ensures

pub same_branches-returns-then-not-both : goal.same_branches-returns-then-not-both
same_branches-returns-then-not-both t c =
    slices_differ bare_branch c.args.a.now c.args.b.now c.as_slice-xs.result.now c.as_slice-ys.result.now c.loop-i.i c.index-xs-i.result c.index-ys-i.result c.as_slice-xs.ensures c.as_slice-ys.ensures c.loop-i-test.true c.if-xs-ys.false c.index-xs-i.is c.index-ys-i.is
    (iff_trans (and_iff false c.same_option.result c.same_block.result c.if-not-both.ensures c.same_option.ensures c.same_block.ensures) (pair_iff (bare_branch c.index-xs-i.result) (bare_branch c.index-ys-i.result)))

pub same_clauses-returns-then-not-same_clause : goal.same_clauses-returns-then-not-same_clause
same_clauses-returns-then-not-same_clause t c =
    slices_differ bare_clause c.args.a.now c.args.b.now c.as_slice-xs.result.now c.as_slice-ys.result.now c.loop-i.i c.index-xs-i.result c.index-ys-i.result c.as_slice-xs.ensures c.as_slice-ys.ensures c.loop-i-test.true c.if-xs-ys.false c.index-xs-i.is c.index-ys-i.is
    c.if-not-same_clause.ensures
