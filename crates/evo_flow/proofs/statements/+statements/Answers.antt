use Rattle.std.proofs.Common.{◌≡◌, ◌+◌, ◌-◌, ◌<◌, map, length, ap, sym, ◌∙◌, arith}
use Rattle.evo_resolved.specs.declared.statement.RClause.{out-RClause}
use Rattle.evo_flow.specs.Act.{act}
use Rattle.evo_flow.specs.Way.{skip, leaving, stopped, in_turn}
use Rattle.evo_flow.specs.Flows.{flow}
use Rattle.evo_flow.specs.Trees.{stmt_way}
use Rattle.evo_flow.specs.TreeFlows.{switch_flow}
use Rattle.evo_flow.proofs.Turns.{flows_run_on, flows_one_of, step_flows, step_one_of, step_branches, end_one_of, switch_is, stmt_switch_is, stmt_if_is}
use Rattle.evo_flow.proofs.statements.+statements.Goals as goal

pub walk_statements-loop-statement-init : goal.walk_statements-loop-statement-init
walk_statements-loop-statement-init t c = rw c.skip-flow.ensures (flows_run_on (act c.args.fact c.args.property.now) stmt_way skip c.as_slice-statement-items.result.now)

pub walk_clauses-loop-clause-init : goal.walk_clauses-loop-clause-init
walk_clauses-loop-clause-init t c = rw c.stopping-flow.ensures (flows_one_of (act c.args.fact c.args.property.now) (λ k. in_turn (map stmt_way (out-RClause k).statements)) (leaving stopped) c.as_slice-clause-items.result.now)

pub walk_statements-loop-statement-preserved : goal.walk_statements-loop-statement-preserved
walk_statements-loop-statement-preserved t c =
    let f = act c.args.fact c.args.property.now in
    step_flows (λ s. flow f (stmt_way s)) c.as_slice-statement-items.result.now c.loop-statement.statement-index c.statement-item.result _ c.loop-statement.flow c.then-flow.result
    c.loop-statement-test.true c.statement-item.is c.loop-statement.invariant (rw (← c.walk_stmt.ensures) c.then-flow.ensures)

pub walk_clauses-loop-clause-preserved : goal.walk_clauses-loop-clause-preserved
walk_clauses-loop-clause-preserved t c =
    let f = act c.args.fact c.args.property.now in
    step_one_of (λ k. flow f (in_turn (map stmt_way (out-RClause k).statements))) c.as_slice-clause-items.result.now c.loop-clause.clause-index c.clause-item.result _ c.loop-clause.flow c.either-flow.result
    c.loop-clause-test.true c.clause-item.is c.loop-clause.invariant (rw (← c.walk_statements.ensures) c.either-flow.ensures)

pub walk_branches-loop-i-preserved : goal.walk_branches-loop-i-preserved
walk_branches-loop-i-preserved t c =
    let f = act c.args.fact c.args.property.now in
    let within : c.loop-i.i - 1 < length c.as_slice-branches.result.now = omega arith in
    let here : c.loop-i.i - 1 + 1 ≡ c.loop-i.i = omega arith in
    step_branches f c.as_slice-branches.result.now (c.loop-i.i - 1) c.index-branches-i.result c.loop-i.rest c.walk_branch-rest.result within c.index-branches-i.is
    (rw here c.loop-i.invariant) (rw (← c.walk_block-block.ensures) c.walk_branch-rest.ensures)

pub walk_clauses-returns : goal.walk_clauses-returns
walk_clauses-returns t c =
    let f = act c.args.fact c.args.property.now in
    rw (← c.as_slice-clause-items.ensures)
    (end_one_of (λ k. flow f (in_turn (map stmt_way (out-RClause k).statements))) c.as_slice-clause-items.result.now c.loop-clause.clause-index _ c.loop-clause.flow c.loop-clause-test.false c.loop-clause.invariant)

pub walk_stmt-returns-in-Switch : goal.walk_stmt-returns-in-Switch
walk_stmt-returns-in-Switch t c =
    let f = act c.args.fact c.args.property.now in
    let v = c.in-Switch in
    c.walk_switch.ensures
    ∙ ap (λ g. switch_flow f v.value g) c.walk_clauses-through.ensures
    ∙ sym (switch_is f v.value v.clauses)
    ∙ ap (flow f) (sym (stmt_switch_is v.field-0 v.value v.clauses))
    ∙ ap (λ s. flow f (stmt_way s)) (sym v.is)

pub walk_stmt-returns-in-If : goal.walk_stmt-returns-in-If
walk_stmt-returns-in-If t c =
    let f = act c.args.fact c.args.property.now in
    let v = c.in-If in
    c.walk_branches.ensures ∙ ap (flow f) (sym (stmt_if_is v.field-0 v.branches)) ∙ ap (λ s. flow f (stmt_way s)) (sym v.is)
