use Rattle.std.proofs.Common.{ap, sym, ◌∙◌}
use Rattle.evo_flow.specs.Flows.{flow, then_flow}
use Rattle.evo_flow.specs.Act.{act}
use Rattle.evo_flow.specs.Way.{skip}
use Rattle.evo_flow.specs.Trees.{expr_way, member_way, operand_way, operands_way}
use Rattle.evo_flow.proofs.Turns.{flows_run_on, chain_is}
use Rattle.evo_flow.proofs.expressions.+expressions.Goals as goal

pub walk_args-loop-arg-init : goal.walk_args-loop-arg-init
walk_args-loop-arg-init t c = rw c.skip-flow.ensures (flows_run_on (act c.args.fact c.args.property.now) expr_way skip c.as_slice-arg-items.result.now)

pub walk_members-loop-member-init : goal.walk_members-loop-member-init
walk_members-loop-member-init t c = rw c.skip-flow.ensures (flows_run_on (act c.args.fact c.args.property.now) member_way skip c.as_slice-member-items.result.now)

pub walk_operands-loop-operand-init : goal.walk_operands-loop-operand-init
walk_operands-loop-operand-init t c = rw c.skip-flow.ensures (flows_run_on (act c.args.fact c.args.property.now) (λ o. operand_way o.0 (expr_way o.1)) skip c.as_slice-operand-items.result.now)

pub walk_expr-returns-in-Chain : goal.walk_expr-returns-in-Chain
walk_expr-returns-in-Chain t c =
    let f = act c.args.fact c.args.property.now in
    let v = c.in-Chain in
    c.then.ensures
    ∙ ap (λ g. then_flow g c.walk_operands.result) c.walk_expr-in-Chain.ensures
    ∙ ap (λ g. then_flow (flow f (expr_way c.get-in-Chain.result.now)) g) c.walk_operands.ensures
    ∙ ap (λ a. then_flow (flow f (expr_way a)) (flow f (operands_way v.operands))) c.get-in-Chain.ensures
    ∙ ap (flow f) (sym (chain_is v.first v.operands v.field-2))
    ∙ ap (λ e. flow f (expr_way e)) (sym v.is)
