-- The flows of the forms of trees, of the flows of their parts.
use Rattle.std.specs.Prelude.{Option, Some, None}
use Rattle.evo_tree.specs.declared.expression.InfixOperator.{InfixOperator}
use Rattle.evo_tree.specs.declared.expression.InfixOperator.TheVariants as op
use Rattle.evo_resolved.specs.declared.expression.RExpr.{RExpr}
use Rattle.evo_flow.specs.declared.flow.Effect.{Effect}
use Rattle.evo_flow.specs.declared.flow.Flow.{Flow}
use Rattle.evo_flow.specs.Way.{Step, breaks}
use Rattle.evo_flow.specs.Flows.{flow, skip_flow, then_flow, either_flow, loop_flow, left_flow, leaving_flow}
use Rattle.evo_flow.specs.Trees.{expr_way}

abbrev pub branch_flow : (Step → Effect) → Option RExpr → Flow → Flow → Flow
branch_flow act None b rest = b
branch_flow act (Some c) b rest = then_flow (flow act (expr_way c)) (either_flow b rest)

abbrev pub while_flow : (Step → Effect) → Option RExpr → Flow → Flow
while_flow act None b = loop_flow b
while_flow act (Some c) b = loop_flow (then_flow (flow act (expr_way c)) (either_flow b (leaving_flow breaks)))

abbrev pub operand_flow : InfixOperator → Flow → Flow
operand_flow op.And w = either_flow w skip_flow
operand_flow op.Or w = either_flow w skip_flow
operand_flow o w = w

abbrev pub switch_flow : (Step → Effect) → RExpr → Flow → Flow
switch_flow act e through = then_flow (flow act (expr_way e)) (left_flow through)
