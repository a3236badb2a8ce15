use Rattle.std.proofs.Common.{◌≡◌, map, drop}
use Rattle.evo_flow.specs.Act.{act}
use Rattle.evo_flow.specs.Flows.{flow, run_flows}
use Rattle.evo_flow.specs.Trees.{args_way, expr_way, operands_way, operand_way, members_way, member_way}
use Rattle.evo_flow.proofs.expressions.+expressions.Given as goal

abbrev pub invariant-walk_args-loop-arg : goal.invariant-walk_args-loop-arg
invariant-walk_args-loop-arg l = flow (act l.fact l.property) (args_way l.arg-items) ≡ run_flows l.flow (map (λ e. flow (act l.fact l.property) (expr_way e)) (drop l.arg-index l.arg-items))

abbrev pub invariant-walk_operands-loop-operand : goal.invariant-walk_operands-loop-operand
invariant-walk_operands-loop-operand l = flow (act l.fact l.property) (operands_way l.operand-items) ≡ run_flows l.flow (map (λ o. flow (act l.fact l.property) (operand_way o.0 (expr_way o.1))) (drop l.operand-index l.operand-items))

abbrev pub invariant-walk_members-loop-member : goal.invariant-walk_members-loop-member
invariant-walk_members-loop-member l = flow (act l.fact l.property) (members_way l.member-items) ≡ run_flows l.flow (map (λ e. flow (act l.fact l.property) (member_way e)) (drop l.member-index l.member-items))
