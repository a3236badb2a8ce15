use Rattle.std.proofs.Common.{◌≡◌, map, drop}
use Rattle.evo_resolved.specs.declared.statement.RClause.{out-RClause}
use Rattle.evo_flow.specs.Act.{act}
use Rattle.evo_flow.specs.Way.{in_turn, any_of}
use Rattle.evo_flow.specs.Flows.{flow, run_flows, one_of_flows}
use Rattle.evo_flow.specs.Trees.{stmt_way, block_way, branches_way}
use Rattle.evo_flow.proofs.statements.+statements.Given as goal

abbrev pub invariant-walk_statements-loop-statement : goal.invariant-walk_statements-loop-statement
invariant-walk_statements-loop-statement l = flow (act l.fact l.property) (in_turn (map stmt_way l.statement-items)) ≡ run_flows l.flow (map (λ s. flow (act l.fact l.property) (stmt_way s)) (drop l.statement-index l.statement-items))

abbrev pub invariant-walk_clauses-loop-clause : goal.invariant-walk_clauses-loop-clause
invariant-walk_clauses-loop-clause l = flow (act l.fact l.property) (any_of (map (λ c. in_turn (map stmt_way (out-RClause c).statements)) l.clause-items)) ≡ one_of_flows l.flow (map (λ c. flow (act l.fact l.property) (in_turn (map stmt_way (out-RClause c).statements))) (drop l.clause-index l.clause-items))

abbrev pub invariant-walk_branches-loop-i : goal.invariant-walk_branches-loop-i
invariant-walk_branches-loop-i l = l.rest ≡ flow (act l.fact l.property) (branches_way (map (λ b. (b.0, block_way b.1)) (drop l.i l.branches)))
