use Rattle.std.proofs.Common.{◌≡◌, drop, map}
use Rattle.evo_resolved.specs.declared.statement.RClause.{out-RClause}
use Rattle.evo_flow.specs.Switches.{lists, takes_case}
use Rattle.evo_flow.proofs.switches.lists_case.Given as goal

abbrev pub invariant-loop-clause : goal.invariant-loop-clause
invariant-loop-clause l = lists (takes_case l.key) (map (λ c. (out-RClause c).label) l.clauses) ≡ lists (takes_case l.key) (map (λ c. (out-RClause c).label) (drop l.clause-index l.clauses))
