use Rattle.std.proofs.Common.{◌≡◌, drop, map}
use Rattle.std.specs.List.{list_any}
use Rattle.evo_resolved.specs.declared.statement.RClause.{out-RClause}
use Rattle.evo_flow.specs.Switches.{is_default}
use Rattle.evo_flow.proofs.switches.has_default.Given as goal

abbrev pub invariant-loop-clause : goal.invariant-loop-clause
invariant-loop-clause l = list_any is_default (map (λ c. (out-RClause c).label) l.clauses) ≡ list_any is_default (map (λ c. (out-RClause c).label) (drop l.clause-index l.clauses))
