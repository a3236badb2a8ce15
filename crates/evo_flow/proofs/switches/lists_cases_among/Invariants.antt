use Rattle.std.proofs.Common.{◌≡◌, drop, map}
use Rattle.std.specs.List.{list_all}
use Rattle.evo_resolved.specs.declared.statement.RClause.{out-RClause}
use Rattle.evo_flow.specs.Switches.{is_listed}
use Rattle.evo_flow.proofs.switches.lists_cases_among.Given as goal

abbrev pub invariant-loop-declaration : goal.invariant-loop-declaration
invariant-loop-declaration l = list_all (is_listed l.key (map (λ c. (out-RClause c).label) l.clauses)) l.declarations ≡ list_all (is_listed l.key (map (λ c. (out-RClause c).label) l.clauses)) (drop l.declaration-index l.declarations)
