use Rattle.std.proofs.Common.{◌≡◌, ◌++◌, drop, map, filter}
use Rattle.evo_resolved.specs.declared.module.RDefault.{RDefault}
use Rattle.evo_breaks.specs.declared.rule.Rule.TheVariants as rule
use Rattle.evo_breaks.specs.Rules.{between, is_demanding, protocol_in}
use Rattle.evo_breaks.proofs.protocols.put_demands.Given as goal

-- what is found, and what the requirements that are left demand
abbrev pub invariant-loop-default : goal.invariant-loop-default
invariant-loop-default l = l.initial.found.items ++ map (λ (x : RDefault). between rule.RequirementWithoutDefault l.protocol x.requirement) (filter (is_demanding l.old l.new) l.defaults) ≡ l.found.items ++ map (λ (x : RDefault). between rule.RequirementWithoutDefault l.protocol x.requirement) (filter (is_demanding l.old l.new) (drop l.default-index l.defaults))
