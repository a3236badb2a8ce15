use Rattle.std.proofs.Common.{◌∙◌, List, subst}
use Rattle.std.specs.Prelude.{MatchOption}
use Rattle.evo_resolved.specs.Found.{IsFound}
use Rattle.evo_resolved.specs.Named.{conformance_key, is_conformance}
use Rattle.evo_resolved.specs.declared.module.RConformance.{RConformance}
use Rattle.evo_resolved.proofs.lists.Conformances.find.Goals as goal

pub returns : goal.returns
returns c = subst (λ (items : List RConformance). MatchOption c.find_in.result ((x : RConformance) → IsFound conformance_key is_conformance items c.args.key.now x → ⊥) (λ x. IsFound conformance_key is_conformance items c.args.key.now x.now)) (c.as_slice.ensures ∙ c.self.view_is) c.find_in.ensures
