use Rattle.std.proofs.Common.{◌∙◌, List, subst}
use Rattle.std.specs.Prelude.{MatchOption}
use Rattle.evo_resolved.specs.Found.{IsFound}
use Rattle.evo_resolved.specs.Named.{body_key, is_body}
use Rattle.evo_resolved.specs.declared.body.RBody.{RBody}
use Rattle.evo_resolved.proofs.lists.Bodies.find.Goals as goal

pub returns : goal.returns
returns c = subst (λ (items : List RBody). MatchOption c.find_in.result ((x : RBody) → IsFound body_key is_body items c.args.key.now x → ⊥) (λ x. IsFound body_key is_body items c.args.key.now x.now)) (c.as_slice.ensures ∙ c.self.view_is) c.find_in.ensures
