use Rattle.std.proofs.Common.{Some, None, refl, sym, ap, ◌∙◌}
use Rattle.evo_declarations.specs.Limits.{behind_most, first_past}
use Rattle.evo_declarations.proofs.PastLimits.{of_listed}
use Rattle.evo_declarations.proofs.listed.Listing.past_limit.Goals as goal

pub returns-in-Some : goal.returns-in-Some
returns-in-Some c = of_listed c.args.self.now (Some c.in-Some.place) _ (sym c.in-Some.is ∙ c.behind_most.ensures ∙ ap behind_most c.as_slice-entries.ensures.value) refl

pub returns-in-None : goal.returns-in-None
returns-in-None c = of_listed c.args.self.now None c.first_past.result (sym c.in-None.is ∙ c.behind_most.ensures ∙ ap behind_most c.as_slice-entries.ensures.value) (c.first_past.ensures ∙ ap first_past c.as_slice-entries.ensures.value)
