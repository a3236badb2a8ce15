use Rattle.std.proofs.Common.{List, ◌≡◌, sym, subst}
use Rattle.evo_names.specs.Listed.{Text}
use Rattle.evo_names.specs.Resolved.{IsRequirement, of_generic}
use Rattle.evo_headers.specs.Sites.{site_scope}
use Rattle.evo_headers.specs.Unresolved.{One}
use Rattle.evo_headers.proofs.Generics.{is_among}
use Rattle.evo_headers.proofs.Lacking.{generic_at}
use Rattle.evo_headers.proofs.Lists.{adds_flat_next, adds_nothing, exit}
use Rattle.evo_headers.proofs.requirements.push_generics.Goals as goal

pub loop-generic-init : goal.loop-generic-init
loop-generic-init c = adds_nothing (IsRequirement (site_scope c.args.site)) c.args.found.now.items

pub push_conformances-requires-clause-among : goal.push_conformances-requires-clause-among
push_conformances-requires-clause-among c = subst (λ (ns : List Text). One (λ (m : Text). m ≡ c.generic-item.result.name.text) ns) (sym c.requires.theirs) (is_among c.args.generics.now c.loop-generic.generic-index c.generic-item.result c.loop-generic-test.true c.generic-item.is)

pub returns-in_err-push_conformances : goal.returns-in_err-push_conformances
returns-in_err-push_conformances c = exit _ c.from_residual.result c.in_err-push_conformances.field-0.0 c.from_residual.ensures.1 (generic_at c.args.generics.now c.loop-generic.generic-index c.generic-item.result c.loop-generic-test.true c.generic-item.is) (rw c.as_slice.ensures at c.in_err-push_conformances.ensures)

pub loop-generic-preserved : goal.loop-generic-preserved
loop-generic-preserved c = adds_flat_next (IsRequirement (site_scope c.args.site)) of_generic c.args.generics.now c.loop-generic.generic-index c.generic-item.result _ _ _ c.loop-generic-test.true c.generic-item.is c.loop-generic.invariant (rw c.as_slice.ensures at c.in_ok-push_conformances.ensures)
