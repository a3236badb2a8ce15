use Rattle.evo_names.specs.Resolved.{IsRequirement, of_where}
use Rattle.evo_headers.specs.Sites.{site_scope}
use Rattle.evo_headers.proofs.Lacking.{requirement_at}
use Rattle.evo_headers.proofs.Lists.{adds_flat_next, adds_nothing, exit}
use Rattle.evo_headers.proofs.requirements.push_requirements.Goals as goal

pub loop-requirement-init : goal.loop-requirement-init
loop-requirement-init c = adds_nothing (IsRequirement (site_scope c.args.site)) c.args.found.now.items

pub returns-in_err-push_requirement : goal.returns-in_err-push_requirement
returns-in_err-push_requirement c = exit _ c.from_residual.result c.in_err-push_requirement.field-0.0 c.from_residual.ensures.1 (requirement_at c.args.requirements.now c.loop-requirement.requirement-index c.requirement-item.result c.loop-requirement-test.true c.requirement-item.is) c.in_err-push_requirement.ensures

pub loop-requirement-preserved : goal.loop-requirement-preserved
loop-requirement-preserved c = adds_flat_next (IsRequirement (site_scope c.args.site)) of_where c.args.requirements.now c.loop-requirement.requirement-index c.requirement-item.result _ _ _ c.loop-requirement-test.true c.requirement-item.is c.loop-requirement.invariant c.in_ok-push_requirement.ensures
