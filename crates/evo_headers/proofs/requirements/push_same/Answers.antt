use Rattle.evo_names.specs.Resolved.{IsRequirement, equal}
use Rattle.evo_headers.specs.Sites.{site_scope}
use Rattle.evo_headers.specs.Unresolved.{here, later, no_type}
use Rattle.evo_headers.proofs.Lists.{adds_one, exit}
use Rattle.evo_headers.proofs.requirements.push_same.Goals as goal

pub returns-in_err-first : goal.returns-in_err-first
returns-in_err-first c = exit _ c.from_residual.result c.in_err-first.field-0.0 c.from_residual.ensures.1 (λ v. no_type (here v)) c.in_err-first.ensures

pub returns-in_err-second : goal.returns-in_err-second
returns-in_err-second c = exit _ c.from_residual-in_err-second.result c.in_err-second.field-0.0 c.from_residual-in_err-second.ensures.1 (λ v. no_type (later (here v))) c.in_err-second.ensures

pub returns : goal.returns
returns c = adds_one (IsRequirement (site_scope c.args.site)) _ _ c.args.found.now.items c.push.new.parts.items (equal c.in_ok-first.ensures c.in_ok-second.ensures) c.in_ok-push.ensures
