use Rattle.evo_names.specs.Resolved.{IsRequirement, conforming}
use Rattle.evo_headers.specs.Sites.{site_scope}
use Rattle.evo_headers.specs.Unresolved.{here, no_protocol}
use Rattle.evo_headers.proofs.Lists.{adds_one, exit}
use Rattle.evo_headers.proofs.requirements.push_conformance.Goals as goal

pub returns-in_err-reference : goal.returns-in_err-reference
returns-in_err-reference c = exit _ c.from_residual-in_err-reference.result c.in_err-reference.field-0.0 c.from_residual-in_err-reference.ensures.1 (λ n. no_protocol (here n)) c.in_err-reference.ensures

pub returns : goal.returns
returns c = adds_one (IsRequirement (site_scope c.args.site)) _ _ c.args.found.now.items c.push.new.parts.items (conforming c.in_ok-conforming.ensures c.in_ok-reference.ensures) c.in_ok-push.ensures
