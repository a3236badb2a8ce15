use Rattle.evo_names.specs.Resolved.{IsParameter}
use Rattle.evo_headers.specs.Headers.{parameter_type}
use Rattle.evo_headers.specs.Sites.{site_scope}
use Rattle.evo_headers.specs.Unresolved.{IsVoid}
use Rattle.evo_headers.proofs.Lists.{exit, one_map, pairs_next, pairs_start}
use Rattle.evo_headers.proofs.headers.parameters_of.Goals as goal

pub loop-parameter-init : goal.loop-parameter-init
loop-parameter-init c = pairs_start (IsParameter (site_scope c.args.site)) c.new-found.result.items c.new-found.ensures.items

pub returns-in_err-part : goal.returns-in_err-part
returns-in_err-part c = exit _ c.from_residual.result c.in_err-part.field-0.0 c.from_residual.ensures.1 (one_map (IsVoid (site_scope c.args.site)) parameter_type c.args.parameters.now c.loop-parameter.parameter-index c.parameter-item.result c.loop-parameter-test.true c.parameter-item.is) c.in_err-part.ensures

pub loop-parameter-preserved : goal.loop-parameter-preserved
loop-parameter-preserved c = pairs_next (IsParameter (site_scope c.args.site)) c.args.parameters.now c.loop-parameter.parameter-index c.parameter-item.result c.loop-parameter.found.items c.push.new.parts.items c.in_ok-part.part c.loop-parameter-test.true c.parameter-item.is c.loop-parameter.invariant c.in_ok-part.ensures c.in_ok-push.ensures
