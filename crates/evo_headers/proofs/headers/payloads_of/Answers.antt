use Rattle.evo_names.specs.Resolved.{IsPayload}
use Rattle.evo_headers.specs.Headers.{payload_type}
use Rattle.evo_headers.specs.Sites.{site_scope}
use Rattle.evo_headers.specs.Unresolved.{IsVoid}
use Rattle.evo_headers.proofs.Lists.{exit, one_map, pairs_next, pairs_start}
use Rattle.evo_headers.proofs.headers.payloads_of.Goals as goal

pub loop-payload-init : goal.loop-payload-init
loop-payload-init c = pairs_start (IsPayload (site_scope c.args.site)) c.new-found.result.items c.new-found.ensures.items

pub returns-in_err-part : goal.returns-in_err-part
returns-in_err-part c = exit _ c.from_residual.result c.in_err-part.field-0.0 c.from_residual.ensures.1 (one_map (IsVoid (site_scope c.args.site)) payload_type c.args.payloads.now c.loop-payload.payload-index c.payload-item.result c.loop-payload-test.true c.payload-item.is) c.in_err-part.ensures

pub loop-payload-preserved : goal.loop-payload-preserved
loop-payload-preserved c = pairs_next (IsPayload (site_scope c.args.site)) c.args.payloads.now c.loop-payload.payload-index c.payload-item.result c.loop-payload.found.items c.push.new.parts.items c.in_ok-part.part c.loop-payload-test.true c.payload-item.is c.loop-payload.invariant c.in_ok-part.ensures c.in_ok-push.ensures
