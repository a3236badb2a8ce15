use Rattle.evo_names.specs.Heads.{protocol_named}
use Rattle.evo_names.specs.Resolved.{IsReference}
use Rattle.evo_headers.specs.Sites.{site_scope}
use Rattle.evo_headers.specs.Unresolved.{IsNoProtocol}
use Rattle.evo_headers.proofs.Lists.{exit, one_here, pairs_next, pairs_start}
use Rattle.evo_headers.proofs.references.protocols_of.Goals as goal

pub loop-written-init : goal.loop-written-init
loop-written-init c = pairs_start (IsReference (protocol_named (site_scope c.args.site).home)) c.new-found.result.items c.new-found.ensures.items

pub returns-in_err-reference : goal.returns-in_err-reference
returns-in_err-reference c = exit _ c.from_residual.result c.in_err-reference.field-0.0 c.from_residual.ensures.1 (one_here (IsNoProtocol (site_scope c.args.site).home) c.args.names.now c.loop-written.written-index c.written-item.result c.loop-written-test.true c.written-item.is) c.in_err-reference.ensures

pub loop-written-preserved : goal.loop-written-preserved
loop-written-preserved c = pairs_next (IsReference (protocol_named (site_scope c.args.site).home)) c.args.names.now c.loop-written.written-index c.written-item.result c.loop-written.found.items c.push.new.parts.items c.in_ok-reference.reference c.loop-written-test.true c.written-item.is c.loop-written.invariant c.in_ok-reference.ensures c.in_ok-push.ensures
