use Rattle.evo_names.specs.Resolved.{IsRequirement, conforms}
use Rattle.evo_headers.specs.Sites.{site_scope}
use Rattle.evo_headers.specs.Subjects.{subject_view}
use Rattle.evo_headers.proofs.Lacking.{protocol_at}
use Rattle.evo_headers.proofs.Lists.{adds_map_next, adds_nothing, exit}
use Rattle.evo_headers.proofs.requirements.push_conformances.Goals as goal

pub loop-protocol-init : goal.loop-protocol-init
loop-protocol-init c = adds_nothing (IsRequirement (site_scope c.args.site)) c.args.found.now.items

pub returns-in_err-push_conformance : goal.returns-in_err-push_conformance
returns-in_err-push_conformance c = exit _ c.from_residual.result c.in_err-push_conformance.field-0.0 c.from_residual.ensures.1 (protocol_at c.args.protocols.now c.loop-protocol.protocol-index c.protocol-item.result c.loop-protocol-test.true c.protocol-item.is) c.in_err-push_conformance.ensures

pub loop-protocol-preserved : goal.loop-protocol-preserved
loop-protocol-preserved c = adds_map_next (IsRequirement (site_scope c.args.site)) (conforms (subject_view c.args.subject)) c.args.protocols.now c.loop-protocol.protocol-index c.protocol-item.result _ _ _ c.loop-protocol-test.true c.protocol-item.is c.loop-protocol.invariant c.in_ok-push_conformance.ensures
