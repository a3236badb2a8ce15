use Rattle.std.proofs.Common.{take}
use Rattle.evo_names.specs.Resolved.{IsPayload, Pairs}
use Rattle.evo_headers.specs.Sites.{site_scope}
use Rattle.evo_headers.proofs.headers.payloads_of.Given as goal

abbrev pub invariant-loop-payload : goal.invariant-loop-payload
invariant-loop-payload l = Pairs (IsPayload (site_scope l.site)) (take l.payload-index l.payloads) l.found.items
