use Rattle.std.proofs.Common.{take}
use Rattle.evo_names.specs.Heads.{protocol_named}
use Rattle.evo_names.specs.Resolved.{IsReference, Pairs}
use Rattle.evo_headers.specs.Sites.{site_scope}
use Rattle.evo_headers.proofs.references.protocols_of.Given as goal

abbrev pub invariant-loop-written : goal.invariant-loop-written
invariant-loop-written l = Pairs (IsReference (protocol_named (site_scope l.site).home)) (take l.written-index l.names) l.found.items
