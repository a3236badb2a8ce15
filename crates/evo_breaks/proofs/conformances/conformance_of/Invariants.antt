use Rattle.std.proofs.Common.{◌≡◌, drop}
use Rattle.evo_breaks.specs.Rules.{conformance_of}
use Rattle.evo_breaks.proofs.conformances.conformance_of.Given as goal

-- none so far
abbrev pub invariant-loop-conformance : goal.invariant-loop-conformance
invariant-loop-conformance l = conformance_of l.conformances l.key l.protocol ≡ conformance_of (drop l.conformance-index l.conformances) l.key l.protocol
