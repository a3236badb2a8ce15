use Rattle.std.proofs.Common.{◌≡◌, drop}
use Rattle.evo_breaks.specs.Rules.{protocol_in}
use Rattle.evo_breaks.proofs.protocols.protocol_in.Given as goal

-- none so far
abbrev pub invariant-loop-protocol : goal.invariant-loop-protocol
invariant-loop-protocol l = protocol_in l.protocols l.key ≡ protocol_in (drop l.protocol-index l.protocols) l.key
