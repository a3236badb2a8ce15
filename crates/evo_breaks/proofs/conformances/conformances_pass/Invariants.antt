use Rattle.std.proofs.Common.{◌≡◌, drop, flat_map}
use Rattle.evo_breaks.specs.Rules.{conformance_breaks}
use Rattle.evo_breaks.proofs.conformances.conformances_pass.Given as goal

-- none is broken so far
abbrev pub invariant-loop-protocol : goal.invariant-loop-protocol
invariant-loop-protocol l = flat_map (conformance_breaks l.old l.new l.key) l.protocols ≡ flat_map (conformance_breaks l.old l.new l.key) (drop l.protocol-index l.protocols)
