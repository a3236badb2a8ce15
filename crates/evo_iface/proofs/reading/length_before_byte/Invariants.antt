use Rattle.std.proofs.Common.{◌≡◌, ◌+◌, drop}
use Rattle.evo_iface.specs.Fronts.{length_before}
use Rattle.evo_iface.proofs.reading.length_before_byte.Given as goal

abbrev pub invariant-loop-i : goal.invariant-loop-i
invariant-loop-i l = length_before l.byte l.text ≡ l.i + length_before l.byte (drop l.i l.text)
