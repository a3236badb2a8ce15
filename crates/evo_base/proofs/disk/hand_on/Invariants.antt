use Rattle.std.proofs.Common.{◌≤◌, take, length}
use Rattle.std.specs.Io.KnownBytes.{Appends}
use Rattle.evo_base.proofs.disk.hand_on.Given as goal

abbrev pub invariant-loop-turn : goal.invariant-loop-turn
invariant-loop-turn g l = record { within : l.at ≤ length l.piece; handed : Appends (g.W.Write.contents l.initial.stream) (g.W.Write.contents l.stream) (take l.at l.piece) }
