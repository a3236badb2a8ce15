use Rattle.evo_meeting.specs.Spots.{spot_views}
use Rattle.evo_meeting.proofs.AmongCandidates.{NoneBelow}
use Rattle.evo_meeting.proofs.twice.first_met.Given as goal

abbrev pub invariant-loop-number : goal.invariant-loop-number
invariant-loop-number l = NoneBelow (spot_views l.spots) l.start l.number
