use Rattle.std.proofs.Common.{◌≡◌, map, take}
use Rattle.evo_meeting.specs.Candidates.{call_text}
use Rattle.evo_meeting.specs.Spots.{spot_views}
use Rattle.evo_meeting.proofs.buckets.call_texts.Given as goal

abbrev pub invariant-loop-spot : goal.invariant-loop-spot
invariant-loop-spot l = map (λ t. t.items) l.texts.items ≡ map call_text (spot_views (take l.spot-index l.spots))
