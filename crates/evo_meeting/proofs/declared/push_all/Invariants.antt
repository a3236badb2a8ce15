use Rattle.std.proofs.Common.{◌≡◌, ◌++◌, take}
use Rattle.evo_meeting.specs.DeclaredNames.{names_of}
use Rattle.evo_meeting.specs.Spots.{spot_views}
use Rattle.evo_meeting.proofs.declared.push_all.Given as goal

abbrev pub invariant-loop-listed : goal.invariant-loop-listed
invariant-loop-listed l = spot_views l.spots.items ≡ spot_views l.initial.spots.items ++ names_of l.world (take l.listed-index l.entries)
