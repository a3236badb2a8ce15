use Rattle.std.proofs.Common.{◌≡◌, map, take}
use Rattle.evo_declarations.specs.Views.{entries_of}
use Rattle.evo_meeting.specs.Unwritten.{stored}
use Rattle.evo_meeting.proofs.memberwise.stored.Given as goal

abbrev pub invariant-loop-listed : goal.invariant-loop-listed
invariant-loop-listed l = map (λ t. t.now) l.found.items ≡ stored l.name (entries_of (take l.listed-index l.entries))
