use Rattle.std.proofs.Common.{◌≡◌, drop}
use Rattle.evo_declarations.specs.Views.{entries_of}
use Rattle.evo_meeting.specs.Unwritten.{any_written}
use Rattle.evo_meeting.proofs.memberwise.any_written.Given as goal

abbrev pub invariant-loop-listed : goal.invariant-loop-listed
invariant-loop-listed l = any_written l.name (entries_of l.entries) ≡ any_written l.name (entries_of (drop l.listed-index l.entries))
