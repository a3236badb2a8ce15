use Rattle.std.proofs.Common.{◌≡◌, ◌++◌, take}
use Rattle.evo_declarations.specs.Views.{entries_of}
use Rattle.evo_declarations.specs.Worlds.{world_of}
use Rattle.evo_meeting.specs.Spots.{spot_views}
use Rattle.evo_name_faults.specs.Conformances.{all_names, any_key}
use Rattle.evo_name_faults.proofs.conformances.push_all_imported.Given as goal

abbrev pub invariant-loop-listed : goal.invariant-loop-listed
invariant-loop-listed l = spot_views l.spots.items ≡ spot_views l.initial.spots.items ++ all_names any_key (world_of l.world) (entries_of (take l.listed-index l.entries))
