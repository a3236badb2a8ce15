use Rattle.std.proofs.Common.{◌≡◌, ◌++◌, take}
use Rattle.evo_declarations.specs.Views.{key_of_type}
use Rattle.evo_declarations.specs.Worlds.{world_of}
use Rattle.evo_meeting.specs.Spots.{spot_views}
use Rattle.evo_name_faults.specs.Conformances.{names_by}
use Rattle.evo_name_faults.proofs.conformances.push_conformances.Given as goal

abbrev pub invariant-loop-name : goal.invariant-loop-name
invariant-loop-name l = spot_views l.spots.items ≡ spot_views l.initial.spots.items ++ names_by (world_of l.world) (key_of_type l.ty) (take l.name-index l.names)
