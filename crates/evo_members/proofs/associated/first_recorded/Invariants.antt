use Rattle.std.proofs.Common.{◌≡◌, drop}
use Rattle.evo_declarations.specs.Views.{key_of_type}
use Rattle.evo_declarations.specs.Worlds.{world_of}
use Rattle.evo_members.specs.Associated.{recorded_in}
use Rattle.evo_members.specs.Views.{keys_of}
use Rattle.evo_members.proofs.associated.first_recorded.Given as goal

abbrev pub invariant-loop-protocol : goal.invariant-loop-protocol
invariant-loop-protocol l = recorded_in (world_of l.space.world) (key_of_type l.fn.key) l.name (keys_of l.protocols) ≡ recorded_in (world_of l.space.world) (key_of_type l.fn.key) l.name (keys_of (drop l.protocol-index l.protocols))
