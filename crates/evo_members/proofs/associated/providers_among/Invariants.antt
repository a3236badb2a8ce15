use Rattle.std.proofs.Common.{◌≡◌, flat_map, take}
use Rattle.evo_declarations.specs.Worlds.{world_of}
use Rattle.evo_members.specs.Associated.{provider_if}
use Rattle.evo_members.specs.Views.{keys_of}
use Rattle.evo_members.proofs.associated.providers_among.Given as goal

abbrev pub invariant-loop-protocol : goal.invariant-loop-protocol
invariant-loop-protocol l = keys_of l.found.items ≡ flat_map (provider_if (world_of l.space.world) (keys_of l.declared) l.name) (keys_of (take l.protocol-index l.reached))
