use Rattle.std.proofs.Common.{◌≡◌, ◌++◌, take}
use Rattle.evo_declarations.specs.Worlds.{world_of}
use Rattle.evo_members.specs.Conforming.{protocols_in}
use Rattle.evo_members.specs.Views.{keys_of}
use Rattle.evo_members.proofs.conforming.push_protocols.Given as goal

abbrev pub invariant-loop-name : goal.invariant-loop-name
invariant-loop-name l = keys_of l.found.items ≡ keys_of l.initial.found.items ++ protocols_in (world_of l.world) (take l.name-index l.names)
