use Rattle.std.proofs.Common.{◌≡◌, ◌++◌, flat_map, take}
use Rattle.evo_declarations.specs.Views.{key_of_type}
use Rattle.evo_declarations.specs.Worlds.{world_of}
use Rattle.evo_members.specs.Conforming.{conformed_at}
use Rattle.evo_members.specs.Views.{keys_of}
use Rattle.evo_members.proofs.conforming.push_group.Given as goal

abbrev pub invariant-loop-number : goal.invariant-loop-number
invariant-loop-number l = keys_of l.found.items ≡ keys_of l.initial.found.items ++ flat_map (conformed_at (world_of l.space.world) l.own (key_of_type l.fn.key)) (take l.number-index l.numbers)
