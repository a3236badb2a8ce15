use Rattle.std.proofs.Common.{◌≡◌, drop}
use Rattle.evo_declarations.specs.Views.{key_of_type}
use Rattle.evo_declarations.specs.Worlds.{world_of}
use Rattle.evo_names.specs.Heads.{first_some}
use Rattle.evo_keys.specs.Roots.{root_at_number, first_root}
use Rattle.evo_keys.proofs.roots.root_in.Given as goal

abbrev pub invariant-loop-number : goal.invariant-loop-number
invariant-loop-number l = first_root l.sought (key_of_type l.id) (world_of l.world) ≡ first_some (root_at_number l.sought (key_of_type l.id) (world_of l.world)) (drop l.number-index l.numbers)
