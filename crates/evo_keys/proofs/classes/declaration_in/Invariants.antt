use Rattle.std.proofs.Common.{◌≡◌, drop}
use Rattle.evo_declarations.specs.Views.{key_of_type}
use Rattle.evo_declarations.specs.Worlds.{world_of}
use Rattle.evo_names.specs.Heads.{first_some}
use Rattle.evo_keys.specs.Types.{declared_at_number, first_declared}
use Rattle.evo_keys.proofs.classes.declaration_in.Given as goal

abbrev pub invariant-loop-number : goal.invariant-loop-number
invariant-loop-number l = first_declared (key_of_type l.id) (world_of l.world) ≡ first_some (declared_at_number (world_of l.world) (key_of_type l.id)) (drop l.number-index l.numbers)
