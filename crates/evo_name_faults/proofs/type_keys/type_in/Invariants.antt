use Rattle.std.proofs.Common.{◌≡◌, drop, slice_get}
use Rattle.std.specs.Option.{option_and_then}
use Rattle.evo_declarations.specs.Views.{key_of_type}
use Rattle.evo_declarations.specs.Worlds.{world_of}
use Rattle.evo_names.specs.Heads.{first_some}
use Rattle.evo_name_faults.specs.Conformances.{type_by, type_in}
use Rattle.evo_name_faults.proofs.type_keys.type_in.Given as goal

abbrev pub invariant-loop-number : goal.invariant-loop-number
invariant-loop-number l = type_in (world_of l.world) (key_of_type l.ty) ≡ first_some (λ i. option_and_then (type_by (world_of l.world) (key_of_type l.ty)) (slice_get (world_of l.world).own.entries i)) (drop l.number-index l.numbers)
