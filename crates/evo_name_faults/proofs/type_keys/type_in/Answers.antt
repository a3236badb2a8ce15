use Rattle.std.proofs.Common.{◌≡◌, ap, sym, ◌∙◌, refl, slice_get}
use Rattle.std.specs.Option.{option_and_then}
use Rattle.evo_declarations.specs.Views.{key_of_type}
use Rattle.evo_declarations.specs.Worlds.{world_of}
use Rattle.evo_names.specs.Heads.{first_some}
use Rattle.evo_name_faults.specs.Conformances.{type_by}
use Rattle.evo_name_faults.proofs.TypeKeys.{in_group}
use Rattle.evo_name_faults.proofs.type_keys.type_in.Goals as goal

pub loop-number-init : goal.loop-number-init
loop-number-init c = in_group (world_of c.args.world) (key_of_type c.args.ty) c.args.world.own.now.listing.entries.items refl ∙ ap (first_some (λ i. option_and_then (type_by (world_of c.args.world) (key_of_type c.args.ty)) (slice_get (world_of c.args.world).own.entries i))) (sym c.types_named-numbers.ensures)
