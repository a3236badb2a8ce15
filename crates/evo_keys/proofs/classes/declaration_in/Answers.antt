use Rattle.std.proofs.Common.{ap, sym, ◌∙◌, refl}
use Rattle.evo_declarations.specs.Views.{key_of_type}
use Rattle.evo_declarations.specs.Worlds.{world_of}
use Rattle.evo_names.specs.Heads.{first_some}
use Rattle.evo_keys.specs.Types.{declared_at_number}
use Rattle.evo_keys.proofs.Declaring.{in_group}
use Rattle.evo_keys.proofs.classes.declaration_in.Goals as goal

pub loop-number-init : goal.loop-number-init
loop-number-init c = in_group (world_of c.args.world) (key_of_type c.args.id) c.args.world.own.now.listing.entries.items refl ∙ ap (first_some (declared_at_number (world_of c.args.world) (key_of_type c.args.id))) (sym c.types_named-numbers.ensures)
