use Rattle.std.proofs.Common.{◌∙◌, ap, sym}
use Rattle.evo_declarations.specs.Views.{key_of_type}
use Rattle.evo_declarations.specs.Worlds.{world_of}
use Rattle.evo_members.specs.Associated.{associated_if}
use Rattle.evo_members.specs.Sought.{by_number}
use Rattle.evo_names.specs.Listed.{declarations}
use Rattle.evo_names.specs.Heads.{first_some}
use Rattle.evo_members.proofs.AssociatedTypes.{associated_group}
use Rattle.evo_members.proofs.associated.associated_in.Goals as goal

pub loop-number-init : goal.loop-number-init
loop-number-init c = associated_group (key_of_type c.args.protocol) c.args.name.now c.args.braces (world_of c.args.space.now.world) ∙ ap (first_some (by_number (associated_if (key_of_type c.args.protocol) c.args.name.now c.args.braces) (declarations (world_of c.args.space.now.world)))) (sym c.aliases_named-numbers.ensures)
