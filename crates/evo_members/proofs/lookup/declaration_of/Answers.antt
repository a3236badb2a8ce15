use Rattle.std.proofs.Common.{◌∙◌, ap, sym}
use Rattle.evo_declarations.specs.Views.{key_of_type}
use Rattle.evo_declarations.specs.Worlds.{world_of}
use Rattle.evo_members.specs.Sought.{by_number, if_declares}
use Rattle.evo_names.specs.Listed.{declarations}
use Rattle.evo_names.specs.Heads.{first_some}
use Rattle.evo_members.proofs.Members.{declaration_group}
use Rattle.evo_members.proofs.lookup.declaration_of.Goals as goal

pub loop-number-init : goal.loop-number-init
loop-number-init c = declaration_group (world_of c.args.space.now.world) (key_of_type c.args.key) ∙ ap (first_some (by_number (if_declares (key_of_type c.args.key)) (declarations (world_of c.args.space.now.world)))) (sym c.bases_named-numbers.ensures)
