use Rattle.std.proofs.Common.{◌≡◌, ap, sym, ◌∙◌, refl}
use Rattle.evo_declarations.specs.Heads.{head_at_number}
use Rattle.evo_declarations.specs.Views.{view_of}
use Rattle.evo_declarations.specs.Worlds.{module_view}
use Rattle.evo_names.specs.Heads.{first_some}
use Rattle.evo_declarations.proofs.HeadsInGroups.{in_group}
use Rattle.evo_declarations.proofs.heads.head_in.Goals as goal

pub loop-number-init : goal.loop-number-init
loop-number-init c = in_group (view_of c.args.view) (module_view c.args.names.now) c.args.name.now c.args.names.now.listing.entries.items refl ∙ ap (first_some (head_at_number (view_of c.args.view) (module_view c.args.names.now) c.args.name.now)) (sym c.types_named-numbers.ensures)
