use Rattle.std.proofs.Common.{ap, sym, ◌∙◌}
use Rattle.evo_declarations.specs.Views.{key_of_type}
use Rattle.evo_declarations.specs.Worlds.{world_of}
use Rattle.evo_names.specs.Heads.{first_some}
use Rattle.evo_keys.specs.Roots.{root_at_number}
use Rattle.evo_keys.proofs.Rooting.{in_group}
use Rattle.evo_keys.proofs.roots.root_in.Goals as goal

pub loop-number-init : goal.loop-number-init
loop-number-init c = in_group c.args.sought (key_of_type c.args.id) (world_of c.args.world) ∙ ap (first_some (root_at_number c.args.sought (key_of_type c.args.id) (world_of c.args.world))) (sym (c.having-numbers.ensures ∙ c.requires c.args.sought.base.now))
