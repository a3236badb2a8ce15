use Rattle.std.proofs.Common.{◌∙◌, sym}
use Rattle.evo_declarations.specs.Views.{key_of_type}
use Rattle.evo_keys.specs.Bases.{world_with}
use Rattle.evo_keys.proofs.Rooting.{class_is}
use Rattle.evo_keys.proofs.roots.root_of_class.Goals as goal

pub returns : goal.returns
returns c = c.root_in_both.ensures ∙ sym (class_is c.args.sought (world_with c.args.bases) (key_of_type c.args.id))
