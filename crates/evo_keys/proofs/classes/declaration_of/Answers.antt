use Rattle.std.proofs.Common.{◌∙◌, sym}
use Rattle.evo_declarations.specs.Views.{key_of_type}
use Rattle.evo_declarations.specs.Worlds.{world_of}
use Rattle.evo_keys.proofs.Declaring.{declared_is}
use Rattle.evo_keys.proofs.classes.declaration_of.Goals as goal

pub returns : goal.returns
returns c = c.declared.ensures ∙ sym (declared_is (world_of c.args.world) (key_of_type c.args.id))
