use Rattle.evo_declarations.specs.Views.{key_of_type}
use Rattle.evo_declarations.specs.Worlds.{world_of}
use Rattle.evo_members.proofs.AssociatedTypes.{in_braces_is, in_extensions_is}
use Rattle.evo_members.proofs.associated.associated_of.Goals as goal

pub returns-in-Some : goal.returns-in-Some
returns-in-Some c = in_braces_is (key_of_type c.args.protocol) c.args.name.now (world_of c.args.space.now.world) c.in-Some.number c.in-Some.ensures

pub returns-in-None : goal.returns-in-None
returns-in-None c = in_extensions_is (key_of_type c.args.protocol) c.args.name.now (world_of c.args.space.now.world) c.associated_in-in-None.result c.in-None.ensures c.associated_in-in-None.ensures
