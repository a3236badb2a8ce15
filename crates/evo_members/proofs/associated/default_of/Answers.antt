use Rattle.std.proofs.Common.{◌∙◌, sym}
use Rattle.evo_declarations.specs.Views.{key_of_type}
use Rattle.evo_declarations.specs.Worlds.{world_of}
use Rattle.evo_members.specs.Located.{start_of}
use Rattle.evo_members.proofs.AssociatedTypes.{default_some}
use Rattle.evo_members.proofs.associated.default_of.Goals as goal

pub returns-else-not-has_default : goal.returns-else-not-has_default
unfolding start_of
returns-else-not-has_default c = default_some (world_of c.args.space.now.world) (key_of_type c.args.key) (key_of_type c.args.protocol) c.args.name.now c.in-Some.number c.in-Some.ensures (sym c.has_default.ensures ∙ c.if-not-has_default.false)
