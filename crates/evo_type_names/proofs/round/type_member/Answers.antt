use Rattle.evo_declarations.specs.Views.{key_of_type, view_of}
use Rattle.evo_declarations.specs.Worlds.{world_of}
use Rattle.evo_members.proofs.NoAliases.{no_member}
use Rattle.evo_type_names.proofs.round.type_member.Goals as goal

pub returns-then-not-has_alias : goal.returns-then-not-has_alias
returns-then-not-has_alias c = no_member (world_of c.args.space.now.world) c.args.name.now (c.has_alias.ensures c.if-not-has_alias.true) (view_of c.args.view) (key_of_type c.args.key)
