use Rattle.std.proofs.Common.{◌≡◌, ◌∷◌, [], map, subst}
use Rattle.evo_declarations.specs.Groups.{numbers_of}
use Rattle.evo_declarations.specs.Views.{key_of_type, view_of}
use Rattle.evo_declarations.specs.Worlds.{world_of}
use Rattle.evo_members.specs.Located.{self_of}
use Rattle.evo_members.specs.Texts.{alias_of}
use Rattle.evo_names.specs.Heads.{closure}
use Rattle.evo_names.specs.Listed.{Text, declarations}
use Rattle.evo_type_names.specs.Round.{member_of_protocol}
use Rattle.evo_members.proofs.NoAliases.{no_members}
use Rattle.evo_type_names.proofs.round.in_protocol.Goals as goal

pub returns-then-not-has_alias : goal.returns-then-not-has_alias
unfolding member_of_protocol
returns-then-not-has_alias c = no_members (world_of c.args.space.now.world) c.args.name.now (subst (λ (n : Text). numbers_of n (map alias_of (declarations (world_of c.args.space.now.world))) ≡ []) c.as_slice.ensures.value (c.has_alias.ensures c.if-not-has_alias.true)) (view_of c.args.view) (self_of c.args.own) (closure (world_of c.args.space.now.world) (key_of_type c.args.protocol ∷ []))
