use Rattle.std.proofs.Common.{◌∙◌, ap}
use Rattle.evo_declarations.specs.Views.{key_of_type}
use Rattle.evo_declarations.specs.Worlds.{world_of}
use Rattle.evo_members.specs.Views.{keys_of}
use Rattle.evo_members.proofs.AssociatedTypes.{providers_are}
use Rattle.evo_members.proofs.associated.providers.Goals as goal

pub returns : goal.returns
returns c = providers_are (world_of c.args.space.now.world) (keys_of c.args.protocols.now) (key_of_type c.args.key) c.args.name.now (keys_of c.as_slice-2.result.now) (keys_of c.as_slice.result.now) _ (ap keys_of c.as_slice-2.ensures.value ∙ c.in_ok-reached.ensures) (ap keys_of c.as_slice.ensures.value ∙ c.in_ok-declared.ensures) c.in_ok-found.ensures
