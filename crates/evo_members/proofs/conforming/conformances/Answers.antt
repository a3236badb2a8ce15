use Rattle.std.proofs.Common.{ap}
use Rattle.evo_declarations.specs.Views.{key_of_type}
use Rattle.evo_declarations.specs.Worlds.{world_of}
use Rattle.evo_members.specs.Views.{keys_of}
use Rattle.evo_members.proofs.ByBase.{conformances_are}
use Rattle.evo_members.proofs.conforming.conformances.Goals as goal

pub returns : goal.returns
returns c = conformances_are (world_of c.args.space.now.world) (key_of_type c.args.key) (keys_of c.new-found.result.items) (keys_of c.push_group.new.found.items) _ (ap keys_of c.new-found.ensures.items) c.in_ok-push_group.ensures c.in_ok-push_group-2.ensures
