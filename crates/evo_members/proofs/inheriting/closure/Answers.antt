use Rattle.std.proofs.Common.{ap}
use Rattle.evo_declarations.specs.Worlds.{world_of}
use Rattle.evo_members.specs.Inheriting.{keys_left}
use Rattle.evo_members.specs.Views.{keys_of}
use Rattle.evo_members.proofs.Inherited.{closure_from}
use Rattle.evo_members.proofs.inheriting.closure.Goals as goal

pub returns : goal.returns
returns c = closure_from (world_of c.args.space.now.world) c.args.protocols.now (keys_of c.new-found.result.items) (keys_left c.in_ok-left.left.items) (keys_of c.visit_times.new.found.items) (keys_left c.visit_times.new.left.items) _ _ c.inherited_count.result (ap keys_of c.new-found.ensures.items) c.in_ok-left.ensures c.inherited_count.ensures c.in_ok-visit_times.ensures c.in_ok-visit_times-2.ensures
