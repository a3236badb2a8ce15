use Rattle.evo_front.proofs.Unbuilt.{unbuilt_client}
use Rattle.evo_front.proofs.client.accept_client.Goals as goal

pub returns : goal.returns
returns c = unbuilt_client c.one_module.ensures c.args.interface.now c.args.text.now c.in-Ok.tree c.in-Ok.ensures.spelled (rw c.in-None.is at c.in_ok-client.ensures)
