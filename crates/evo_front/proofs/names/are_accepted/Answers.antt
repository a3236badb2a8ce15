use Rattle.evo_front.proofs.Visible.{distinct_seen}
use Rattle.evo_front.proofs.names.are_accepted.Goals as goal

pub visible_names-requires : goal.visible_names-requires
visible_names-requires c = distinct_seen c.args.functions.now (rw c.in-Some.is at c.in_ok-all.ensures).2
