use Rattle.evo_front.proofs.Visible.{accepted_interface}
use Rattle.evo_front.proofs.laws.interfaces_are_accepted.Goals as goal

pub returns : goal.returns
returns c = accepted_interface
