use Rattle.evo_breaks.proofs.Unbroken.{each_unbroken}
use Rattle.evo_breaks.proofs.laws.each_unbroken.Goals as goal

pub returns : goal.returns
returns c = each_unbroken
