use Rattle.evo_breaks.proofs.Alone.{keeps_itself}
use Rattle.evo_breaks.proofs.laws.keeps_itself.Goals as goal

pub returns : goal.returns
returns c = keeps_itself
