use Rattle.evo_meaning.proofs.Dispatch.{dispatch_stays}
use Rattle.evo_meaning.proofs.laws.dispatch_stays.Goals as goal

pub returns : goal.returns
returns c = dispatch_stays
