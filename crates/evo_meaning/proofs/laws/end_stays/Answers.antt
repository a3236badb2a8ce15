use Rattle.evo_meaning.proofs.TickLaws.{end_stays}
use Rattle.evo_meaning.proofs.laws.end_stays.Goals as goal

pub returns : goal.returns
returns c = end_stays
