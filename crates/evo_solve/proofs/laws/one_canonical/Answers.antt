use Rattle.evo_solve.proofs.Standing.{one_canonical}
use Rattle.evo_solve.proofs.laws.one_canonical.Goals as goal

pub returns : goal.returns
returns c = one_canonical
