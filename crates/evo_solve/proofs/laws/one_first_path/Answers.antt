use Rattle.evo_solve.proofs.OnePath.{one_first_path}
use Rattle.evo_solve.proofs.laws.one_first_path.Goals as goal

pub returns : goal.returns
returns c = one_first_path
