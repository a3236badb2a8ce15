use Rattle.evo_names.proofs.OneDeclared.{one_declared}
use Rattle.evo_names.proofs.laws.one_declared.Goals as goal

pub returns : goal.returns
returns c = one_declared
