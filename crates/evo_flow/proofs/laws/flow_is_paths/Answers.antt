use Rattle.evo_flow.proofs.Agree.{agrees}
use Rattle.evo_flow.proofs.laws.flow_is_paths.Goals as goal

pub returns : goal.returns
returns c = agrees
