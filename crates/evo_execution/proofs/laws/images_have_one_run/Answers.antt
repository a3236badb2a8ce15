use Rattle.evo_execution.proofs.Whole.{has-one-run}
use Rattle.evo_execution.proofs.laws.images_have_one_run.Goals as goal

pub returns : goal.returns
returns c = has-one-run
