use Rattle.evo_parse.proofs.Modules.{one_module}
use Rattle.evo_parse.proofs.laws.one_module.Goals as goal

pub returns : goal.returns
returns c = one_module
