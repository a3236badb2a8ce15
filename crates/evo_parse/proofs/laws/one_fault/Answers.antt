use Rattle.evo_parse.proofs.Modules.{one_fault}
use Rattle.evo_parse.proofs.laws.one_fault.Goals as goal

pub returns : goal.returns
returns c = one_fault
