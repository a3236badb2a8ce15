use Rattle.evo_parse.proofs.Modules.{no_fault}
use Rattle.evo_parse.proofs.laws.no_fault.Goals as goal

pub returns : goal.returns
returns c = no_fault
