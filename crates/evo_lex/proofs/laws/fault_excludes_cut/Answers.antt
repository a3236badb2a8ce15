use Rattle.evo_lex.proofs.Cuts.{fault_no_cut}
use Rattle.evo_lex.proofs.laws.fault_excludes_cut.Goals as goal

pub returns : goal.returns
returns c = fault_no_cut
