use Rattle.evo_lex.proofs.Cuts.{one_cut}
use Rattle.evo_lex.proofs.laws.one_cut.Goals as goal

pub returns : goal.returns
returns c = one_cut
