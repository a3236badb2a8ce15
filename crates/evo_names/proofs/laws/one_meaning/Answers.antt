use Rattle.evo_names.proofs.OneMeaning.{one_meaning}
use Rattle.evo_names.proofs.laws.one_meaning.Goals as goal

pub returns : goal.returns
returns c w s names met others t u d e = one_meaning w d e
