use Rattle.evo_names.proofs.OneKey.{one_key}
use Rattle.evo_names.proofs.laws.one_key.Goals as goal

pub returns : goal.returns
returns c = one_key
