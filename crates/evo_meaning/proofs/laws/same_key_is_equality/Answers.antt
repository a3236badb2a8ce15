use Rattle.evo_meaning.proofs.SameKey.{same_key_is_equality}
use Rattle.evo_meaning.proofs.laws.same_key_is_equality.Goals as goal

pub returns : goal.returns
returns c = same_key_is_equality
