use Rattle.evo_breaks.proofs.Equal.{key_test}
use Rattle.evo_breaks.proofs.same.is_same_key.Goals as goal

pub returns : goal.returns
returns c = key_test _ _ _ c.same_key.ensures
