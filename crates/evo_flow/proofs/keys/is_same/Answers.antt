use Rattle.evo_meaning.proofs.SameKey.{same_key_is_equality}
use Rattle.evo_flow.proofs.Same.{one_truth}
use Rattle.evo_flow.proofs.keys.is_same.Goals as goal

pub returns : goal.returns
returns c = one_truth _ _ c.same_key.ensures (same_key_is_equality c.args.first.now c.args.second.now)
