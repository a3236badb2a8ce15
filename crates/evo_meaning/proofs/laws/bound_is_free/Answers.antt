use Rattle.evo_meaning.proofs.Fuel.{bound_is_free}
use Rattle.evo_meaning.proofs.laws.bound_is_free.Goals as goal

pub returns : goal.returns
returns c = bound_is_free
