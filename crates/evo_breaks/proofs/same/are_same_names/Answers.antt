use Rattle.evo_breaks.proofs.Equal.{names_test}
use Rattle.evo_breaks.proofs.same.are_same_names.Goals as goal

pub returns : goal.returns
returns c = names_test _ _ _ c.same_names.ensures
