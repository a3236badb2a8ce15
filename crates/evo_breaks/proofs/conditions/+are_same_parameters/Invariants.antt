use Rattle.std.proofs.Common.{length}
use Rattle.evo_breaks.proofs.conditions.+are_same_parameters.Given as goal

abbrev pub decreases-are_same_parameters : goal.decreases-are_same_parameters
decreases-are_same_parameters l = length l.a.now
