use Rattle.std.proofs.Common.{length}
use Rattle.evo_breaks.proofs.components.+are_same_among.Given as goal

abbrev pub decreases-are_same_among : goal.decreases-are_same_among
decreases-are_same_among l = length l.a.now
