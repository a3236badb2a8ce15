use Rattle.std.proofs.Common.{length}
use Rattle.evo_breaks.proofs.conditions.+are_same_payloads.Given as goal

abbrev pub decreases-are_same_payloads : goal.decreases-are_same_payloads
decreases-are_same_payloads l = length l.a.now
