use Rattle.std.proofs.Common.{length}
use Rattle.evo_name_faults.proofs.taken.+again_in.Given as goal

abbrev pub decreases-again_in : goal.decreases-again_in
decreases-again_in l = length l.generics.now
