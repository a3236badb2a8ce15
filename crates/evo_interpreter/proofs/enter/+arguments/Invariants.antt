use Rattle.std.proofs.Common.{length}
use Rattle.evo_interpreter.proofs.enter.+arguments.Given as goal

abbrev pub decreases-arguments : goal.decreases-arguments
decreases-arguments l = length l.args.now
