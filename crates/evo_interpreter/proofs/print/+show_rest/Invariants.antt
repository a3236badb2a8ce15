use Rattle.std.proofs.Common.{length}
use Rattle.evo_interpreter.proofs.print.+show_rest.Given as goal

abbrev pub decreases-show_rest : goal.decreases-show_rest
decreases-show_rest l = length l.items.now
