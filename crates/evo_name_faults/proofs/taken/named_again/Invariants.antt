use Rattle.std.proofs.Common.{◌≡◌, drop}
use Rattle.evo_name_faults.specs.Twice.{named_again}
use Rattle.evo_name_faults.proofs.taken.named_again.Given as goal

abbrev pub invariant-loop-other : goal.invariant-loop-other
invariant-loop-other l = named_again l.first l.others ≡ named_again l.first (drop l.other-index l.others)
