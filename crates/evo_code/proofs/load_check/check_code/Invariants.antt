use Rattle.std.proofs.Common.{◌≡◌, drop}
use Rattle.evo_code.specs.Loads.{code_passes}
use Rattle.evo_code.proofs.load_check.check_code.Given as goal

abbrev pub invariant-loop-at : goal.invariant-loop-at
invariant-loop-at l = code_passes l.object l.level l.code 0 l.code ≡ code_passes l.object l.level l.code l.at (drop l.at l.code)
