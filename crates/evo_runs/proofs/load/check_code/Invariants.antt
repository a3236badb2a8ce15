use Rattle.std.proofs.Common.{◌≡◌, drop}
use Rattle.evo_execution.specs.Loaded.{code_loads}
use Rattle.evo_runs.proofs.load.check_code.Given as goal

abbrev pub invariant-loop-at : goal.invariant-loop-at
invariant-loop-at l = code_loads l.image l.level l.code 0 l.code ≡ code_loads l.image l.level l.code l.at (drop l.at l.code)
