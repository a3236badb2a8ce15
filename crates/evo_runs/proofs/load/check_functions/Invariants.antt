use Rattle.std.proofs.Common.{◌≡◌, drop}
use Rattle.std.specs.List.{list_all}
use Rattle.evo_execution.specs.Loaded.{function_loads}
use Rattle.evo_runs.proofs.load.check_functions.Given as goal

abbrev pub invariant-loop-function : goal.invariant-loop-function
invariant-loop-function l = list_all (function_loads l.image) l.image.functions ≡ list_all (function_loads l.image) (drop l.function-index l.image.functions)
