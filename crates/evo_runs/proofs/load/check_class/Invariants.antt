use Rattle.std.proofs.Common.{◌≡◌, drop}
use Rattle.std.specs.List.{list_all}
use Rattle.evo_code.specs.Loads.{is_timed}
use Rattle.evo_execution.specs.Loaded.{entry_loads}
use Rattle.evo_runs.proofs.load.check_class.Given as goal

abbrev pub invariant-loop-entry : goal.invariant-loop-entry
invariant-loop-entry l = list_all (entry_loads l.image is_timed) l.entries ≡ list_all (entry_loads l.image is_timed) (drop l.entry-index l.entries)
