use Rattle.std.proofs.Common.{◌≡◌, drop}
use Rattle.std.specs.List.{list_all}
use Rattle.evo_code.specs.Loads.{is_low}
use Rattle.evo_execution.specs.Loaded.{entry_loads}
use Rattle.evo_runs.proofs.load.check_conformance.Given as goal

abbrev pub invariant-loop-entry : goal.invariant-loop-entry
invariant-loop-entry l = list_all (entry_loads l.image is_low) l.entries ≡ list_all (entry_loads l.image is_low) (drop l.entry-index l.entries)
