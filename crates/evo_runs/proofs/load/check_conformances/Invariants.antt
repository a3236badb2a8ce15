use Rattle.std.proofs.Common.{◌≡◌, drop}
use Rattle.std.specs.List.{list_all}
use Rattle.evo_execution.specs.Loaded.{conformance_loads}
use Rattle.evo_runs.proofs.load.check_conformances.Given as goal

abbrev pub invariant-loop-conformance : goal.invariant-loop-conformance
invariant-loop-conformance l = list_all (conformance_loads l.image) l.conformances ≡ list_all (conformance_loads l.image) (drop l.conformance-index l.conformances)
