use Rattle.std.proofs.Common.{◌≡◌, drop}
use Rattle.std.specs.List.{list_all}
use Rattle.evo_execution.specs.Loaded.{class_loads}
use Rattle.evo_runs.proofs.load.check_classes.Given as goal

abbrev pub invariant-loop-class : goal.invariant-loop-class
invariant-loop-class l = list_all (class_loads l.image) l.classes ≡ list_all (class_loads l.image) (drop l.class-index l.classes)
