use Rattle.std.proofs.Common.{◌≡◌, map, take}
use Rattle.evo_names.specs.Listed.{label_of}
use Rattle.evo_keys.proofs.keys.labels.Given as goal

abbrev pub invariant-loop-parameter : goal.invariant-loop-parameter
invariant-loop-parameter l = l.found.items ≡ map label_of (take l.parameter-index l.parameters)
