use Rattle.std.proofs.Common.{◌≡◌, take}
use Rattle.evo_type_names.proofs.walk.replace.Given as goal

abbrev pub invariant-loop-name : goal.invariant-loop-name
invariant-loop-name l = l.path.items ≡ take l.name-index l.names
