use Rattle.std.proofs.Common.{◌≡◌, flat_map, length, take}
use Rattle.evo_members.specs.Texts.{inherited_by}
use Rattle.evo_members.proofs.space.inherited_names.Given as goal

abbrev pub invariant-loop-declared : goal.invariant-loop-declared
invariant-loop-declared l = length l.found.items ≡ length (flat_map inherited_by (take l.declared-index l.declarations))
