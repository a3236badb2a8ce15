use Rattle.std.proofs.Common.{◌≡◌, ◌++◌, take}
use Rattle.evo_parse_header.proofs.attribute.with_access.Given as goal

abbrev pub invariant-loop-modifier : goal.invariant-loop-modifier
invariant-loop-modifier l = l.found.items ≡ l.initial.found.items ++ take l.modifier-index l.modifiers
