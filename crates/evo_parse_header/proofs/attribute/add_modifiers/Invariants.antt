use Rattle.std.proofs.Common.{◌≡◌, ◌++◌, take, filter}
use Rattle.evo_tree.specs.Declarations.{is_ranked}
use Rattle.evo_parse_header.proofs.attribute.add_modifiers.Given as goal

abbrev pub invariant-loop-modifier : goal.invariant-loop-modifier
invariant-loop-modifier l = l.found.items ≡ l.fn.found.items ++ filter (is_ranked l.rank) (take l.modifier-index l.modifiers)
