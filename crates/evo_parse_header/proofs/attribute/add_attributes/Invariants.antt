use Rattle.std.proofs.Common.{◌≡◌, ◌++◌, take, filter}
use Rattle.evo_tree.specs.Declarations.{is_attribute}
use Rattle.evo_parse_header.proofs.attribute.add_attributes.Given as goal

abbrev pub invariant-loop-attr : goal.invariant-loop-attr
invariant-loop-attr l = l.found.items ≡ l.fn.found.items ++ filter (is_attribute l.number) (take l.attr-index l.attrs)
