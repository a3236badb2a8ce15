use Rattle.std.proofs.Common.{◌≡◌, map}
use Rattle.evo_tree.specs.declared.module.Item.TheVariants as item
use Rattle.evo_parse.proofs.part.declared_items.Given as goal

abbrev pub invariant-loop-decl : goal.invariant-loop-decl
invariant-loop-decl l = l.items.items ≡ map item.Decl l.yielded
