use Rattle.std.proofs.Common.{◌≡◌}
use Rattle.evo_tree.specs.Modules.{imports_of, items_of}
use Rattle.evo_parse.proofs.part.split.Given as goal

abbrev pub invariant-loop-part : goal.invariant-loop-part
invariant-loop-part l = (l.imports.items ≡ imports_of l.yielded) × (l.items.items ≡ items_of l.yielded)
