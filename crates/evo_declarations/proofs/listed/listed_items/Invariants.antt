use Rattle.std.proofs.Common.{◌≡◌, flat_map, take}
use Rattle.evo_declarations.specs.Views.{entries_of}
use Rattle.evo_names.specs.Listed as names
use Rattle.evo_declarations.proofs.listed.listed_items.Given as goal

abbrev pub invariant-loop-item : goal.invariant-loop-item
invariant-loop-item l = entries_of l.found.items ≡ flat_map names.item_entries (take l.item-index l.items)
