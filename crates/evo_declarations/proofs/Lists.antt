-- A list of declarations as a record.
use Rattle.std.proofs.Common.{◌≡◌, List, flat_map, ap, ◌∙◌}
use Rattle.evo_tree.specs.declared.name.Identifier.{Identifier}
use Rattle.evo_tree.specs.declared.module.ModuleTree.{ModuleTree}
use Rattle.evo_names.specs.Listed as names
use Rattle.evo_names.specs.Listed.{Entry, item_entries, listing_of}

abbrev made : ModuleTree → List Identifier → List Entry → names.Listing
made t is es = record { form = t.form; name = t.name; imports = is; entries = es }

pub same_listing : (t : ModuleTree) (is : List Identifier) (es : List Entry) → is ≡ t.imports → es ≡ flat_map item_entries t.items → made t is es ≡ listing_of t
unfolding listing_of
same_listing t is es e f = ap (λ x. made t x es) e ∙ ap (made t t.imports) f
