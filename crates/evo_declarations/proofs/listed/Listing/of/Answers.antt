use Rattle.std.proofs.Common.{◌∙◌, ap, flat_map}
use Rattle.evo_names.specs.Listed.{item_entries}
use Rattle.evo_declarations.proofs.Lists.{same_listing}
use Rattle.evo_declarations.proofs.listed.Listing.of.Goals as goal

pub returns : goal.returns
returns c = same_listing c.args.tree.now _ _ c.as_slice-2.ensures (c.in_ok-entries.ensures ∙ ap (flat_map item_entries) c.as_slice.ensures)
