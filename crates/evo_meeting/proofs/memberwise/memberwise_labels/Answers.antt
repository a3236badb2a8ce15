use Rattle.std.proofs.Common.{◌∙◌, sym, ap, map}
use Rattle.evo_declarations.specs.Views.{listing_view, entries_of}
use Rattle.evo_meeting.specs.Unwritten.{stored}
use Rattle.evo_meeting.proofs.Unwritten.{no_labels, some_labels}
use Rattle.evo_meeting.proofs.memberwise.memberwise_labels.Goals as goal

pub returns-then-has_none : goal.returns-then-has_none
returns-then-has_none c = no_labels c.args.name.now (listing_view c.args.listing.now) (sym c.has_none.ensures ∙ c.if-has_none.true)

pub returns : goal.returns
returns c = some_labels c.args.name.now (listing_view c.args.listing.now) (map (λ t. t.now) c.in_ok-stored.field-0.items) (sym c.has_none.ensures ∙ c.if-has_none.false) (c.in_ok-stored.ensures ∙ ap (λ es. stored c.args.name.now (entries_of es)) c.as_slice.ensures.value)
