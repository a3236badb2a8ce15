use Rattle.std.proofs.Common.{◌∙◌, sym}
use Rattle.evo_meeting.specs.Spots.{spot_view, spot_views}
use Rattle.evo_meeting.proofs.AmongCandidates.{met_called, met_uncalled}
use Rattle.evo_meeting.proofs.twice.is_met.Goals as goal

pub returns-then-not-is_called : goal.returns-then-not-is_called
returns-then-not-is_called c = met_uncalled (spot_views c.args.spots.now) c.args.number (spot_view c.args.spot.now) c.args.buckets.now c.as_slice.result.now c.met_in-met.result c.requires (sym c.is_called.ensures ∙ c.if-not-is_called.true) (c.as_slice.ensures.value ∙ c.in_ok-text.ensures) c.met_in-met.ensures

pub returns : goal.returns
returns c = met_called (spot_views c.args.spots.now) c.args.number (spot_view c.args.spot.now) c.args.buckets.now c.as_slice-2.result.now c.as_slice-3.result.now c.met_in-labelled.result c.met_in-plain.result c.requires (sym c.is_called.ensures ∙ c.if-not-is_called.false) (c.as_slice-2.ensures.value ∙ c.in_ok-call.ensures) (c.as_slice-3.ensures.value ∙ c.in_ok-text.ensures) c.met_in-labelled.ensures c.met_in-plain.ensures
