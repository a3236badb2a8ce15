use Rattle.std.proofs.Common.{arith, sym, length, ◌<◌, ◌≤◌, ◌∙◌}
use Rattle.std.proofs.lemmas.List.{length-map}
use Rattle.evo_meeting.specs.Spots.{spot_view, spot_views}
use Rattle.evo_meeting.proofs.AmongCandidates.{none_yet, none_more, none_all, view_at, twice_at}
use Rattle.evo_meeting.proofs.twice.first_met.Goals as goal

pub loop-number-init : goal.loop-number-init
loop-number-init c = none_yet _ c.args.start

pub returns-then-branch : goal.returns-then-branch
returns-then-branch c = twice_at (spot_views c.args.spots.now) c.args.start c.loop-number.number (spot_view c.index-spots-number.result) (omega arith) (view_at c.args.spots.now c.loop-number.number c.index-spots-number.result (omega arith) c.index-spots-number.is) (sym c.in_ok-is_met.ensures ∙ c.if-branch.true)

pub loop-number-preserved : goal.loop-number-preserved
loop-number-preserved c = none_more (spot_views c.args.spots.now) c.args.start c.loop-number.number (spot_view c.index-spots-number.result) c.loop-number.invariant (view_at c.args.spots.now c.loop-number.number c.index-spots-number.result (omega arith) c.index-spots-number.is) (sym c.in_ok-is_met.ensures ∙ c.if-branch.false)

pub returns : goal.returns
returns c = none_all (spot_views c.args.spots.now) c.args.start c.loop-number.number c.loop-number.invariant (rw length-map c.loop-number-test.false)
