use Rattle.std.proofs.Common.{length, arith}
use Rattle.evo_resolved.specs.Found.{Sought}
use Rattle.evo_resolved.specs.Indexed.{bucket}
use Rattle.evo_resolved.proofs.Walking.{walk_step, not_so, no_found, sought_bucket}
use Rattle.evo_resolved.proofs.keyed.find_in.Goals as goal

pub walk-preserved : goal.walk-preserved
walk-preserved g c =
    let k = c.args.key.now in
    let own = g.T.Keyed.own in
    let named = g.T.Keyed.is_named in
    let step = walk_step _ own (bucket k) c.args.items.now (length c.args.items.now) (Sought own named k) (sought_bucket own named k) c.args.ix.now c.requires (omega arith) c.walk.at c.in-Some.i c.index-items-i.result c.before-at.result c.in-Some.is c.walk.invariant c.index-items-i.is (not_so _ c.if-is_sought.false c.is_sought.ensures) c.before-at.ensures in
    step.0

pub walk-smaller : goal.walk-smaller
walk-smaller g c =
    let k = c.args.key.now in
    let own = g.T.Keyed.own in
    let named = g.T.Keyed.is_named in
    let step = walk_step _ own (bucket k) c.args.items.now (length c.args.items.now) (Sought own named k) (sought_bucket own named k) c.args.ix.now c.requires (omega arith) c.walk.at c.in-Some.i c.index-items-i.result c.before-at.result c.in-Some.is c.walk.invariant c.index-items-i.is (not_so _ c.if-is_sought.false c.is_sought.ensures) c.before-at.ensures in
    step.1

pub returns : goal.returns
returns g c = no_found g.T.Keyed.own g.T.Keyed.is_named c.args.items.now c.args.key.now c.walk.at c.walk.invariant c.in_default.is
