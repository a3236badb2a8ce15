use Rattle.std.proofs.Common.{List, ℕ, subst}
use Rattle.evo_resolved.specs.Indexed.{Added}
use Rattle.evo_resolved.proofs.Indexing.{indexed_more, get_of}
use Rattle.evo_resolved.proofs.keyed.index_of.Goals as goal

pub loop-i-preserved : goal.loop-i-preserved
loop-i-preserved g c =
    let s = c.index-items-i.result in
    let at = get_of c.args.items.now c.loop-i.i s s c.loop-i-test.true c.index-items-i.is in
    let added = subst (λ (text : List ℕ). Added c.loop-i.ix c.add.new.ix text c.loop-i.i) c.text_of.ensures c.in_ok-add.ensures in
    indexed_more g.T.Keyed.own c.args.items.now c.loop-i.i c.loop-i.ix c.add.new.ix s c.loop-i.invariant at added
