use Rattle.evo_tree_ops.proofs.Lists.{slices_differ}
use Rattle.evo_tree_ops.proofs.compared.same_list.Goals as goal

pub returns-then-not-same : goal.returns-then-not-same
returns-then-not-same g c =
    slices_differ g.T.Compared.bare c.args.a.now c.args.b.now c.as_slice-xs.result.now c.as_slice-ys.result.now c.loop-i.i c.index-xs-i.result c.index-ys-i.result c.as_slice-xs.ensures c.as_slice-ys.ensures c.loop-i-test.true c.if-xs-ys.false c.index-xs-i.is c.index-ys-i.is
    c.if-not-same.ensures
