use Rattle.evo_tree.specs.Bare.{bare_decl}
use Rattle.evo_tree_ops.proofs.Lists.{and_iff, iff_trans, slices_differ}
use Rattle.evo_tree_ops.proofs.SameDeclarations.{nominal_same, extension_same}
use Rattle.evo_tree_ops.proofs.same_declaration.+sames.Goals as goal

pub same_kind-returns-in-Nominal-b : goal.same_kind-returns-in-Nominal-b
same_kind-returns-in-Nominal-b t c =
    iff_trans (and_iff c.both-in-Nominal-b-3.result c.same_nominal_kind.result c.both-in-Nominal-b-2.result c.both-in-Nominal-b-3.ensures c.same_nominal_kind.ensures
    (and_iff c.both-in-Nominal-b-2.result c.same-in-Nominal-b.result c.both-in-Nominal-b.result c.both-in-Nominal-b-2.ensures c.same-in-Nominal-b.ensures
    (and_iff c.both-in-Nominal-b.result c.same_list-in-Nominal-b.result c.same_decls.result c.both-in-Nominal-b.ensures
    c.same_list-in-Nominal-b.ensures
    c.same_decls.ensures)))
    (nominal_same c.args.a.now c.args.b.now c.in-Nominal.k c.in-Nominal-b.l c.in-Nominal.n c.in-Nominal-b.m c.in-Nominal.xs c.in-Nominal-b.ys c.in-Nominal.v c.in-Nominal-b.w c.in-Nominal.is c.in-Nominal-b.is)

pub same_kind-returns-in-Extension-b : goal.same_kind-returns-in-Extension-b
same_kind-returns-in-Extension-b t c =
    iff_trans (and_iff c.both-in-Extension-b-2.result c.same-in-Extension-b.result c.both-in-Extension-b.result c.both-in-Extension-b-2.ensures c.same-in-Extension-b.ensures
    (and_iff c.both-in-Extension-b.result c.same_list-in-Extension-b.result c.same_decls-in-Extension-b.result c.both-in-Extension-b.ensures
    c.same_list-in-Extension-b.ensures
    c.same_decls-in-Extension-b.ensures))
    (extension_same c.args.a.now c.args.b.now c.in-Extension.t c.in-Extension-b.u c.in-Extension.xs c.in-Extension-b.ys c.in-Extension.v c.in-Extension-b.w c.in-Extension.is c.in-Extension-b.is)

pub same_decls-returns-then-not-same_decl : goal.same_decls-returns-then-not-same_decl
same_decls-returns-then-not-same_decl t c =
    slices_differ bare_decl c.args.a.now c.args.b.now c.as_slice-xs.result.now c.as_slice-ys.result.now c.loop-i.i c.index-xs-i.result c.index-ys-i.result c.as_slice-xs.ensures c.as_slice-ys.ensures c.loop-i-test.true c.if-xs-ys.false c.index-xs-i.is c.index-ys-i.is
    c.if-not-same_decl.ensures
