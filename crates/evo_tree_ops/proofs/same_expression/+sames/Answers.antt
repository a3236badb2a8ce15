use Rattle.std.proofs.Common.{arith, false}
use Rattle.evo_tree.specs.Bare.{bare_argument, bare_member, bare_operand}
use Rattle.evo_tree_ops.proofs.Lists.{and_iff, iff_trans, pair_iff, lengths_differ, slices_differ}
use Rattle.evo_tree.proofs.SameExpressions.{name_same, super_same, implicit_same, parenthesised_same, prefix_same, members_same, chain_same}
use Rattle.evo_tree.proofs.Sizes.{member_inside}
use Rattle.evo_tree_ops.proofs.same_expression.+sames.Goals as goal

pub same_expr-returns-in-Name-b : goal.same_expr-returns-in-Name-b
same_expr-returns-in-Name-b t c =
    iff_trans (and_iff c.both.result c.same-in-Name-b.result c.same_call.result c.both.ensures c.same-in-Name-b.ensures c.same_call.ensures)
    (name_same c.args.a.now c.args.b.now c.in-Name.n c.in-Name-b.m c.in-Name.xs c.in-Name-b.ys c.in-Name.is c.in-Name-b.is)

pub same_expr-returns-in-Super-b : goal.same_expr-returns-in-Super-b
same_expr-returns-in-Super-b t c =
    iff_trans (and_iff c.both-in-Super-b.result c.same-in-Super-b.result c.same_arguments.result c.both-in-Super-b.ensures c.same-in-Super-b.ensures c.same_arguments.ensures)
    (super_same c.args.a.now c.args.b.now c.in-Super.field-0 c.in-Super-b.field-0 c.in-Super.n c.in-Super-b.m c.in-Super.xs c.in-Super-b.ys c.in-Super.is c.in-Super-b.is)

pub same_expr-returns-in-ImplicitMember-b : goal.same_expr-returns-in-ImplicitMember-b
same_expr-returns-in-ImplicitMember-b t c =
    iff_trans (and_iff c.both-in-ImplicitMember-b.result c.same-in-ImplicitMember-b.result c.same_call-in-ImplicitMember-b.result c.both-in-ImplicitMember-b.ensures c.same-in-ImplicitMember-b.ensures c.same_call-in-ImplicitMember-b.ensures)
    (implicit_same c.args.a.now c.args.b.now c.in-ImplicitMember.field-0 c.in-ImplicitMember-b.field-0 c.in-ImplicitMember.n c.in-ImplicitMember-b.m c.in-ImplicitMember.xs c.in-ImplicitMember-b.ys c.in-ImplicitMember.is c.in-ImplicitMember-b.is)

pub same_expr-returns-in-Parenthesised-b : goal.same_expr-returns-in-Parenthesised-b
same_expr-returns-in-Parenthesised-b t c =
    iff_trans c.same_boxed.ensures
    (parenthesised_same c.args.a.now c.args.b.now c.in-Parenthesised.field-0 c.in-Parenthesised-b.field-0 c.in-Parenthesised.x c.in-Parenthesised-b.y c.in-Parenthesised.is c.in-Parenthesised-b.is)

pub same_expr-returns-in-Prefix-b : goal.same_expr-returns-in-Prefix-b
same_expr-returns-in-Prefix-b t c =
    iff_trans (and_iff c.both-in-Prefix-b.result c.same_prefix.result c.same_boxed-in-Prefix-b.result c.both-in-Prefix-b.ensures c.same_prefix.ensures c.same_boxed-in-Prefix-b.ensures)
    (prefix_same c.args.a.now c.args.b.now c.in-Prefix.field-0 c.in-Prefix-b.field-0 c.in-Prefix.o c.in-Prefix-b.p c.in-Prefix.x c.in-Prefix-b.y c.in-Prefix.is c.in-Prefix-b.is)

pub same_expr-returns-in-Members-b : goal.same_expr-returns-in-Members-b
same_expr-returns-in-Members-b t c =
    iff_trans (and_iff c.both-in-Members-b.result c.same_boxed-in-Members-b.result c.same_members.result c.both-in-Members-b.ensures c.same_boxed-in-Members-b.ensures c.same_members.ensures)
    (members_same c.args.a.now c.args.b.now c.in-Members.x c.in-Members-b.y c.in-Members.xs c.in-Members-b.ys c.in-Members.is c.in-Members-b.is)

pub same_expr-returns-in-Chain-b : goal.same_expr-returns-in-Chain-b
same_expr-returns-in-Chain-b t c =
    iff_trans (and_iff c.both-in-Chain-b.result c.same_boxed-in-Chain-b.result c.same_operands.result c.both-in-Chain-b.ensures c.same_boxed-in-Chain-b.ensures c.same_operands.ensures)
    (chain_same c.args.a.now c.args.b.now c.in-Chain.x c.in-Chain-b.y c.in-Chain.xs c.in-Chain-b.ys c.in-Chain.is c.in-Chain-b.is)

pub same_arguments-returns-then-not-both : goal.same_arguments-returns-then-not-both
same_arguments-returns-then-not-both t c =
    slices_differ bare_argument c.args.a.now c.args.b.now c.as_slice-xs.result.now c.as_slice-ys.result.now c.loop-i.i c.index-xs-i.result c.index-ys-i.result c.as_slice-xs.ensures c.as_slice-ys.ensures c.loop-i-test.true c.if-xs-ys.false c.index-xs-i.is c.index-ys-i.is
    (iff_trans (and_iff false c.same_option.result c.same_expr.result c.if-not-both.ensures c.same_option.ensures c.same_expr.ensures) (pair_iff (bare_argument c.index-xs-i.result) (bare_argument c.index-ys-i.result)))

pub same_members-returns-then-not-both : goal.same_members-returns-then-not-both
same_members-returns-then-not-both t c =
    slices_differ bare_member c.args.a.now c.args.b.now c.as_slice-xs.result.now c.as_slice-ys.result.now c.loop-i.i c.index-xs-i.result c.index-ys-i.result c.as_slice-xs.ensures c.as_slice-ys.ensures c.loop-i-test.true c.if-xs-ys.false c.index-xs-i.is c.index-ys-i.is
    (iff_trans (and_iff false c.same.result c.same_call.result c.if-not-both.ensures c.same.ensures c.same_call.ensures) (pair_iff (bare_member c.index-xs-i.result) (bare_member c.index-ys-i.result)))

pub same_operands-returns-then-not-both : goal.same_operands-returns-then-not-both
same_operands-returns-then-not-both t c =
    slices_differ bare_operand c.args.a.now c.args.b.now c.as_slice-xs.result.now c.as_slice-ys.result.now c.loop-i.i c.index-xs-i.result c.index-ys-i.result c.as_slice-xs.ensures c.as_slice-ys.ensures c.loop-i-test.true c.if-xs-ys.false c.index-xs-i.is c.index-ys-i.is
    (iff_trans (and_iff false c.same_infix.result c.same_expr.result c.if-not-both.ensures c.same_infix.ensures c.same_expr.ensures) (pair_iff (bare_operand c.index-xs-i.result) (bare_operand c.index-ys-i.result)))

pub same_members-returns-then-xs-ys : goal.same_members-returns-then-xs-ys
same_members-returns-then-xs-ys t c = lengths_differ bare_member c.args.a.now c.args.b.now c.as_slice-xs.result.now c.as_slice-ys.result.now c.as_slice-xs.ensures c.as_slice-ys.ensures c.if-xs-ys.true

pub same_members-same_call-requires : goal.same_members-same_call-requires
same_members-same_call-requires t c =
    let inside = member_inside c.args.a.now c.as_slice-xs.result.now c.loop-i.i c.index-xs-i.result c.as_slice-xs.ensures c.loop-i-test.true c.index-xs-i.is in
    (omega (arith, inside), tt)
