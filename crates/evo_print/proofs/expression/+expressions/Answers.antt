use Rattle.std.proofs.Common.{◌≡◌, ◌++◌, List, codes, map, refl, sym, ap, ◌∙◌, arith}
use Rattle.std.specs.List.{flat_map, join_by}
use Rattle.evo_tree.specs.Canonical.{Text, optional, name_text, prefix_text, argument_text, call_arguments, expr_text}
use Rattle.evo_tree.proofs.Sizes.{member_inside}
use Rattle.evo_print.specs.Texts.{member, operand}
use Rattle.evo_print.proofs.Steps.{named2, named3}
use Rattle.evo_print.proofs.Lists.{joined_end}
use Rattle.evo_print.proofs.ExpressionTexts.{Argument, argument, arguments_joined, super_text, implicit_text, parenthesised_text, sign_text, path_text, chain_text}
use Rattle.evo_print.proofs.expression.+expressions.Goals as goal

pub print_members-print_call-requires : goal.print_members-print_call-requires
print_members-print_call-requires t c =
    let inside = member_inside c.args.items.now c.as_slice-item-items.result.now c.loop-item.item-index c.item-item.result c.as_slice-item-items.ensures c.loop-item-test.true c.item-item.is in
    (omega (arith, inside), tt)

pub print_expr-returns-in_ok-print_named-in-Super : goal.print_expr-returns-in_ok-print_named-in-Super
print_expr-returns-in_ok-print_named-in-Super t c =
    let v = c.in-Super in
    named2 c.print_arguments.result c.args.out.now (codes "super." ++ name_text v.name) (call_arguments v.arguments) c.print_named.new.out c.print_arguments.new.out (expr_text c.args.expr.now)
    c.in_ok-print_named-in-Super.ensures (super_text c.args.expr.now v.field-0 v.name v.arguments v.is) c.print_arguments.ensures

pub print_expr-returns-in_ok-print_named-in-ImplicitMember : goal.print_expr-returns-in_ok-print_named-in-ImplicitMember
print_expr-returns-in_ok-print_named-in-ImplicitMember t c =
    let v = c.in-ImplicitMember in
    named2 c.print_call-in-ImplicitMember.result c.args.out.now (codes "." ++ name_text v.name) (optional call_arguments v.call) c.print_named-in-ImplicitMember.new.out c.print_call-in-ImplicitMember.new.out (expr_text c.args.expr.now)
    c.in_ok-print_named-in-ImplicitMember.ensures (implicit_text c.args.expr.now v.field-0 v.name v.call v.is) c.print_call-in-ImplicitMember.ensures

pub print_expr-returns-in_ok-print_boxed-in-Parenthesised : goal.print_expr-returns-in_ok-print_boxed-in-Parenthesised
print_expr-returns-in_ok-print_boxed-in-Parenthesised t c =
    let v = c.in-Parenthesised in
    named3 c.put-in-Parenthesised-2.result c.args.out.now (codes "(") (expr_text v.inner) (codes ")") c.put-in-Parenthesised.new.self c.print_boxed.new.out c.put-in-Parenthesised-2.new.self (expr_text c.args.expr.now)
    c.in_ok-put-in-Parenthesised.ensures c.in_ok-print_boxed-in-Parenthesised.ensures (parenthesised_text c.args.expr.now v.field-0 v.inner v.is) c.put-in-Parenthesised-2.ensures

pub print_expr-returns-in_ok-put-in-Prefix : goal.print_expr-returns-in_ok-put-in-Prefix
print_expr-returns-in_ok-put-in-Prefix t c =
    let v = c.in-Prefix in
    named2 c.print_boxed-in-Prefix.result c.args.out.now (prefix_text v.operator) (expr_text v.inner) c.put-in-Prefix.new.self c.print_boxed-in-Prefix.new.out (expr_text c.args.expr.now)
    (cc (c.in_ok-put-in-Prefix.ensures, c.prefix.ensures)) (sign_text c.args.expr.now v.field-0 v.operator v.inner v.is) c.print_boxed-in-Prefix.ensures

pub print_expr-returns-in_ok-print_boxed-in-Members : goal.print_expr-returns-in_ok-print_boxed-in-Members
print_expr-returns-in_ok-print_boxed-in-Members t c =
    let v = c.in-Members in
    named2 c.print_members.result c.args.out.now (expr_text v.first) (flat_map member v.members) c.print_boxed-in-Members.new.out c.print_members.new.out (expr_text c.args.expr.now)
    c.in_ok-print_boxed-in-Members.ensures (path_text c.args.expr.now v.first v.members v.is) c.print_members.ensures

pub print_expr-returns-in_ok-print_boxed-in-Chain : goal.print_expr-returns-in_ok-print_boxed-in-Chain
print_expr-returns-in_ok-print_boxed-in-Chain t c =
    let v = c.in-Chain in
    named2 c.print_operands.result c.args.out.now (expr_text v.first) (flat_map operand v.operands) c.print_boxed-in-Chain.new.out c.print_operands.new.out (expr_text c.args.expr.now)
    c.in_ok-print_boxed-in-Chain.ensures (chain_text c.args.expr.now v.first v.operands v.is) c.print_operands.ensures

pub print_arguments-returns : goal.print_arguments-returns
print_arguments-returns t c =
    let xs = c.args.items.now in
    let ys = c.as_slice-label-items.result.now in
    let listed : c.loop-index.out ≡ c.put.new.self ++ join_by argument (codes ", ") ys = joined_end argument (codes ", ") ys c.loop-index.index c.put.new.self c.loop-index.out (omega arith) c.loop-index.invariant in
    let joined : join_by argument (codes ", ") ys ≡ join_by argument_text (codes ", ") (map (λ (a : Argument). (a.0, expr_text a.1)) xs) = ap (λ (l : List Argument). join_by argument (codes ", ") l) c.as_slice-label-items.ensures ∙ sym (arguments_joined xs) in
    named3 c.put-2.result c.args.out.now (codes "(") (join_by argument_text (codes ", ") (map (λ (a : Argument). (a.0, expr_text a.1)) xs)) (codes ")") c.put.new.self c.loop-index.out c.put-2.new.self (call_arguments xs)
    c.in_ok-put.ensures (listed ∙ ap (λ (l : Text). c.put.new.self ++ l) joined) refl c.put-2.ensures
