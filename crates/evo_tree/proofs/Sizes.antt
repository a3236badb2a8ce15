-- Parts of expressions are no deeper than what they stand in.
use denote.Param.Weighed.{most, at_most}
use Rattle.std.proofs.Common.{◌≡◌, ℕ, ◌<◌, ◌≤◌, List, length, get_or, sym, subst}
use Rattle.evo_tree.specs.declared.expression.Expr.TheBlock.{the_data}
use Rattle.evo_tree.specs.declared.expression.Expr.TheShapes.{weighed-Expr-Members-1-at-6}
use Rattle.evo_tree.proofs.expression.Expr.TheLaws.{the_size}
use Rattle.evo_tree.proofs.SameExpressions.{Member}

abbrev member_depth : Member → ℕ
member_depth m = (weighed-Expr-Members-1-at-6).weight the_data the_size m

pub member_inside : (ms ns : List Member) (i : ℕ) (m : Member) → ns ≡ ms → i < length ns → m ≡ get_or ns i m → member_depth m ≤ most member_depth ms
member_inside ms ns i m same within is =
    let whole : member_depth (get_or ns i m) ≤ most member_depth ms = rw (← same) (at_most member_depth ns i m within) in
    let P : Member → Type 0 = λ z. member_depth z ≤ most member_depth ms in
    subst P (sym is) whole
