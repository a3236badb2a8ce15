-- What the walk finds in small expressions, and which fault stands where. The declarations are told by a table, as an oracle.
use Rattle.std.proofs.Common.{◌≡◌, ℕ, pos, List, [], ◌∷◌, map, Option, Some, None, Bool, true, false, ◌&&◌, Result, Ok, Err, codes, if◌then◌else◌, refl, sym, ap, ◌∙◌}
use Rattle.evo_base.specs.declared.place.Place.{Place}
use Rattle.evo_base.specs.declared.key.Key.{Key}
use Rattle.evo_base.specs.declared.fault_kind.FaultKind.{FaultKind}
use Rattle.evo_base.specs.declared.fault_kind.FaultKind.TheVariants.{NoSuchName, WrongLabels, WrongType, NoSetter, Ambiguous, Unavailable, NoConformance}
use Rattle.evo_tree.specs.declared.module.SourceFault.{SourceFault}
use Rattle.evo_tree.specs.declared.name.Identifier.{Identifier}
use Rattle.evo_tree.specs.declared.expression.InfixOperator.{InfixOperator}
use Rattle.evo_tree.specs.declared.expression.InfixOperator.TheVariants as op
use Rattle.evo_tree.specs.declared.expression.PrefixOperator.{PrefixOperator}
use Rattle.evo_tree.specs.declared.expression.PrefixOperator.TheVariants as sign
use Rattle.evo_tree.specs.declared.expression.Expr.{Expr, Expr-F, out-Expr, map-Expr, fold_out-Expr}
use Rattle.evo_tree.specs.declared.expression.Expr.TheOpen as ex
use Rattle.evo_tree.specs.declared.expression.Expr.TheVariants as v
use Rattle.evo_resolved.specs.declared.resolved_type.RType.{RType}
use Rattle.evo_resolved.specs.declared.resolved_type.RType.TheVariants as ty
use Rattle.evo_resolved.specs.declared.expression.Literal.TheVariants as literal
use Rattle.evo_resolved.specs.declared.expression.RExpr.TheVariants as x
use Rattle.evo_names.specs.Listed.{Text, World}
use Rattle.evo_names.specs.Meets.{same_name}
use Rattle.evo_names.specs.Typing.{int, bool, infix_type, prefix_type}
use Rattle.evo_names.proofs.Samples.{library, place}
use Rattle.evo_names.specs.Listed.{alone}
use Rattle.evo_typing.specs.Shapes.{Shape, Env, Named, Meaning, Found, Denoted, value, names}
use Rattle.evo_typing.specs.Trees.{place_of, place_level, right_expected}
use Rattle.evo_typing.specs.Rule as rule
use Rattle.evo_typing.specs.Rule.{Oracle, fault}
use Rattle.evo_typing.specs.Infer.{infer, a_part}
use Rattle.evo_typing.proofs.Walks.{infer_is}

nowhere : World
nowhere = alone (library [])

abbrev none : {A : Type 0} → A → Type 0
none a = ⊥

env : Env
env = record {
  declared = record { shape = λ k s. ⊥; stands = λ s ts t u. ⊥; leads = λ q t p. ⊥; above = λ a b. false; is_class = λ t. false; operated = infix_type nowhere };
  scope = record { self = None; locals = [] };
  names = record { name = λ n ls r. ⊥; member = λ t n ls r. ⊥; inner = λ t n ls r. ⊥; implicit = λ t n ls r. ⊥; upper = λ n ls r. ⊥; shape = λ k s. ⊥; stands = λ s ts t u. ⊥; path = λ t p q. ⊥; mutable_self = false; self_type = None };
  locals = [];
}

o : Oracle
o = record { name = λ n ls. Err NoSuchName; member = λ t n ls. Err NoSuchName; inner = λ t n ls. Err NoSuchName; implicit = λ t n ls. Err NoSuchName; upper = λ n ls. Err NoSuchName; shape = λ k. None; stands = λ s ts t. Some t; path = λ t p. None; same = λ t u. true }

of_form : (w : Option RType) (e : Expr) (y : Expr-F Expr) → out-Expr e ≡ y → infer env e w o ≡ (rule.rule (a_part env) (λ a. a) env w y).walk o
of_form w e y is = infer_is env o e w ∙ ap (λ y. (rule.rule (a_part env) (λ a. a) env w y).walk o) is

place_out : (e : Expr) → place_of e ≡ place_level (map-Expr Expr Place place_of (out-Expr e))
unfolding place_of
place_out e = fold_out-Expr Place place_level e

integer : (w : Option RType) (p : Place) (n : ℕ) → infer env (v.Integer p n) w o ≡ Ok (value (x.Literal (literal.Integer (pos n))))
integer w p n = of_form w _ _ (v.outs-Integer p n)

boolean : (w : Option RType) (p : Place) (t : Bool) → infer env (v.Boolean p t) w o ≡ Ok (value (x.Literal (literal.Boolean t)))
boolean w p t = of_form w _ _ (v.outs-Boolean p t)

at_boolean : (p : Place) (t : Bool) → place_of (v.Boolean p t) ≡ p
at_boolean p t = rw (place_out (v.Boolean p t), v.outs-Boolean p t) refl

at_integer : (p : Place) (n : ℕ) → place_of (v.Integer p n) ≡ p
at_integer p n = rw (place_out (v.Integer p n), v.outs-Integer p n) refl

-- 1 + 2
sum : infer env (v.Chain (v.Integer (place 1 1) 1) ((op.Add, v.Integer (place 1 5) 2) ∷ [])) None o ≡ Ok (value (x.Chain (x.Literal (literal.Integer (pos 1))) ((op.Add, x.Literal (literal.Integer (pos 2))) ∷ []) int))
unfolding right_expected infix_type env
sum = of_form None _ _ (v.outs-Chain _ _) ∙ simp (integer, x.outs-Literal) refl

-- 1 + true
no_sum : infer env (v.Chain (v.Integer (place 1 1) 1) ((op.Add, v.Boolean (place 1 5) true) ∷ [])) None o ≡ Err (fault (place 1 5) WrongType)
unfolding right_expected infix_type env
no_sum = of_form None _ _ (v.outs-Chain _ _) ∙ simp (integer, boolean, at_boolean, at_integer, x.outs-Literal) refl
