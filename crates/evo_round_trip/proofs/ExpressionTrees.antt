-- The texts of expressions without parts, and that expressions are the same where their parts are.
use Rattle.std.proofs.Common.{◌≡◌, ℕ, List, [], ◌∷◌, ◌++◌, map, Bool, codes, Option, Some, None, refl, sym, ◌∙◌, ap, ap₂}
use Rattle.std.specs.Fmt.{decimal}
use Rattle.evo_base.specs.declared.place.Place.{Place}
use Rattle.evo_round_trip.proofs.Alike.{AllLike}
use Rattle.evo_tree.specs.declared.name.Identifier.{Identifier}
use Rattle.evo_tree.specs.declared.expression.Expr.{Expr, Expr-F, out-Expr, roll-Expr, map-Expr, fold_out-Expr}
use Rattle.evo_tree.specs.declared.expression.Expr.TheOpen as f
use Rattle.evo_tree.specs.declared.expression.Expr.TheVariants as e
use Rattle.evo_tree.specs.declared.expression.Expr.TheVariants.{outs-Integer, outs-Negative, outs-String, outs-Boolean, outs-Name, outs-SelfValue, outs-SelfType}
use Rattle.evo_tree.specs.Bare.{origin, clear_expr, bare_expr}
use Rattle.evo_tree.specs.Canonical.{Text, string_text, boolean_text, expr_level, expr_text}
use Rattle.evo_print.specs.Texts.{call}

abbrev pub Argument : Type 0
Argument = Option Identifier × Expr

abbrev pub Call : Type 0
Call = Option (List Argument)

module _ (x : Expr) (y : Expr-F Expr) (is : out-Expr x ≡ y) where
  pub text_is : expr_text x ≡ expr_level (map-Expr Expr Text expr_text y)
  text_is = fold_out-Expr Text expr_level x ∙ ap (λ z. expr_level (map-Expr Expr Text expr_text z)) is

  pub bare_is : bare_expr x ≡ roll-Expr (clear_expr (map-Expr Expr Expr bare_expr y))
  bare_is = fold_out-Expr Expr (λ z. roll-Expr (clear_expr z)) x ∙ ap (λ z. roll-Expr (clear_expr (map-Expr Expr Expr bare_expr z))) is

pub integer_text : (p : Place) (n : ℕ) → expr_text (e.Integer p n) ≡ decimal n
integer_text p n = text_is (e.Integer p n) (f.Integer p n) (outs-Integer p n)

pub negative_text : (p : Place) (n : ℕ) → expr_text (e.Negative p n) ≡ codes "-" ++ decimal n
negative_text p n = text_is (e.Negative p n) (f.Negative p n) (outs-Negative p n)

pub string_is : (p : Place) (cs : List ℕ) → expr_text (e.String p cs) ≡ string_text cs
string_is p cs = text_is (e.String p cs) (f.String p cs) (outs-String p cs)

pub boolean_is : (p : Place) (b : Bool) → expr_text (e.Boolean p b) ≡ boolean_text b
boolean_is p b = text_is (e.Boolean p b) (f.Boolean p b) (outs-Boolean p b)

pub self_is : (p : Place) → expr_text (e.SelfValue p) ≡ codes "self"
self_is p = text_is (e.SelfValue p) (f.SelfValue p) (outs-SelfValue p)

pub self_type_is : (p : Place) → expr_text (e.SelfType p) ≡ codes "Self"
self_type_is p = text_is (e.SelfType p) (f.SelfType p) (outs-SelfType p)

pub name_is : (i : Identifier) (xs : Call) → expr_text (e.Name i xs) ≡ call i xs
name_is i None = text_is (e.Name i None) (f.Name i None) (outs-Name i None)
name_is i (Some xs) = text_is (e.Name i (Some xs)) (f.Name i (Some xs)) (outs-Name i (Some xs))

-- ---- the same but for places

abbrev pub SameExpr : Expr → Expr → Type 0
SameExpr x y = bare_expr x ≡ bare_expr y

pub integer_same : (p q : Place) (n m : ℕ) → n ≡ m → SameExpr (e.Integer p n) (e.Integer q m)
integer_same p q n m is = bare_is (e.Integer p n) (f.Integer p n) (outs-Integer p n) ∙ ap (λ z. roll-Expr (f.Integer origin z)) is ∙ sym (bare_is (e.Integer q m) (f.Integer q m) (outs-Integer q m))

pub negative_same : (p q : Place) (n m : ℕ) → n ≡ m → SameExpr (e.Negative p n) (e.Negative q m)
negative_same p q n m is = bare_is (e.Negative p n) (f.Negative p n) (outs-Negative p n) ∙ ap (λ z. roll-Expr (f.Negative origin z)) is ∙ sym (bare_is (e.Negative q m) (f.Negative q m) (outs-Negative q m))

pub string_same : (p q : Place) (n m : List ℕ) → n ≡ m → SameExpr (e.String p n) (e.String q m)
string_same p q n m is = bare_is (e.String p n) (f.String p n) (outs-String p n) ∙ ap (λ z. roll-Expr (f.String origin z)) is ∙ sym (bare_is (e.String q m) (f.String q m) (outs-String q m))

pub boolean_same : (p q : Place) (b : Bool) → SameExpr (e.Boolean p b) (e.Boolean q b)
boolean_same p q b = bare_is (e.Boolean p b) (f.Boolean p b) (outs-Boolean p b) ∙ sym (bare_is (e.Boolean q b) (f.Boolean q b) (outs-Boolean q b))

pub self_same : (p q : Place) → SameExpr (e.SelfValue p) (e.SelfValue q)
self_same p q = bare_is (e.SelfValue p) (f.SelfValue p) (outs-SelfValue p) ∙ sym (bare_is (e.SelfValue q) (f.SelfValue q) (outs-SelfValue q))

pub self_type_same : (p q : Place) → SameExpr (e.SelfType p) (e.SelfType q)
self_type_same p q = bare_is (e.SelfType p) (f.SelfType p) (outs-SelfType p) ∙ sym (bare_is (e.SelfType q) (f.SelfType q) (outs-SelfType q))

-- ---- lists

pub like_map : {A B : Type 0} (g : A → B) (xs ys : List A) → AllLike (λ x y. g x ≡ g y) xs ys → map g xs ≡ map g ys
like_map g [] [] h = refl
like_map g [] (y ∷ ys) h = absurd h
like_map g (x ∷ xs) [] h = absurd h
like_map g (x ∷ xs) (y ∷ ys) h = ap₂ (λ z w. z ∷ w) h.0 (like_map g xs ys h.1)
