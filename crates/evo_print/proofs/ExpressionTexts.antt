-- The texts of expressions, by those of their parts.
use Rattle.std.proofs.Common.{◌≡◌, List, [], ◌∷◌, ◌++◌, map, codes, Option, Some, None, refl, ◌∙◌, ap}
use Rattle.std.specs.List.{flat_map, join_by}
use Rattle.std.proofs.lemmas.List.Folds.{flat_map-map}
use Rattle.evo_base.specs.declared.place.Place.{Place}
use Rattle.evo_tree.specs.declared.name.Identifier.{Identifier}
use Rattle.evo_tree.specs.declared.expression.PrefixOperator.{PrefixOperator}
use Rattle.evo_tree.specs.declared.expression.InfixOperator.{InfixOperator}
use Rattle.evo_tree.specs.declared.expression.Expr.{Expr, Expr-F, out-Expr, map-Expr, fold_out-Expr}
use Rattle.evo_tree.specs.declared.expression.Expr.TheOpen as f
use Rattle.evo_tree.specs.declared.expression.Expr.TheVariants as e
use Rattle.evo_tree.specs.declared.expression.Expr.TheVariants.{outs-Integer, outs-Negative, outs-String, outs-Boolean, outs-Name, outs-SelfValue, outs-SelfType, outs-Super, outs-ImplicitMember, outs-Parenthesised, outs-Prefix, outs-Members, outs-Chain}
use Rattle.evo_tree.specs.Canonical.{Text, optional, label_text, name_text, prefix_text, argument_text, member_text, operand_text, call_arguments, expr_level, expr_text}
use Rattle.evo_print.specs.Texts.{member, operand}
use Rattle.evo_print.proofs.Lists.{join_by-map}

abbrev pub Argument : Type 0
Argument = Option Identifier × Expr

abbrev pub Member : Type 0
Member = Identifier × Option (List Argument)

abbrev pub Operand : Type 0
Operand = InfixOperator × Expr

-- the text of one level
abbrev level : Expr-F Expr → Text
level x = expr_level (map-Expr Expr Text expr_text x)

text_by : (a : Expr) (x : Expr-F Expr) (t : Text) → out-Expr a ≡ x → level x ≡ t → expr_text a ≡ t
text_by a x t p q = fold_out-Expr Text expr_level a ∙ ap level p ∙ q

-- ---- lists

abbrev pub argument : Argument → Text
argument a = label_text a.0 ++ expr_text a.1

pub arguments_joined : (xs : List Argument) → join_by argument_text (codes ", ") (map (λ a. (a.0, expr_text a.1)) xs) ≡ join_by argument (codes ", ") xs
arguments_joined xs = join_by-map argument_text (λ (a : Argument). (a.0, expr_text a.1)) (codes ", ") xs

members_of : Expr-F Text → List (Identifier × Option (List (Option Identifier × Text)))
members_of (f.Members x ms) = ms
members_of x = []

members_text : (x : Expr) (ms : List Member) → flat_map member_text (members_of (map-Expr Expr Text expr_text (f.Members x ms))) ≡ flat_map member ms
unfolding members_of
members_text x [] = refl
members_text x ((n, None) ∷ ms) = ap (λ (l : Text). member (n, None) ++ l) (members_text x ms)
members_text x ((n, Some xs) ∷ ms) = ap (λ (l : Text). member (n, Some xs) ++ l) (members_text x ms)

-- ---- expressions of several parts

module _ (a : Expr) where
  pub super_text : (p : Place) (i : Identifier) (xs : List Argument) → a ≡ e.Super p i xs → expr_text a ≡ codes "super." ++ name_text i ++ call_arguments xs
  super_text p i xs is = text_by a (f.Super p i xs) _ (ap out-Expr is ∙ outs-Super p i xs) refl

  implicit_level : (p : Place) (i : Identifier) (xs : Option (List Argument)) → level (f.ImplicitMember p i xs) ≡ codes "." ++ name_text i ++ optional call_arguments xs
  implicit_level p i None = refl
  implicit_level p i (Some xs) = refl

  pub implicit_text : (p : Place) (i : Identifier) (xs : Option (List Argument)) → a ≡ e.ImplicitMember p i xs → expr_text a ≡ codes "." ++ name_text i ++ optional call_arguments xs
  implicit_text p i xs is = text_by a (f.ImplicitMember p i xs) _ (ap out-Expr is ∙ outs-ImplicitMember p i xs) (implicit_level p i xs)

  pub parenthesised_text : (p : Place) (x : Expr) → a ≡ e.Parenthesised p x → expr_text a ≡ codes "(" ++ expr_text x ++ codes ")"
  parenthesised_text p x is = text_by a (f.Parenthesised p x) _ (ap out-Expr is ∙ outs-Parenthesised p x) refl

  pub sign_text : (p : Place) (o : PrefixOperator) (x : Expr) → a ≡ e.Prefix p o x → expr_text a ≡ prefix_text o ++ expr_text x
  sign_text p o x is = text_by a (f.Prefix p o x) _ (ap out-Expr is ∙ outs-Prefix p o x) refl

  members_level : (x : Expr) (ms : List Member) → level (f.Members x ms) ≡ expr_text x ++ flat_map member ms
  unfolding members_of
  members_level x ms = ap (λ (l : Text). expr_text x ++ l) (members_text x ms)

  pub path_text : (x : Expr) (ms : List Member) → a ≡ e.Members x ms → expr_text a ≡ expr_text x ++ flat_map member ms
  path_text x ms is = text_by a (f.Members x ms) _ (ap out-Expr is ∙ outs-Members x ms) (members_level x ms)

  chain_level : (x : Expr) (os : List Operand) → level (f.Chain x os) ≡ expr_text x ++ flat_map operand os
  chain_level x os = ap (λ (l : Text). expr_text x ++ l) (flat_map-map operand_text (λ (o : Operand). (o.0, expr_text o.1)) os)

  pub chain_text : (x : Expr) (os : List Operand) → a ≡ e.Chain x os → expr_text a ≡ expr_text x ++ flat_map operand os
  chain_text x os is = text_by a (f.Chain x os) _ (ap out-Expr is ∙ outs-Chain x os) (chain_level x os)
