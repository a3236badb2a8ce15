-- Expressions are written: chains of operators over a rule of operands.
use Rattle.std.proofs.Common.{◌≡◌, List, [], ◌∷◌, ◌++◌, Bool, true, false, codes, refl, sym, ◌∙◌, ap, ap₂, append_assoc, append-nil, Option}
use Rattle.std.specs.List.{flat_map}
use Rattle.evo_combinators.specs.Rule.{Empty, TokenThen, Then}
use Rattle.evo_round_trip.proofs.Alike.{AllLike}
use Rattle.evo_tree.specs.declared.expression.InfixOperator.{InfixOperator}
use Rattle.evo_tree.specs.declared.expression.Expr.{Expr}
use Rattle.evo_tree.specs.declared.expression.Expr.TheVariants as e
use Rattle.evo_tree.specs.declared.terminal.Terminal.{Terminal}
use Rattle.evo_tree.specs.Pieces.{Piece}
use Rattle.evo_tree.specs.Expressions.{Rule, infix_by, multiplying, adding, comparing, conjoining, disjoining, chain, one_operand, Chain, Pair, Levels}
use Rattle.evo_tree.specs.Bare.{bare_operand}
use Rattle.evo_tree.specs.Canonical.{expr_text, infix_text}
use Rattle.evo_tree.proofs.SameExpressions.{chain_same}
use Rattle.evo_print.specs.Texts.{operand}
use Rattle.evo_print.proofs.ExpressionTexts.{chain_text}
use Rattle.evo_round_trip.proofs.Written.{Written}
use Rattle.evo_round_trip.proofs.Printed.{any, is_apart}
use Rattle.evo_round_trip.proofs.Prints.{Prints, Writes, Alone, print_only, print_or, print_led, print_then, print_after, print_many, print_behind, print_firm, print_more}
use Rattle.evo_round_trip.proofs.TakenTokens.{between, Again, taken_infix, multiplying_again, adding_again, comparing_again, conjoining_again, disjoining_again}
use Rattle.evo_round_trip.proofs.Heads.{is_head, head_flush, apart_free, leads_infix, Begun, any_head}
use Rattle.evo_round_trip.proofs.ExpressionTrees.{SameExpr, like_map}

-- a rule of expressions is written, whatever it must begin with
abbrev pub Expressed : Rule Expr → Type 0
Expressed S = (g : Piece → Bool) (p : Written → Bool) → Begun g p → Prints {A = Unit {0}} false g false p (λ z. z) expr_text Alone SameExpr S (λ a. S)

-- behind a blank
pub expressed_behind : (S : Rule Expr) → Expressed S → Writes false false is_apart (λ x. codes " " ++ expr_text x) SameExpr S S
expressed_behind S law = print_behind (codes " ") refl refl (print_more (λ h. h) head_flush (law any is_head any_head))

abbrev pub SameOperand : InfixOperator × Expr → InfixOperator × Expr → Type 0
SameOperand a b = bare_operand a ≡ bare_operand b

module _ (h : Terminal → Option InfixOperator) (again : Again h) (S : Rule Expr) (law : Expressed S) where
  operand_leaf : (o : InfixOperator) (y : Expr) → codes " " ++ (infix_text o ++ ((codes " " ++ expr_text y) ++ [])) ≡ operand (o, y)
  operand_leaf o y = simp (append_assoc, append-nil)

  -- an operator and its operand
  operand_prints : Writes true false is_apart operand SameOperand (TokenThen (infix_by h) (λ o. Then S (λ y. Empty (o, y)))) (TokenThen (infix_by h) (λ o. Then S (λ y. Empty (o, y))))
  operand_prints = print_led (taken_infix (λ o. refl) again) (λ o ws b. leads_infix (between o) ws refl b)
      (λ o. print_then {q = is_apart} (print_firm (expressed_behind S law)) (λ w i. i) apart_free (λ y. print_only (operand_leaf o y) (λ a near. ap₂ (λ v w. (v, w)) near.0.1 near.1)))

  chain_leaf : (x : Expr) (os : List (InfixOperator × Expr)) → expr_text x ++ (flat_map operand os ++ []) ≡ expr_text (chain x os)
  chain_leaf x [] = append-nil (expr_text x)
  chain_leaf x (o ∷ os) = ap (λ z. expr_text x ++ z) (append-nil (flat_map operand (o ∷ os))) ∙ sym (chain_text (e.Chain x (o ∷ os)) x (o ∷ os) refl)

  chain_like : (x y : Expr) (os us : List (InfixOperator × Expr)) → SameExpr x y → AllLike SameOperand os us → SameExpr (chain x os) (chain y us)
  chain_like x y [] [] s l = s
  chain_like x y [] (u ∷ us) s l = absurd l
  chain_like x y (o ∷ os) [] s l = absurd l
  chain_like x y (o ∷ os) (u ∷ us) s l = (chain_same (e.Chain x (o ∷ os)) (e.Chain y (u ∷ us)) x y (o ∷ os) (u ∷ us) refl refl).0 (s, like_map bare_operand (o ∷ os) (u ∷ us) l)

  pub chain_expressed : Expressed (Chain (infix_by h) S)
  chain_expressed g p begun = print_then (law g p begun) (λ w i. i) apart_free
      (λ x. print_after {q = is_apart} (print_many apart_free operand_prints) (λ w i. i) apart_free (λ w i. i)
      (λ os. print_only (chain_leaf x os) (λ a near. chain_like x a.0.1 os a.1 near.0.1 near.1)))

  pair_leaf : (x : Expr) (o : InfixOperator) (y : Expr) → expr_text x ++ (codes " " ++ (infix_text o ++ ((codes " " ++ expr_text y) ++ []))) ≡ expr_text (chain x (one_operand o y))
  pair_leaf x o y = ap (λ z. expr_text x ++ z) (operand_leaf o y ∙ sym (append-nil (operand (o, y)))) ∙ sym (chain_text (e.Chain x (one_operand o y)) x (one_operand o y) refl)

  pub pair_expressed : Expressed (Pair (infix_by h) S)
  pair_expressed g p begun = print_then (law g p begun) (λ w i. i) apart_free
      (λ x. print_or (print_led {q = is_apart} (taken_infix (λ o. refl) again) (λ o ws b. leads_infix (between o) ws refl b)
      (λ o. print_then {q = is_apart} (print_firm (expressed_behind S law)) (λ w i. i) apart_free
      (λ y. print_only (pair_leaf x o y) (λ a near. chain_like x a.0.0.1 (one_operand o y) (one_operand a.0.1 a.1) near.0.0.1 (ap₂ (λ v w. (v, w)) near.0.1 near.1, tt)))))
      (print_only (append-nil (expr_text x)) (λ a near. near.1)))

-- all levels of operators
pub levels_expressed : (S : Rule Expr) → Expressed S → Expressed (Levels S)
levels_expressed S law =
    chain_expressed disjoining disjoining_again _ (chain_expressed conjoining conjoining_again _ (pair_expressed comparing comparing_again _ (chain_expressed adding adding_again _ (chain_expressed multiplying multiplying_again S law))))
