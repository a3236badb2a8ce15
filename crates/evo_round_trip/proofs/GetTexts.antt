-- What spells an expression or a statement that is written `get` is the name `get` alone.
use Rattle.std.proofs.Common.{◌≡◌, ℕ, zero, suc, ◌-◌, ◌^◌, ◌<◌, ◌≤◌, lit<, List, [], ◌∷◌, ◌++◌, Bool, true, false, codes, Option, Some, None, refl, sym, ◌∙◌, ap, subst, inl, inr, arith, append-nil}
use Rattle.std.specs.Prelude.{◌||◌, ◌&&◌, ◌==◌, nat_le}
use Rattle.std.specs.List.{list_all}
use Rattle.std.specs.Char.{is_ascii_digit}
use Rattle.std.specs.Str.{bytes_eq}
use Rattle.std.proofs.lemmas.Slice.Eq.{bytes_eq-Decides}
use Rattle.std.proofs.lemmas.Bool.{leb-true, or_left, or_right}
use Rattle.evo_base.specs.declared.place.Place.{Place}
use Rattle.evo_combinators.specs.Rule.{Empty, Fail, TokenThen, Or, Then, Many}
use Rattle.evo_lex.specs.Front.{integer_value}
use Rattle.evo_tree.specs.declared.name.Identifier.{Identifier}
use Rattle.evo_tree.specs.declared.expression.InfixOperator.{InfixOperator}
use Rattle.evo_tree.specs.declared.expression.PrefixOperator.{PrefixOperator}
use Rattle.evo_tree.specs.declared.expression.PrefixOperator.TheVariants as prefix
use Rattle.evo_tree.specs.declared.expression.Expr.{Expr}
use Rattle.evo_tree.specs.declared.expression.Expr.TheVariants as e
use Rattle.evo_tree.specs.declared.terminal.Terminal.TheVariants as t
use Rattle.evo_tree.specs.Pieces.{Piece, is_terminal, is_identifier, mark, call, identifier, integer}
use Rattle.evo_tree.specs.Expressions.{Rule, Nested, chain, members, one_operand, ArgumentsTail, Arguments, Member, Primary, Postfix, UnaryOf, Unary, Chain, Pair, Levels, IsExpr}
use Rattle.evo_tree.specs.Declarations.{is_get}
use Rattle.evo_tree.specs.Canonical.{Text, expr_text}
use Rattle.evo_print.proofs.ExpressionTexts.{super_text, implicit_text, parenthesised_text, sign_text, path_text, chain_text}
use Rattle.evo_parse_expr.proofs.Tests.{when_some, and_both, both_and, identifier_is}
use Rattle.evo_round_trip.proofs.TokensOfIntegers.{all_digits}
use Rattle.evo_round_trip.proofs.ExpressionTrees.{Argument, Call, name_is, integer_text, negative_text, string_is, boolean_is, self_is, self_type_is}

-- the one piece is the name `get`
abbrev pub is_lone_get : List Piece → Bool
is_lone_get [] = false
is_lone_get (u ∷ []) = is_get u
is_lone_get (u ∷ v ∷ us) = false

-- ---- texts that are no `get`

abbrev pub starts_get : List ℕ → Bool
starts_get [] = false
starts_get (c ∷ cs) = c == 103

pub no_get : (z : List ℕ) → starts_get z ≡ false → z ≡ codes "get" → ⊥
no_get z h is = let bad : true ≡ false = sym (ap starts_get is) ∙ h in cc

abbrev pub has : ℕ → List ℕ → Bool
has c [] = false
has c (d ∷ ds) = d == c || has c ds

has_behind : (c : ℕ) → (c == c) ≡ true → (x y : List ℕ) → has c (x ++ (c ∷ y)) ≡ true
has_behind c same [] y = or_left _ _ same
has_behind c same (d ∷ x) y = or_right _ _ (has_behind c same x y)

-- a text in which a character stands that is not in it
pub no_get_behind : (c : ℕ) → (c == c) ≡ true → has c (codes "get") ≡ false → (x y : List ℕ) → x ++ (c ∷ y) ≡ codes "get" → ⊥
no_get_behind c same h x y is = let bad : true ≡ false = sym (has_behind c same x y) ∙ ap (has c) is ∙ h in cc

-- ---- rules

-- P holds of all that S spells
pub record All {B : Type 0} (P : B → Type 0) (S : Rule B) : Type 0 where
  pub holds : (us : List Piece) (b : B) → S us b → P b

module _ {B : Type 0} {P : B → Type 0} where
  pub all_only : {b : B} → P b → All P (Empty b)
  all_only h = record { holds = λ us b s. subst P (sym s.1) h }

  pub all_nothing : All P Fail
  all_nothing = record { holds = λ us b s. absurd s }

  pub all_or : {S R : Rule B} → All P S → All P R → All P (Or S R)
  all_or {S} {R} as' ar = record { holds = go }
    where
      go : (us : List Piece) (b : B) → Or S R us b → P b
      go us b (inl s) = as'.holds us b s
      go us b (inr r) = ar.holds us b r

  module _ {C : Type 0} {f : Piece → Option C} {S : C → Rule B} where
    pub all_led_by : ((u : Piece) (c : C) → f u ≡ Some c → All P (S c)) → All P (TokenThen f S)
    all_led_by h = record { holds = λ us b s. let (u, c, vs, at, takes, r) = s in (h u c takes).holds vs b r }

    pub all_led : ((c : C) → All P (S c)) → All P (TokenThen f S)
    all_led h = all_led_by (λ u c takes. h c)

    pub all_nested : (d : ℕ) → All P (TokenThen f S) → All P (Nested d f S)
    all_nested zero h = record { holds = λ us b s. absurd s }
    all_nested (suc d) h = h

  module _ {C : Type 0} {S : Rule C} {R : C → Rule B} where
    pub all_then_by : {Q : C → Type 0} → All Q S → ((c : C) → Q c → All P (R c)) → All P (Then S R)
    all_then_by as' h = record { holds = λ us b s. let (c, vs, ws, at, s', r) = s in (h c (as'.holds vs c s')).holds ws b r }

    pub all_then : ((c : C) → All P (R c)) → All P (Then S R)
    all_then h = record { holds = λ us b s. let (c, vs, ws, at, s', r) = s in (h c).holds ws b r }

-- ---- expressions

abbrev pub IsGet : Expr → Type 0
IsGet x = expr_text x ≡ codes "get"

abbrev NoGet : Expr → Type 0
NoGet x = IsGet x → ⊥

-- what S spells is written `get` only where it is the name
pub record Gets (S : Rule Expr) : Type 0 where
  pub holds : (us : List Piece) (x : Expr) → S us x → IsGet x → is_lone_get us ≡ true

gets_or : {S R : Rule Expr} → Gets S → Gets R → Gets (Or S R)
gets_or {S} {R} gs gr = record { holds = go }
  where
    go : (us : List Piece) (x : Expr) → Or S R us x → IsGet x → is_lone_get us ≡ true
    go us x (inl s) is = gs.holds us x s is
    go us x (inr r) is = gr.holds us x r is

gets_never : {S : Rule Expr} → All NoGet S → Gets S
gets_never never = record { holds = λ us x s is. absurd (never.holds us x s is) }

no_get_by : (x : Expr) (z : Text) → expr_text x ≡ z → starts_get z ≡ false → NoGet x
no_get_by x z text h is = no_get z h (sym text ∙ is)

-- ---- operands

module _ (d : ℕ) (I O : Rule Expr) where
  IsCalled : Call → Type 0
  IsCalled xs = (as' : List Argument) × (xs ≡ Some as')

  call_written : (n : Identifier) (as' : List Argument) → NoGet (e.Name n (Some as'))
  call_written n as' is = no_get_behind 40 refl refl n.text _ (sym (name_is n (Some as')) ∙ is)

  -- a name without arguments
  alone : (u : Piece) (n : Identifier) → identifier u ≡ Some n → IsGet (e.Name n None) → is_get u ≡ true
  unfolding identifier
  alone u n takes is =
      let text : u.text ≡ n.text = ap (λ (i : Identifier). i.text) (when_some (is_identifier u) (record { place = u.place; text = u.text }) n takes).1 in
      both_and (is_terminal t.Identifier u) (bytes_eq u.text (codes "get")) (and_both (is_terminal t.Identifier u) _ (identifier_is u n takes)).0
      ((bytes_eq-Decides u.text (codes "get")).1 (text ∙ sym (append-nil n.text) ∙ sym (name_is n None) ∙ is))

  name_gets : Gets (TokenThen identifier (λ n. Then (Arguments d I O) (λ as'. Empty (e.Name n as'))))
  unfolding IsCalled
  name_gets = record {
    holds = λ us x s is.
        let (u, n, vs, at, takes, (xs, ws, rest, cut, args, (nil, named))) = s in
        ap is_lone_get at ∙ ap (λ z. is_lone_get (u ∷ z)) cut ∙ ap (λ z. is_lone_get (u ∷ (ws ++ z))) nil ∙ go u n takes ws xs args (ap expr_text (sym named) ∙ is);
  }
    where
      called : All IsCalled (Nested d call (λ _. Then (ArgumentsTail d I O) (λ as'. Empty (Some as'))))
      called = all_nested d (all_led (λ c. all_then (λ as'. all_only (as', refl))))

      go : (u : Piece) (n : Identifier) → identifier u ≡ Some n → (ws : List Piece) (xs : Call) → Arguments d I O ws xs → IsGet (e.Name n xs) → is_lone_get (u ∷ (ws ++ [])) ≡ true
      go u n takes ws xs (inl r) is = let (as', some) = called.holds ws xs r in absurd (call_written n as' (ap (λ z. expr_text (e.Name n z)) (sym some) ∙ is))
      go u n takes ws xs (inr (nil, none)) is = ap (λ z. is_lone_get (u ∷ (z ++ []))) nil ∙ alone u n takes (ap (λ z. expr_text (e.Name n z)) (sym none) ∙ is)

  integers : (c : Place × ℕ) (u : Piece) → integer (2 ^ 63 - 1) u ≡ Some c → NoGet (e.Integer c.0 c.1)
  unfolding integer
  integers c u takes is =
      let (test, value) = when_some (is_terminal t.Integer u && nat_le (integer_value u.text) (2 ^ 63 - 1)) (u.place, integer_value u.text) c takes in
      let least : nat_le c.1 (2 ^ 63 - 1) ≡ true = ap (λ (v : Place × ℕ). nat_le v.1 (2 ^ 63 - 1)) (sym value) ∙ (and_both (is_terminal t.Integer u) (nat_le (integer_value u.text) (2 ^ 63 - 1)) test).1 in
      let digits : list_all is_ascii_digit (codes "get") ≡ true = ap (list_all is_ascii_digit) (sym (sym (integer_text c.0 c.1) ∙ is)) ∙ all_digits c.1 (small c.1 least) in
      no_digits digits
    where
      small : (n : ℕ) → nat_le n (2 ^ 63 - 1) ≡ true → n < 2 ^ 64
      small n h = let k : n ≤ 2 ^ 63 - 1 = leb-true n (2 ^ 63 - 1) h in let step : 2 ^ 63 < 2 ^ 64 = lit< tt in omega (arith, k, step)

      no_digits : list_all is_ascii_digit (codes "get") ≡ true → ⊥
      no_digits h = cc

  booleans : (c : Place) (b : Bool) → NoGet (e.Boolean c b)
  booleans c true = no_get_by (e.Boolean c true) _ (boolean_is c true) refl
  booleans c false = no_get_by (e.Boolean c false) _ (boolean_is c false) refl

  primary_gets : Gets (Primary d I O)
  primary_gets = gets_or name_gets (gets_never (all_or (all_led_by (λ u v takes. all_only (integers v u takes)))
      (all_or (all_led (λ v. all_only (no_get_by (e.String v.0 v.1) _ (string_is v.0 v.1) refl)))
      (all_or (all_led (λ c. all_only (no_get_by (e.SelfValue c) _ (self_is c) refl)))
      (all_or (all_led (λ c. all_only (no_get_by (e.SelfType c) _ (self_type_is c) refl)))
      (all_or (all_led (λ c. all_led (λ c'. all_led (λ n. all_then (λ xs. all_only (no_get_by (e.Super c n xs) _ (super_text (e.Super c n xs) c n xs refl) refl))))))
      (all_or (all_led (λ c. all_only (booleans c true)))
      (all_or (all_led (λ c. all_only (booleans c false)))
      (all_or (all_led (λ c. all_led (λ v. all_only (no_get_by (e.Negative c v.1) _ (negative_text c v.1) refl))))
      (all_or (all_nested d (all_led (λ c. all_then (λ x. all_led (λ c'. all_only (no_get_by (e.Parenthesised c x) _ (parenthesised_text (e.Parenthesised c x) c x refl) refl))))))
      (all_or (all_led (λ c. all_then (λ m. all_only (no_get_by (e.ImplicitMember c m.0 m.1) _ (implicit_text (e.ImplicitMember c m.0 m.1) c m.0 m.1 refl) refl)))) all_nothing)))))))))))

  links_gets : Gets (Postfix d I O)
  links_gets = record {
    holds = λ us y s is.
        let (x, vs, ws, at, s', (ms, ns, rest, cut, many, (nil, named))) = s in
        ap is_lone_get (at ∙ ap (λ z. vs ++ z) (cut ∙ ap (λ z. ns ++ z) nil ∙ append-nil ns)) ∙ go x vs ns ms many (primary_gets.holds vs x s') (ap expr_text (sym named) ∙ is);
  }
    where
      go : (x : Expr) (vs ns : List Piece) (ms : List (Identifier × Call)) → Many (mark t.Dot) (λ _. Member d I O) ns ms → (IsGet x → is_lone_get vs ≡ true) → IsGet (members x ms) → is_lone_get (vs ++ ns) ≡ true
      go x vs ns [] none law is = ap is_lone_get (ap (λ z. vs ++ z) none ∙ append-nil vs) ∙ law is
      go x vs ns (m ∷ ms) many law is = absurd (no_get_behind 46 refl refl (expr_text x) _ (sym (path_text (e.Members x (m ∷ ms)) x (m ∷ ms) refl) ∙ is))

  signed : (c : Place) (o : PrefixOperator) (x : Expr) → NoGet (e.Prefix c o x)
  signed c prefix.Minus x = no_get_by (e.Prefix c prefix.Minus x) _ (sign_text (e.Prefix c prefix.Minus x) c prefix.Minus x refl) refl
  signed c prefix.Not x = no_get_by (e.Prefix c prefix.Not x) _ (sign_text (e.Prefix c prefix.Not x) c prefix.Not x refl) refl

  unary_of_gets : Gets (UnaryOf d I O)
  unary_of_gets = gets_or (gets_never (all_nested d (all_led (λ s. all_then (λ x. all_only (signed s.0 s.1 x)))))) links_gets

unary_gets : (d : ℕ) → Gets (Unary d)
unfolding Unary
unary_gets zero = unary_of_gets zero Fail Fail
unary_gets (suc d) = unary_of_gets (suc d) (Levels (Unary d)) (Unary d)

-- ---- chains of operators

chained : (x : Expr) (o : InfixOperator × Expr) (os : List (InfixOperator × Expr)) → NoGet (chain x (o ∷ os))
chained x o os is = no_get_behind 32 refl refl (expr_text x) _ (sym (chain_text (e.Chain x (o ∷ os)) x (o ∷ os) refl) ∙ is)

module _ (f : Piece → Option InfixOperator) (S : Rule Expr) (law : Gets S) where
  chain_gets : Gets (Chain f S)
  chain_gets = record {
    holds = λ us y s is.
        let (x, vs, ws, at, s', (os, ns, rest, cut, many, (nil, named))) = s in
        ap is_lone_get (at ∙ ap (λ z. vs ++ z) (cut ∙ ap (λ z. ns ++ z) nil ∙ append-nil ns)) ∙ go x vs ns os many (law.holds vs x s') (ap expr_text (sym named) ∙ is);
  }
    where
      go : (x : Expr) (vs ns : List Piece) (os : List (InfixOperator × Expr)) → Many f (λ o. Then S (λ y. Empty (o, y))) ns os → (IsGet x → is_lone_get vs ≡ true) → IsGet (chain x os) → is_lone_get (vs ++ ns) ≡ true
      go x vs ns [] none law is = ap is_lone_get (ap (λ z. vs ++ z) none ∙ append-nil vs) ∙ law is
      go x vs ns (o ∷ os) many law is = absurd (chained x o os is)

  pair_gets : Gets (Pair f S)
  pair_gets = record { holds = λ us y s is. let (x, vs, ws, at, s', r) = s in ap is_lone_get at ∙ go x y vs ws (law.holds vs x s') r is }
    where
      operated : (x : Expr) → All NoGet (TokenThen f (λ o. Then S (λ z. Empty (chain x (one_operand o z)))))
      operated x = all_led (λ o. all_then (λ z. all_only (chained x (o, z) [])))

      go : (x y : Expr) (vs ws : List Piece) → (IsGet x → is_lone_get vs ≡ true) → Or (TokenThen f (λ o. Then S (λ z. Empty (chain x (one_operand o z))))) (Empty x) ws y → IsGet y → is_lone_get (vs ++ ws) ≡ true
      go x y vs ws law (inl r) is = absurd ((operated x).holds ws y r is)
      go x y vs ws law (inr (nil, named)) is = ap is_lone_get (ap (λ z. vs ++ z) nil ∙ append-nil vs) ∙ law (ap expr_text (sym named) ∙ is)

-- an expression that is written `get` is the name
pub expression_gets : (d : ℕ) → Gets (IsExpr d)
expression_gets d = chain_gets _ _ (chain_gets _ _ (pair_gets _ _ (chain_gets _ _ (chain_gets _ _ (unary_gets d)))))
