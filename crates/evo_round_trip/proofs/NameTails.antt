-- What may stand behind a name that begins an expression or a statement: `(`, `.` or an operator, and no name, brace or semicolon.
use Rattle.std.proofs.Common.{◌≡◌, ℕ, zero, suc, List, [], ◌∷◌, ◌++◌, Bool, true, false, Option, Some, None, refl, ◌∙◌, ap, cond, inl, inr}
use Rattle.std.specs.Prelude.{◌||◌, ◌==◌, not}
use Rattle.std.proofs.lemmas.Bool.{or_right}
use Rattle.evo_base.specs.declared.place.Place.{Place}
use Rattle.evo_combinators.specs.Rule.{Empty, Fail, TokenThen, Or, Then, Many}
use Rattle.evo_tree.specs.declared.expression.InfixOperator.{InfixOperator}
use Rattle.evo_tree.specs.declared.expression.PrefixOperator.{PrefixOperator}
use Rattle.evo_tree.specs.declared.expression.PrefixOperator.TheVariants as prefix
use Rattle.evo_tree.specs.declared.expression.Expr.{Expr}
use Rattle.evo_tree.specs.declared.statement.Introducer.{Introducer}
use Rattle.evo_tree.specs.declared.statement.AssignmentOperator.{AssignmentOperator}
use Rattle.evo_tree.specs.declared.statement.Stmt.{Stmt}
use Rattle.evo_tree.specs.declared.terminal.Terminal.{Terminal}
use Rattle.evo_tree.specs.declared.terminal.Terminal.TheVariants as t
use Rattle.evo_tree.specs.declared.terminal.Role.TheVariants as role
use Rattle.evo_tree.specs.Terminals.{number_of}
use Rattle.evo_tree.specs.Pieces as pieces
use Rattle.evo_tree.specs.Pieces.{Piece, is_terminal, has_role, placed, mark, identifier, integer, string, negative, call}
use Rattle.evo_tree.specs.Expressions.{Rule, Nested, infix_by, multiplying, adding, comparing, conjoining, disjoining, Arguments, Primary, Postfix, UnaryOf, Unary, Chain, Pair, Levels, IsExpr}
use Rattle.evo_tree.specs.Statements.{introduced, introduces, assigning, assigns, is_target, assigns_to, Action, StmtOf, IsCall, IsStmt}
use Rattle.evo_round_trip.proofs.Printed.{begins, begins_after}
use Rattle.evo_parse_expr.proofs.Tests.{is_same, same_terminal, mark_is, call_number, integer_number, string_number, negative_number}
use Rattle.evo_round_trip.proofs.TakenTokens.{sign_terminal, sign_shown}

-- no name, brace or semicolon
abbrev pub is_quiet : Terminal → Bool
is_quiet k = not (number_of k == number_of t.OpenBrace || number_of k == number_of t.Semicolon || number_of k == number_of t.CloseBrace || number_of k == number_of t.Identifier)

abbrev pub quiet : Piece → Bool
quiet u = is_quiet u.terminal

-- there are pieces, and behind a name that is the first one stands none of those
abbrev pub tailed : List Piece → Bool
tailed [] = false
tailed (u ∷ us) = not (is_terminal t.Identifier u) || begins true quiet us

-- all that S spells is so
pub record Tail {B : Type 0} (S : Rule B) : Type 0 where
  pub holds : (us : List Piece) (b : B) → S us b → tailed us ≡ true

-- S spells what may stand behind a name
pub record Quiet {B : Type 0} (S : Rule B) : Type 0 where
  pub holds : (us : List Piece) (b : B) → S us b → begins true quiet us ≡ true

pub tailed_append : (vs ws : List Piece) → tailed vs ≡ true → begins true quiet ws ≡ true → tailed (vs ++ ws) ≡ true
tailed_append [] ws h k = absurd (cc)
tailed_append (v ∷ []) ws h k = or_right _ _ k
tailed_append (v ∷ u ∷ vs) ws h k = h

-- ---- the parts of a grammar

module _ {B : Type 0} where
  quiet_only : {b : B} → Quiet (Empty b)
  quiet_only = record { holds = λ us b s. ap (begins true quiet) s.0 }

  quiet_or : {S R : Rule B} → Quiet S → Quiet R → Quiet (Or S R)
  quiet_or {S} {R} qs qr = record { holds = go }
    where
      go : (us : List Piece) (b : B) → Or S R us b → begins true quiet us ≡ true
      go us b (inl s) = qs.holds us b s
      go us b (inr r) = qr.holds us b r

  tail_nothing : Tail {B = B} Fail
  tail_nothing = record { holds = λ us b s. absurd s }

  tail_or : {S R : Rule B} → Tail S → Tail R → Tail (Or S R)
  tail_or {S} {R} ts tr = record { holds = go }
    where
      go : (us : List Piece) (b : B) → Or S R us b → tailed us ≡ true
      go us b (inl s) = ts.holds us b s
      go us b (inr r) = tr.holds us b r

  module _ {C : Type 0} {f : Piece → Option C} {S : C → Rule B} where
    -- a token that may stand there
    quiet_led : ((u : Piece) (c : C) → f u ≡ Some c → quiet u ≡ true) → Quiet (TokenThen f S)
    quiet_led h = record { holds = λ us b s. let (u, c, vs, at, takes, r) = s in ap (begins true quiet) at ∙ h u c takes }

    quiet_nested : (d : ℕ) → Quiet (TokenThen f S) → Quiet (Nested d f S)
    quiet_nested zero q = record { holds = λ us b s. absurd s }
    quiet_nested (suc d) q = q

    quiet_many : ((u : Piece) (c : C) → f u ≡ Some c → quiet u ≡ true) → Quiet (Many f S)
    quiet_many h = record { holds = go }
      where
        go : (us : List Piece) (bs : List B) → Many f S us bs → begins true quiet us ≡ true
        go us [] s = ap (begins true quiet) s
        go us (b ∷ bs) s = let (u, c, vs, ws, at, takes, r, more) = s in ap (begins true quiet) at ∙ h u c takes

    -- a token that is no name
    tail_led : ((u : Piece) (c : C) → f u ≡ Some c → is_terminal t.Identifier u ≡ false) → Tail (TokenThen f S)
    tail_led h = record { holds = λ us b s. let (u, c, vs, at, takes, r) = s in ap tailed at ∙ ap (λ z. not z || begins true quiet vs) (h u c takes) }

    tail_nested : (d : ℕ) → Tail (TokenThen f S) → Tail (Nested d f S)
    tail_nested zero h = record { holds = λ us b s. absurd s }
    tail_nested (suc d) h = h

    -- a name
    tail_name : ((c : C) → Quiet (S c)) → Tail (TokenThen f S)
    tail_name q = record { holds = λ us b s. let (u, c, vs, at, takes, r) = s in ap tailed at ∙ or_right (not (is_terminal t.Identifier u)) (begins true quiet vs) ((q c).holds vs b r) }

  module _ {C : Type 0} {S : Rule C} {R : C → Rule B} where
    quiet_then : Quiet S → ((c : C) → Quiet (R c)) → Quiet (Then S R)
    quiet_then qs qr = record { holds = λ us b s. let (c, vs, ws, at, s', r) = s in ap (begins true quiet) at ∙ begins_after true quiet vs ws (qs.holds vs c s') ((qr c).holds ws b r) }

    tail_then : Tail S → ((c : C) → Quiet (R c)) → Tail (Then S R)
    tail_then ts qr = record { holds = λ us b s. let (c, vs, ws, at, s', r) = s in ap tailed at ∙ tailed_append vs ws (ts.holds vs c s') ((qr c).holds ws b r) }

-- ---- tokens

quiet_mark : (k : Terminal) → is_quiet k ≡ true → (u : Piece) (c : Place) → mark k u ≡ Some c → quiet u ≡ true
quiet_mark k h u c takes = ap is_quiet (is_same k u (mark_is k u c takes)) ∙ h

other_is : (k : Terminal) → (number_of k == 0) ≡ false → (u : Piece) → u.terminal ≡ k → is_terminal t.Identifier u ≡ false
other_is k h u is = ap (λ z. number_of z == 0) is ∙ h

other_mark : (k : Terminal) → (number_of k == 0) ≡ false → (u : Piece) (c : Place) → mark k u ≡ Some c → is_terminal t.Identifier u ≡ false
other_mark k h u c takes = other_is k h u (is_same k u (mark_is k u c takes))

quiet_call : (u : Piece) (c : Place) → call u ≡ Some c → quiet u ≡ true
quiet_call u c takes = ap is_quiet (same_terminal u.terminal t.OpenParenthesis (call_number u c takes))

other_sign : (u : Piece) (c : Place × PrefixOperator) → pieces.sign u ≡ Some c → is_terminal t.Identifier u ≡ false
other_sign u c takes = go c.1 (sign_shown u c takes).0
  where
    go : (o : PrefixOperator) → u.terminal ≡ sign_terminal o → is_terminal t.Identifier u ≡ false
    go prefix.Minus is = other_is t.Minus refl u is
    go prefix.Not is = other_is t.Not refl u is

-- operators that are quiet
abbrev Sounds : {A : Type 0} → (Terminal → Option A) → Type 0
Sounds {A} h = (k : Terminal) (o : A) → h k ≡ Some o → is_quiet k ≡ true

multiplying_quiet : Sounds multiplying
multiplying_quiet t.Star o e = refl
multiplying_quiet t.Slash o e = refl
multiplying_quiet t.Percent o e = refl
multiplying_quiet t.WrappingStar o e = refl
multiplying_quiet k o e = absurd (cc)

adding_quiet : Sounds adding
adding_quiet t.Plus o e = refl
adding_quiet t.Minus o e = refl
adding_quiet t.WrappingPlus o e = refl
adding_quiet t.WrappingMinus o e = refl
adding_quiet k o e = absurd (cc)

comparing_quiet : Sounds comparing
comparing_quiet t.EqualEqual o e = refl
comparing_quiet t.NotEqual o e = refl
comparing_quiet t.Less o e = refl
comparing_quiet t.LessEqual o e = refl
comparing_quiet t.Greater o e = refl
comparing_quiet t.GreaterEqual o e = refl
comparing_quiet t.Identical o e = refl
comparing_quiet t.NotIdentical o e = refl
comparing_quiet k o e = absurd (cc)

conjoining_quiet : Sounds conjoining
conjoining_quiet t.AndAnd o e = refl
conjoining_quiet k o e = absurd (cc)

disjoining_quiet : Sounds disjoining
disjoining_quiet t.OrOr o e = refl
disjoining_quiet k o e = absurd (cc)

assigning_quiet : Sounds assigning
assigning_quiet t.Equal o e = refl
assigning_quiet t.PlusEqual o e = refl
assigning_quiet t.MinusEqual o e = refl
assigning_quiet t.StarEqual o e = refl
assigning_quiet t.SlashEqual o e = refl
assigning_quiet t.PercentEqual o e = refl
assigning_quiet k o e = absurd (cc)

under_cond : {A : Type 0} (b : Bool) (x : Option A) (a : A) → cond b x None ≡ Some a → x ≡ Some a
under_cond true x a e = e
under_cond false x a e = absurd (cc)

quiet_infix : (h : Terminal → Option InfixOperator) → Sounds h → (u : Piece) (o : InfixOperator) → infix_by h u ≡ Some o → quiet u ≡ true
unfolding infix_by
quiet_infix h sounds u o takes = sounds u.terminal o (under_cond (has_role role.Infix u) (h u.terminal) o takes)

quiet_assigns : (y : Expr) (u : Piece) (o : AssignmentOperator) → assigns_to y u ≡ Some o → quiet u ≡ true
unfolding assigns_to assigns
quiet_assigns y u o takes = assigning_quiet u.terminal o (under_cond (is_terminal t.Equal u || has_role role.Infix u) (assigning u.terminal) o (under_cond (is_target y) (assigns u) o takes))

other_introduces : (u : Piece) (c : Place × Introducer) → introduces u ≡ Some c → is_terminal t.Identifier u ≡ false
unfolding introduces
other_introduces u c takes = go u.terminal takes
  where
    go : (k : Terminal) → placed u.place (introduced k) ≡ Some c → (number_of k == 0) ≡ false
    go t.Identifier e = absurd (cc)
    go _ e = refl

-- ---- expressions

module _ (d : ℕ) (I O : Rule Expr) where
  arguments_quiet : Quiet (Arguments d I O)
  arguments_quiet = quiet_or (quiet_nested d (quiet_led quiet_call)) quiet_only

  primary_tail : Tail (Primary d I O)
  primary_tail = tail_or (tail_name (λ n. quiet_then arguments_quiet (λ xs. quiet_only)))
      (tail_or (tail_led (λ u v takes. ap (λ n. n == 0) (integer_number _ u v takes)))
      (tail_or (tail_led (λ u v takes. ap (λ n. n == 0) (string_number u v takes)))
      (tail_or (tail_led (other_mark t.SelfValue refl))
      (tail_or (tail_led (other_mark t.SelfType refl))
      (tail_or (tail_led (other_mark t.Super refl))
      (tail_or (tail_led (other_mark t.True refl))
      (tail_or (tail_led (other_mark t.False refl))
      (tail_or (tail_led (λ u v takes. ap (λ n. n == 0) (negative_number u v takes)))
      (tail_or (tail_nested d (tail_led (other_mark t.OpenParenthesis refl)))
      (tail_or (tail_led (other_mark t.Dot refl)) tail_nothing))))))))))

  post_tail : Tail (Postfix d I O)
  post_tail = tail_then primary_tail (λ x. quiet_then (quiet_many (quiet_mark t.Dot refl)) (λ ms. quiet_only))

  unary_of_tail : Tail (UnaryOf d I O)
  unary_of_tail = tail_or (tail_nested d (tail_led other_sign)) post_tail

unary_tail : (d : ℕ) → Tail (Unary d)
unfolding Unary
unary_tail zero = unary_of_tail zero Fail Fail
unary_tail (suc d) = unary_of_tail (suc d) (Levels (Unary d)) (Unary d)

module _ (h : Terminal → Option InfixOperator) (sounds : Sounds h) (S : Rule Expr) (law : Tail S) where
  chain_tail : Tail (Chain (infix_by h) S)
  chain_tail = tail_then law (λ x. quiet_then (quiet_many (quiet_infix h sounds)) (λ os. quiet_only))

  pair_tail : Tail (Pair (infix_by h) S)
  pair_tail = tail_then law (λ x. quiet_or (quiet_led (quiet_infix h sounds)) quiet_only)

levels_tail : (S : Rule Expr) → Tail S → Tail (Levels S)
levels_tail S law = chain_tail disjoining disjoining_quiet _ (chain_tail conjoining conjoining_quiet _ (pair_tail comparing comparing_quiet _ (chain_tail adding adding_quiet _ (chain_tail multiplying multiplying_quiet S law))))

pub expression_tail : (d : ℕ) → Tail (IsExpr d)
expression_tail d = levels_tail (Unary d) (unary_tail d)

-- ---- statements

module _ (d : ℕ) (E : Rule Expr) (S : Rule Stmt) (law : Tail E) where
  statement_of_tail : Tail (StmtOf false d E (IsCall d) S)
  statement_of_tail = tail_or (tail_led other_introduces)
      (tail_or (tail_led (other_mark t.Underscore refl))
      (tail_or (tail_led (other_mark t.If refl))
      (tail_or (tail_led (other_mark t.While refl))
      (tail_or (tail_led (other_mark t.Return refl))
      (tail_or (tail_led (other_mark t.Break refl))
      (tail_or (tail_led (other_mark t.Continue refl))
      (tail_or (tail_led (other_mark t.Switch refl)) action_tail)))))))
    where
      action_tail : Tail (Action false d E (IsCall d) S)
      action_tail = tail_then law (λ y. quiet_or (quiet_led (quiet_assigns y)) quiet_only)

-- a statement that begins with a name goes on with `(`, `.` or an operator, if it does
pub statement_tail : (d : ℕ) → Tail (IsStmt false d)
unfolding IsStmt
statement_tail zero = statement_of_tail zero (IsExpr zero) Fail (expression_tail zero)
statement_tail (suc d) = statement_of_tail (suc d) (IsExpr (suc d)) (IsStmt false d) (expression_tail (suc d))
