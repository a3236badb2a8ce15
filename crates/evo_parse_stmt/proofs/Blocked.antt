-- Behind `self` or `super` and a dot no expression goes on with `init`.
use Rattle.std.specs.Prelude.{◌≡◌, ℕ, zero, suc, Bool, true, false, cond, ◌-◌, ◌^◌, List, [], ◌∷◌, length, Option, Some, None, Err, ◌⊎◌, refl}
use Rattle.std.proofs.Common.{sym, ◌∙◌, ap, inl, inr}
use Rattle.evo_base.specs.declared.place.Place.{Place}
use Rattle.evo_combinators.specs.declared.Fault.{Fault}
use Rattle.evo_combinators.specs.declared.Fault.TheVariants.{Grammar}
use Rattle.evo_combinators.specs.Reader.{◌>>=◌, and_then, pure, refuse, alt, one, many, many_from, lead, paired, branch, barred}
use Rattle.evo_combinators.proofs.ThreeLaws.{one_takes}
use Rattle.evo_tree.specs.declared.expression.InfixOperator.{InfixOperator}
use Rattle.evo_tree.specs.declared.expression.PrefixOperator.{PrefixOperator}
use Rattle.evo_tree.specs.declared.expression.Expr.{Expr}
use Rattle.evo_tree.specs.declared.expression.Expr.TheVariants as e
use Rattle.evo_tree.specs.declared.terminal.Terminal.{Terminal}
use Rattle.evo_tree.specs.declared.terminal.Terminal.TheVariants as t
use Rattle.evo_tree.specs.declared.terminal.Role.TheVariants as role
use Rattle.evo_tree.specs.Terminals.{number_of}
use Rattle.evo_tree.specs.Pieces.{Piece, is_terminal, mark, identifier, integer, string, sign, sign_of, placed, has_role}
use Rattle.evo_tree.specs.Expressions.{chain, members, one_operand}
use Rattle.evo_parse_expr.specs.Read.{Reader, opens, chain_of, pair_of, levels, arguments, called, member, rest_of_super, named, later_primary, primary, links, post, unary_of, unary, expr}
use Rattle.evo_parse_expr.proofs.Among.{among}
use Rattle.evo_parse_expr.proofs.Tests.{is_number}
use Rattle.evo_parse_stmt.proofs.Tests.{code, Codes, mark_of, mark_codes, identifier_codes, integer_codes, string_codes}

-- a test does not take the token
none_by : {A : Type 0} (f : Piece → Option A) (js : List ℕ) → Codes js f → (k : Terminal) (p : Piece) → code p ≡ number_of k → among js (number_of k) ≡ false → f p ≡ None
none_by {A} f js codes k p is isnt = go (f p) refl
  where
    go : (o : Option A) → f p ≡ o → f p ≡ None
    go None e = e
    go (Some a) e = absurd (let bad = sym (codes p a e) ∙ ap (among js) is ∙ isnt in cc)

alt_none : {A B : Type 0} (f : Piece → Option A) (q : A → Reader B) (r : Reader B) (u : Piece) (us : List Piece) → f u ≡ None → alt f q r (u ∷ us) ≡ r (u ∷ us)
unfolding lead
alt_none f q r u us none = ap (λ o. branch (paired o us) q (r (u ∷ us))) none

alt_some : {A B : Type 0} (f : Piece → Option A) (q : A → Reader B) (r : Reader B) (u : Piece) (a : A) (us : List Piece) → f u ≡ Some a → alt f q r (u ∷ us) ≡ q a us
unfolding lead
alt_some f q r u a us some = ap (λ o. branch (paired o us) q (r (u ∷ us))) some

opens_none : {A B : Type 0} (d : ℕ) (f : Piece → Option A) (q : A → Reader B) (r : Reader B) (u : Piece) (us : List Piece) → f u ≡ None → opens d f q r (u ∷ us) ≡ r (u ∷ us)
unfolding lead
opens_none zero f q r u us none = ap (λ o. barred (paired o us) (suc (length us)) (r (u ∷ us))) none
opens_none (suc d) f q r u us none = alt_none f q r u us none

sign_is : (k : Terminal) (o : PrefixOperator) → sign_of k ≡ Some o → among (number_of t.Minus ∷ number_of t.Not ∷ []) (number_of k) ≡ true
sign_is t.Minus o e = refl
sign_is t.Not o e = refl
sign_is k o e = absurd cc

sign_codes : Codes (number_of t.Minus ∷ number_of t.Not ∷ []) sign
unfolding sign
sign_codes p a e = go (has_role role.Prefix p) (sign_of p.terminal) refl e
  where
    go : (b : Bool) (o : Option PrefixOperator) → sign_of p.terminal ≡ o → cond b (placed p.place o) None ≡ Some a → among (number_of t.Minus ∷ number_of t.Not ∷ []) (code p) ≡ true
    go true None is e = absurd cc
    go true (Some o) is e = sign_is p.terminal o is
    go false o is e = absurd cc

-- ---- operators go on with no fault

chain_err : (f : Piece → Option InfixOperator) (p : Reader Expr) (ts : List Piece) (d : Fault) → p ts ≡ Err d → chain_of f p ts ≡ Err d
unfolding chain_of
chain_err f p ts d bad = ap (λ o. and_then o (λ x. many f (λ o'. p >>= (λ y. pure (o', y))) >>= (λ os. pure (chain x os)))) bad

pair_err : (f : Piece → Option InfixOperator) (p : Reader Expr) (ts : List Piece) (d : Fault) → p ts ≡ Err d → pair_of f p ts ≡ Err d
unfolding pair_of
pair_err f p ts d bad = ap (λ o. and_then o (λ x. alt f (λ o'. p >>= (λ y. pure (chain x (one_operand o' y)))) (pure x))) bad

levels_err : (p : Reader Expr) (ts : List Piece) (d : Fault) → p ts ≡ Err d → levels p ts ≡ Err d
levels_err p ts d bad = chain_err _ _ ts d (chain_err _ _ ts d (pair_err _ _ ts d (chain_err _ _ ts d (chain_err _ p ts d bad))))

-- ---- operands

module _ (d : ℕ) (i o : Reader Expr) (u v w : Piece) (us : List Piece) (dotted : is_terminal t.Dot v ≡ true) (is : is_terminal t.Init w ≡ true) where
  no_name : one identifier (w ∷ us) ≡ Err (Grammar (suc (length us)))
  no_name = alt_none identifier pure refuse w us (none_by identifier (number_of t.Identifier ∷ []) identifier_codes t.Init w (is_number t.Init w is) refl)

  no_member : member d i o (w ∷ us) ≡ Err (Grammar (suc (length us)))
  unfolding member
  no_member = ap (λ x. and_then x (λ n. arguments d i o >>= (λ as'. pure (n, as')))) no_name

  no_links : (x : Expr) → links d i o x (v ∷ (w ∷ us)) ≡ Err (Grammar (suc (length us)))
  unfolding links many
  no_links x =
      ap (λ x'. and_then x' (λ ms. pure (members x ms)))
      (alt_some (mark t.Dot) (λ _. member d i o >>= (λ b. many_from (mark t.Dot) (λ _. member d i o) (suc (length us)) >>= (λ bs. pure (b ∷ bs)))) (pure []) v v.place (w ∷ us) (mark_of t.Dot v dotted)
      ∙ ap (λ x'. and_then x' (λ b. many_from (mark t.Dot) (λ _. member d i o) (suc (length us)) >>= (λ bs. pure (b ∷ bs)))) no_member)

  no_super : (p : Place) → rest_of_super d i o p (v ∷ (w ∷ us)) ≡ Err (Grammar (suc (length us)))
  unfolding rest_of_super
  no_super p =
      ap (λ x. and_then x (λ _. one identifier >>= (λ n. called d i o >>= (λ as'. pure (e.Super p n as'))))) (one_takes (mark t.Dot) v v.place (w ∷ us) (mark_of t.Dot v dotted))
      ∙ ap (λ x. and_then x (λ n. called d i o >>= (λ as'. pure (e.Super p n as')))) no_name

  abbrev from_super : Reader Expr
  from_super = alt (mark t.Super) (rest_of_super d i o) (later_primary d i o)

  abbrev from_type : Reader Expr
  from_type = alt (mark t.SelfType) (λ p. pure (e.SelfType p)) from_super

  abbrev from_self : Reader Expr
  from_self = alt (mark t.SelfValue) (λ p. pure (e.SelfValue p)) from_type

  abbrev from_string : Reader Expr
  from_string = alt string (λ v. pure (e.String v.0 v.1)) from_self

  abbrev from_integer : Reader Expr
  from_integer = alt (integer (2 ^ 63 - 1)) (λ v. pure (e.Integer v.0 v.1)) from_string

  at_front : (k : Terminal) → code u ≡ number_of k → among (number_of t.Identifier ∷ []) (number_of k) ≡ false → among (number_of t.Integer ∷ []) (number_of k) ≡ false → among (number_of t.String ∷ []) (number_of k) ≡ false →
      (ts : List Piece) → primary d i o (u ∷ ts) ≡ from_self (u ∷ ts)
  unfolding primary
  at_front k own a b c ts =
      alt_none identifier (named d i o) from_integer u ts (none_by identifier (number_of t.Identifier ∷ []) identifier_codes k u own a)
      ∙ alt_none (integer (2 ^ 63 - 1)) (λ (v : Place × ℕ). pure (e.Integer v.0 v.1)) from_string u ts (none_by (integer (2 ^ 63 - 1)) (number_of t.Integer ∷ []) (integer_codes (2 ^ 63 - 1)) k u own b)
      ∙ alt_none string (λ (v : Place × List ℕ). pure (e.String v.0 v.1)) from_self u ts (none_by string (number_of t.String ∷ []) string_codes k u own c)

  self_post : is_terminal t.SelfValue u ≡ true → post d i o (u ∷ (v ∷ (w ∷ us))) ≡ Err (Grammar (suc (length us)))
  unfolding post
  self_post own =
      ap (λ x. and_then x (links d i o))
      (at_front t.SelfValue (is_number t.SelfValue u own) refl refl refl (v ∷ (w ∷ us))
      ∙ alt_some (mark t.SelfValue) (λ p. pure (e.SelfValue p)) from_type u u.place (v ∷ (w ∷ us)) (mark_of t.SelfValue u own))
      ∙ no_links (e.SelfValue u.place)

  super_post : is_terminal t.Super u ≡ true → post d i o (u ∷ (v ∷ (w ∷ us))) ≡ Err (Grammar (suc (length us)))
  unfolding post
  super_post own =
      let at = is_number t.Super u own in
      ap (λ x. and_then x (links d i o))
      (at_front t.Super at refl refl refl (v ∷ (w ∷ us))
      ∙ alt_none (mark t.SelfValue) (λ p. pure (e.SelfValue p)) from_type u (v ∷ (w ∷ us)) (none_by (mark t.SelfValue) (number_of t.SelfValue ∷ []) (mark_codes t.SelfValue) t.Super u at refl)
      ∙ alt_none (mark t.SelfType) (λ p. pure (e.SelfType p)) from_super u (v ∷ (w ∷ us)) (none_by (mark t.SelfType) (number_of t.SelfType ∷ []) (mark_codes t.SelfType) t.Super u at refl)
      ∙ alt_some (mark t.Super) (rest_of_super d i o) (later_primary d i o) u u.place (v ∷ (w ∷ us)) (mark_of t.Super u own)
      ∙ no_super u.place)

  abbrev Own : Type 0
  Own = (is_terminal t.SelfValue u ≡ true) ⊎ (is_terminal t.Super u ≡ true)

  own_post : Own → post d i o (u ∷ (v ∷ (w ∷ us))) ≡ Err (Grammar (suc (length us)))
  own_post (inl own) = self_post own
  own_post (inr own) = super_post own

  own_sign : Own → sign u ≡ None
  own_sign (inl own) = none_by sign (number_of t.Minus ∷ number_of t.Not ∷ []) sign_codes t.SelfValue u (is_number t.SelfValue u own) refl
  own_sign (inr own) = none_by sign (number_of t.Minus ∷ number_of t.Not ∷ []) sign_codes t.Super u (is_number t.Super u own) refl

  own_unary : Own → unary_of d i o (u ∷ (v ∷ (w ∷ us))) ≡ Err (Grammar (suc (length us)))
  unfolding unary_of
  own_unary own = opens_none d sign (λ s. o >>= (λ x. pure (e.Prefix s.0 s.1 x))) (post d i o) u (v ∷ (w ∷ us)) (own_sign own) ∙ own_post own

pub blocked : (d : ℕ) (u v w : Piece) (us : List Piece) → (is_terminal t.SelfValue u ≡ true) ⊎ (is_terminal t.Super u ≡ true) → is_terminal t.Dot v ≡ true → is_terminal t.Init w ≡ true →
    expr d (u ∷ (v ∷ (w ∷ us))) ≡ Err (Grammar (suc (length us)))
unfolding unary
blocked zero u v w us own dotted is = levels_err (unary 0) (u ∷ (v ∷ (w ∷ us))) (Grammar (suc (length us))) (own_unary 0 refuse refuse u v w us dotted is own)
blocked (suc d) u v w us own dotted is = levels_err (unary (suc d)) (u ∷ (v ∷ (w ∷ us))) (Grammar (suc (length us))) (own_unary (suc d) (levels (unary d)) (unary d) u v w us dotted is own)
