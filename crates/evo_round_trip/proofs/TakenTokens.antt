-- Pieces that the tests take are written as tokens, and what matches those is taken with a value like it.
use Rattle.std.proofs.Common.{◌≡◌, ℕ, ◌^◌, ◌≤◌, ◌<◌, lit<, List, [], Bool, true, false, Option, Some, None, refl, sym, ◌∙◌, ap, subst, cond, arith}
use Rattle.std.specs.Prelude.{◌&&◌, ◌||◌, ◌==◌, not, nat_le, codes}
use Rattle.std.specs.Str.{IsUtf8, is_utf8}
use Rattle.std.proofs.lemmas.Str.{IsUtf8-from_is_utf8}
use Rattle.std.proofs.lemmas.Slice.Eq.{bytes_eq-Decides}
use Rattle.std.proofs.lemmas.Bool.{leb-true, or_left}
use Rattle.evo_base.specs.declared.place.Place.{Place}
use Rattle.evo_base.specs.declared.token.TokenKind.TheVariants as kind
use Rattle.evo_lex.specs.Front.{when, integer_value}
use Rattle.evo_lex.specs.Strings.{string_value}
use Rattle.evo_tree.specs.declared.name.Identifier.{Identifier}
use Rattle.evo_tree.specs.declared.terminal.Role.{Role}
use Rattle.evo_tree.specs.declared.terminal.Role.TheVariants as role
use Rattle.evo_tree.specs.declared.terminal.Terminal.{Terminal}
use Rattle.evo_tree.specs.declared.terminal.Terminal.TheVariants as t
use Rattle.evo_tree.specs.Terminals.{number_of, terminal_of}
use Rattle.evo_tree.specs.declared.expression.InfixOperator.{InfixOperator}
use Rattle.evo_tree.specs.declared.expression.InfixOperator.TheVariants as op
use Rattle.evo_tree.specs.declared.expression.PrefixOperator.{PrefixOperator}
use Rattle.evo_tree.specs.declared.expression.PrefixOperator.TheVariants as prefix
use Rattle.evo_tree.specs.Expressions.{infix_by, multiplying, adding, comparing, conjoining, disjoining}
use Rattle.evo_tree.specs.Pieces as pieces
use Rattle.evo_tree.specs.Pieces.{Piece, placed, sign_of, is_terminal, is_identifier, has_role, role_number, mark, identifier, word, is_word, integer, string, negative, call}
use Rattle.evo_tree.specs.Statements.{attached_minus}
use Rattle.evo_tree.specs.Bare.{origin, bare_identifier}
use Rattle.evo_tree.specs.Canonical.{prefix_text, infix_text}
use Rattle.evo_round_trip.proofs.Written.{Written, is_gap, IsToken}
use Rattle.evo_round_trip.proofs.Matching.{SameLookahead, IsName}
use Rattle.evo_round_trip.proofs.Printed.{Fitted}
use Rattle.evo_round_trip.proofs.Prints.{Takes, Taken}
use Rattle.evo_parse_expr.proofs.Tests.{when_some, and_both, both_and, number_is, is_same, mark_is, identifier_is}
use Rattle.evo_round_trip.proofs.Tokens.{has_spelling, spelled, spelled_is, spelled_is_token}
use Rattle.evo_round_trip.proofs.TokensOfWords.{name_is_token}
use Rattle.evo_round_trip.proofs.TokensOfIntegers.{integer_is_token, integer_value_is}
use Rattle.evo_round_trip.proofs.TokensOfStrings.{string_is_token}
use Rattle.evo_round_trip.proofs.TokensOfEscapes.{string_value_is}
use Rattle.evo_round_trip.proofs.Spellings.{sign, named, numeral, quoted}

pub like_of : (firm : Bool) (m : Piece) (w : Written) → Fitted firm m w → SameLookahead m w
like_of true m w f = f.0
like_of false m w f = f

-- values that are like each other wherever they stand
abbrev pub Anyhow : {C : Type 0} → C → C → Type 0
Anyhow a b = Unit {0}

abbrev pub SameName : Identifier → Identifier → Type 0
SameName a b = bare_identifier a ≡ bare_identifier b

pub same_name : (a b : Identifier) → a.text ≡ b.text → SameName a b
same_name a b is = ap (λ z. record { place = origin; text = z }) is

abbrev pub SameNumber : Place × ℕ → Place × ℕ → Type 0
SameNumber v w = v.1 ≡ w.1

abbrev pub SameString : Place × List ℕ → Place × List ℕ → Type 0
SameString v w = v.1 ≡ w.1

module _ {A : Type 0} (firm : Bool) (g : Piece → Bool) (Near : A → Type 0) where
  -- a terminal of one text
  spelled_terminal : (gap : List ℕ) (k : Terminal) (r : Role) → has_spelling k ≡ true → (m : Piece) → Fitted firm m (spelled gap k r) → m.terminal ≡ k
  spelled_terminal gap k r has m f = (like_of firm m (spelled gap k r) f).terminal ∙ spelled_is k has

  takes_mark : (p : Written → Bool) (k : Terminal) (gap : List ℕ) → has_spelling k ≡ true → is_gap gap ≡ true → ((u : Piece) → g u ≡ true → u.terminal ≡ k → p (sign gap k) ≡ true) →
      Takes firm g p (λ (c : Place). sign gap k) Near Anyhow (mark k) (λ a. mark k)
  unfolding mark
  takes_mark p k gap has blank begun u c gen passes takes = (
    spelled_is_token k has gap blank role.Unattached,
    begun u passes (is_same k u (mark_is k u c takes)),
    λ a near m f. (m.place, ap (λ b. when b m.place) (number_is k m (ap number_of (spelled_terminal gap k role.Unattached has m f))), tt),
  )

  takes_name : (p : Written → Bool) (gap : List ℕ) → is_gap gap ≡ true → ((u : Piece) (text : List ℕ) → g u ≡ true → u.terminal ≡ t.Identifier → u.text ≡ text → p (named gap text) ≡ true) →
      Takes firm g p (λ (n : Identifier). named gap n.text) Near SameName identifier (λ a. identifier)
  unfolding identifier
  takes_name p gap blank begun u n gen passes takes =
      let is = and_both (is_terminal t.Identifier u) (is_utf8 u.text) (identifier_is u n takes) in
      let text : u.text ≡ n.text = ap (λ (i : Identifier). i.text) (when_some (is_identifier u) (record { place = u.place; text = u.text }) n takes).1 in
      let name : IsName n.text = subst IsName text (gen.name (is_same t.Identifier u is.0)) in (
        name_is_token gap n.text blank name,
        begun u n.text passes (is_same t.Identifier u is.0) text,
        λ a near m f.
            let like = like_of firm m (named gap n.text) f in
            let ident : is_identifier m ≡ true = both_and (is_terminal t.Identifier m) (is_utf8 m.text) (number_is t.Identifier m (ap number_of like.terminal)) (ap is_utf8 like.text ∙ ap is_utf8 (sym text) ∙ is.1) in
            (record { place = m.place; text = m.text }, ap (λ b. when b (record { place = m.place; text = m.text })) ident, same_name n (record { place = m.place; text = m.text }) (sym like.text)),
      )

  -- a word that is a keyword in its place
  takes_word : (p : Written → Bool) (w : List ℕ) (gap : List ℕ) → is_gap gap ≡ true → IsName w → p (named gap w) ≡ true →
      Takes firm g p (λ (c : Place). named gap w) Near Anyhow (word w) (λ a. word w)
  unfolding word
  takes_word p w gap blank name begun u c gen passes takes = (
    name_is_token gap w blank name,
    begun,
    λ a near m f.
        let like = like_of firm m (named gap w) f in
        (m.place, ap (λ b. when b m.place) (both_and (is_terminal t.Identifier m) _ (number_is t.Identifier m (ap number_of like.terminal)) ((bytes_eq-Decides m.text w).1 like.text)), tt),
  )

  takes_integer : (p : Written → Bool) (most : ℕ) (gap : List ℕ) → most ≤ 2 ^ 63 → is_gap gap ≡ true → ((u : Piece) (n : ℕ) → g u ≡ true → u.terminal ≡ t.Integer → p (numeral gap n) ≡ true) →
      Takes firm g p (λ (v : Place × ℕ). numeral gap v.1) Near SameNumber (integer most) (λ a. integer most)
  unfolding integer
  takes_integer p most gap small blank begun u v gen passes takes =
      let (test, value) = when_some (is_terminal t.Integer u && nat_le (integer_value u.text) most) (u.place, integer_value u.text) v takes in
      let (is, fits) = and_both (is_terminal t.Integer u) (nat_le (integer_value u.text) most) test in
      let number : integer_value u.text ≡ v.1 = ap (λ (x : Place × ℕ). x.1) value in
      let least : nat_le v.1 most ≡ true = ap (λ n. nat_le n most) (sym number) ∙ fits in (
        integer_is_token gap v.1 blank (below v.1 least),
        begun u v.1 passes (is_same t.Integer u is),
        λ a near m f.
            let like = like_of firm m (numeral gap v.1) f in
            let again : integer_value m.text ≡ v.1 = ap integer_value like.text ∙ integer_value_is v.1 (under v.1 (below v.1 least)) in
            let good : (is_terminal t.Integer m && nat_le (integer_value m.text) most) ≡ true = both_and (is_terminal t.Integer m) _ (number_is t.Integer m (ap number_of like.terminal)) (ap (λ n. nat_le n most) again ∙ least) in
            ((m.place, integer_value m.text), ap (λ b. when b (m.place, integer_value m.text)) good, sym again),
      )
    where
      under : (n : ℕ) → n ≤ 2 ^ 63 → n < 2 ^ 64
      under n le = let step : 2 ^ 63 < 2 ^ 64 = lit< tt in omega (arith, le, step)

      below : (n : ℕ) → nat_le n most ≡ true → n ≤ 2 ^ 63
      below n h = let k : n ≤ most = leb-true n most h in omega (arith, k, small)

  takes_string : (p : Written → Bool) (gap : List ℕ) → is_gap gap ≡ true → ((u : Piece) (cs : List ℕ) → g u ≡ true → u.terminal ≡ t.String → p (quoted gap cs) ≡ true) →
      Takes firm g p (λ (v : Place × List ℕ). quoted gap v.1) Near SameString string (λ a. string)
  unfolding string
  takes_string p gap blank begun u v gen passes takes =
      let (test, value) = when_some (is_terminal t.String u && is_utf8 (string_value u.text)) (u.place, string_value u.text) v takes in
      let (is, valid) = and_both (is_terminal t.String u) (is_utf8 (string_value u.text)) test in
      let text : string_value u.text ≡ v.1 = ap (λ (x : Place × List ℕ). x.1) value in
      let good : is_utf8 v.1 ≡ true = ap is_utf8 (sym text) ∙ valid in
      let utf8 : IsUtf8 v.1 = IsUtf8-from_is_utf8 v.1 good in (
        string_is_token gap v.1 blank utf8,
        begun u v.1 passes (is_same t.String u is),
        λ a near m f.
            let like = like_of firm m (quoted gap v.1) f in
            let again : string_value m.text ≡ v.1 = ap string_value like.text ∙ string_value_is v.1 utf8 in
            let test' : (is_terminal t.String m && is_utf8 (string_value m.text)) ≡ true = both_and (is_terminal t.String m) _ (number_is t.String m (ap number_of like.terminal)) (ap is_utf8 again ∙ good) in
            ((m.place, string_value m.text), ap (λ b. when b (m.place, string_value m.text)) test', sym again),
      )

-- the parenthesis of a call, on the line of what stands before it
takes_call : {A : Type 0} (g : Piece → Bool) (Near : A → Type 0) (p : Written → Bool) → p (sign [] t.OpenParenthesis) ≡ true →
    Takes true g p (λ (c : Place). sign [] t.OpenParenthesis) Near Anyhow call (λ a. call)
unfolding call
takes_call g Near p begun u c gen passes takes = (
  spelled_is_token t.OpenParenthesis refl [] refl role.Unattached,
  begun,
  λ a near m f.
      let is : is_terminal t.OpenParenthesis m ≡ true = number_is t.OpenParenthesis m (ap number_of (f.0.terminal ∙ spelled_is t.OpenParenthesis refl)) in
      (m.place, ap (λ b. when b m.place) (both_and (is_terminal t.OpenParenthesis m) (not m.below) is (ap not f.1)), tt),
)

-- `-` directly before an integer
abbrev pub minus : List ℕ → Written
minus gap = spelled gap t.Minus role.Negative

takes_negative : {A : Type 0} (firm : Bool) (g : Piece → Bool) (Near : A → Type 0) (p : Written → Bool) → ((u : Piece) → g u ≡ true → u.terminal ≡ t.Minus → p (minus []) ≡ true) →
    Takes firm g p (λ (c : Place). minus []) Near Anyhow negative (λ a. negative)
unfolding negative
takes_negative firm g Near p begun u c gen passes takes =
    let is = and_both (is_terminal t.Minus u) (has_role role.Negative u) (when_some (is_terminal t.Minus u && has_role role.Negative u) u.place c takes).0 in (
      spelled_is_token t.Minus refl [] refl role.Negative,
      begun u passes (is_same t.Minus u is.0),
      λ a near m f.
          let like = like_of firm m (minus []) f in
          let sign : is_terminal t.Minus m ≡ true = number_is t.Minus m (ap number_of (like.terminal ∙ spelled_is t.Minus refl)) in
          (m.place, ap (λ b. when b m.place) (both_and (is_terminal t.Minus m) (has_role role.Negative m) sign (ap (λ r. role_number r == 2) like.role)), tt),
    )

takes_attached : {A : Type 0} (firm : Bool) (g : Piece → Bool) (Near : A → Type 0) (p : Written → Bool) → ((u : Piece) → g u ≡ true → u.terminal ≡ t.Minus → p (minus []) ≡ true) →
    Takes firm g p (λ (c : Place). minus []) Near Anyhow attached_minus (λ a. attached_minus)
unfolding attached_minus
takes_attached firm g Near p begun u c gen passes takes =
    let is = and_both (is_terminal t.Minus u) _ (when_some (is_terminal t.Minus u && (has_role role.Negative u || has_role role.Prefix u)) u.place c takes).0 in (
      spelled_is_token t.Minus refl [] refl role.Negative,
      begun u passes (is_same t.Minus u is.0),
      λ a near m f.
          let like = like_of firm m (minus []) f in
          let sign : is_terminal t.Minus m ≡ true = number_is t.Minus m (ap number_of (like.terminal ∙ spelled_is t.Minus refl)) in
          let attached : (has_role role.Negative m || has_role role.Prefix m) ≡ true = or_left _ _ (ap (λ r. role_number r == 2) like.role) in
          (m.place, ap (λ b. when b m.place) (both_and (is_terminal t.Minus m) _ sign attached), tt),
    )

-- an operator before its operand
abbrev pub sign_terminal : PrefixOperator → Terminal
sign_terminal prefix.Minus = t.Minus
sign_terminal prefix.Not = t.Not

abbrev pub prefixed : PrefixOperator → Written
prefixed o = record { gap = []; kind = kind.Operator; text = prefix_text o; role = role.Prefix }

prefixed_token : (o : PrefixOperator) → IsToken (prefixed o)
prefixed_token prefix.Minus = spelled_is_token t.Minus refl [] refl role.Prefix
prefixed_token prefix.Not = spelled_is_token t.Not refl [] refl role.Prefix

pub prefixed_terminal : (o : PrefixOperator) → terminal_of kind.Operator (prefix_text o) ≡ sign_terminal o
prefixed_terminal prefix.Minus = spelled_is t.Minus refl
prefixed_terminal prefix.Not = spelled_is t.Not refl

sign_again : (o : PrefixOperator) → sign_of (sign_terminal o) ≡ Some o
sign_again prefix.Minus = refl
sign_again prefix.Not = refl

sign_only : (k : Terminal) (o : PrefixOperator) → sign_of k ≡ Some o → k ≡ sign_terminal o
sign_only t.Minus o e = let is : prefix.Minus ≡ o = cc in ap sign_terminal is
sign_only t.Not o e = let is : prefix.Not ≡ o = cc in ap sign_terminal is
sign_only k o e = absurd (cc)

pub sign_shown : (u : Piece) (c : Place × PrefixOperator) → pieces.sign u ≡ Some c → (u.terminal ≡ sign_terminal c.1) × (has_role role.Prefix u ≡ true)
unfolding pieces.sign
sign_shown u c takes = go (has_role role.Prefix u) refl takes
  where
    placed_is : (o : Option PrefixOperator) → placed u.place o ≡ Some c → o ≡ Some c.1
    placed_is None e = absurd (cc)
    placed_is (Some o) e = let is : ◌≡◌ {A = Place × PrefixOperator} (u.place, o) c = cc in ap (λ (x : Place × PrefixOperator). Some x.1) is

    go : (b : Bool) → has_role role.Prefix u ≡ b → cond b (placed u.place (sign_of u.terminal)) None ≡ Some c → (u.terminal ≡ sign_terminal c.1) × (has_role role.Prefix u ≡ true)
    go true is e = (sign_only u.terminal c.1 (placed_is (sign_of u.terminal) e), is)
    go false is e = absurd (cc)

abbrev pub SameSign : Place × PrefixOperator → Place × PrefixOperator → Type 0
SameSign a b = a.1 ≡ b.1

takes_sign : {A : Type 0} (firm : Bool) (g : Piece → Bool) (Near : A → Type 0) (p : Written → Bool) → ((u : Piece) (o : PrefixOperator) → g u ≡ true → u.terminal ≡ sign_terminal o → p (prefixed o) ≡ true) →
    Takes firm g p (λ (c : Place × PrefixOperator). prefixed c.1) Near SameSign pieces.sign (λ a. pieces.sign)
unfolding pieces.sign
takes_sign firm g Near p begun u c gen passes takes = (
  prefixed_token c.1,
  begun u c.1 passes (sign_shown u c takes).0,
  λ a near m f.
      let like = like_of firm m (prefixed c.1) f in
      ((m.place, c.1), ap (λ b. cond b (placed m.place (sign_of m.terminal)) None) (ap (λ r. role_number r == 1) like.role) ∙ ap (placed m.place) (ap sign_of (like.terminal ∙ prefixed_terminal c.1) ∙ sign_again c.1), refl),
)

-- an operator between operands
abbrev pub infix_terminal : InfixOperator → Terminal
infix_terminal op.Or = t.OrOr
infix_terminal op.And = t.AndAnd
infix_terminal op.Equal = t.EqualEqual
infix_terminal op.NotEqual = t.NotEqual
infix_terminal op.Less = t.Less
infix_terminal op.LessOrEqual = t.LessEqual
infix_terminal op.Greater = t.Greater
infix_terminal op.GreaterOrEqual = t.GreaterEqual
infix_terminal op.Identical = t.Identical
infix_terminal op.NotIdentical = t.NotIdentical
infix_terminal op.Add = t.Plus
infix_terminal op.Subtract = t.Minus
infix_terminal op.WrappingAdd = t.WrappingPlus
infix_terminal op.WrappingSubtract = t.WrappingMinus
infix_terminal op.Multiply = t.Star
infix_terminal op.Divide = t.Slash
infix_terminal op.Remainder = t.Percent
infix_terminal op.WrappingMultiply = t.WrappingStar

abbrev pub between : InfixOperator → Written
between o = record { gap = codes " "; kind = kind.Operator; text = infix_text o; role = role.Infix }

between_both : (o : InfixOperator) → IsToken (between o) × (terminal_of kind.Operator (infix_text o) ≡ infix_terminal o)
between_both op.Or = (spelled_is_token t.OrOr refl (codes " ") refl role.Infix, spelled_is t.OrOr refl)
between_both op.And = (spelled_is_token t.AndAnd refl (codes " ") refl role.Infix, spelled_is t.AndAnd refl)
between_both op.Equal = (spelled_is_token t.EqualEqual refl (codes " ") refl role.Infix, spelled_is t.EqualEqual refl)
between_both op.NotEqual = (spelled_is_token t.NotEqual refl (codes " ") refl role.Infix, spelled_is t.NotEqual refl)
between_both op.Less = (spelled_is_token t.Less refl (codes " ") refl role.Infix, spelled_is t.Less refl)
between_both op.LessOrEqual = (spelled_is_token t.LessEqual refl (codes " ") refl role.Infix, spelled_is t.LessEqual refl)
between_both op.Greater = (spelled_is_token t.Greater refl (codes " ") refl role.Infix, spelled_is t.Greater refl)
between_both op.GreaterOrEqual = (spelled_is_token t.GreaterEqual refl (codes " ") refl role.Infix, spelled_is t.GreaterEqual refl)
between_both op.Identical = (spelled_is_token t.Identical refl (codes " ") refl role.Infix, spelled_is t.Identical refl)
between_both op.NotIdentical = (spelled_is_token t.NotIdentical refl (codes " ") refl role.Infix, spelled_is t.NotIdentical refl)
between_both op.Add = (spelled_is_token t.Plus refl (codes " ") refl role.Infix, spelled_is t.Plus refl)
between_both op.Subtract = (spelled_is_token t.Minus refl (codes " ") refl role.Infix, spelled_is t.Minus refl)
between_both op.WrappingAdd = (spelled_is_token t.WrappingPlus refl (codes " ") refl role.Infix, spelled_is t.WrappingPlus refl)
between_both op.WrappingSubtract = (spelled_is_token t.WrappingMinus refl (codes " ") refl role.Infix, spelled_is t.WrappingMinus refl)
between_both op.Multiply = (spelled_is_token t.Star refl (codes " ") refl role.Infix, spelled_is t.Star refl)
between_both op.Divide = (spelled_is_token t.Slash refl (codes " ") refl role.Infix, spelled_is t.Slash refl)
between_both op.Remainder = (spelled_is_token t.Percent refl (codes " ") refl role.Infix, spelled_is t.Percent refl)
between_both op.WrappingMultiply = (spelled_is_token t.WrappingStar refl (codes " ") refl role.Infix, spelled_is t.WrappingStar refl)

-- a level takes the operators that it has again
abbrev pub Again : (Terminal → Option InfixOperator) → Type 0
Again h = (k : Terminal) (o : InfixOperator) → h k ≡ Some o → h (infix_terminal o) ≡ Some o

pub multiplying_again : Again multiplying
multiplying_again t.Star o e = let is : op.Multiply ≡ o = cc in subst (λ z. multiplying (infix_terminal z) ≡ Some z) is refl
multiplying_again t.Slash o e = let is : op.Divide ≡ o = cc in subst (λ z. multiplying (infix_terminal z) ≡ Some z) is refl
multiplying_again t.Percent o e = let is : op.Remainder ≡ o = cc in subst (λ z. multiplying (infix_terminal z) ≡ Some z) is refl
multiplying_again t.WrappingStar o e = let is : op.WrappingMultiply ≡ o = cc in subst (λ z. multiplying (infix_terminal z) ≡ Some z) is refl
multiplying_again k o e = absurd (cc)

pub adding_again : Again adding
adding_again t.Plus o e = let is : op.Add ≡ o = cc in subst (λ z. adding (infix_terminal z) ≡ Some z) is refl
adding_again t.Minus o e = let is : op.Subtract ≡ o = cc in subst (λ z. adding (infix_terminal z) ≡ Some z) is refl
adding_again t.WrappingPlus o e = let is : op.WrappingAdd ≡ o = cc in subst (λ z. adding (infix_terminal z) ≡ Some z) is refl
adding_again t.WrappingMinus o e = let is : op.WrappingSubtract ≡ o = cc in subst (λ z. adding (infix_terminal z) ≡ Some z) is refl
adding_again k o e = absurd (cc)

pub comparing_again : Again comparing
comparing_again t.EqualEqual o e = let is : op.Equal ≡ o = cc in subst (λ z. comparing (infix_terminal z) ≡ Some z) is refl
comparing_again t.NotEqual o e = let is : op.NotEqual ≡ o = cc in subst (λ z. comparing (infix_terminal z) ≡ Some z) is refl
comparing_again t.Less o e = let is : op.Less ≡ o = cc in subst (λ z. comparing (infix_terminal z) ≡ Some z) is refl
comparing_again t.LessEqual o e = let is : op.LessOrEqual ≡ o = cc in subst (λ z. comparing (infix_terminal z) ≡ Some z) is refl
comparing_again t.Greater o e = let is : op.Greater ≡ o = cc in subst (λ z. comparing (infix_terminal z) ≡ Some z) is refl
comparing_again t.GreaterEqual o e = let is : op.GreaterOrEqual ≡ o = cc in subst (λ z. comparing (infix_terminal z) ≡ Some z) is refl
comparing_again t.Identical o e = let is : op.Identical ≡ o = cc in subst (λ z. comparing (infix_terminal z) ≡ Some z) is refl
comparing_again t.NotIdentical o e = let is : op.NotIdentical ≡ o = cc in subst (λ z. comparing (infix_terminal z) ≡ Some z) is refl
comparing_again k o e = absurd (cc)

pub conjoining_again : Again conjoining
conjoining_again t.AndAnd o e = let is : op.And ≡ o = cc in subst (λ z. conjoining (infix_terminal z) ≡ Some z) is refl
conjoining_again k o e = absurd (cc)

pub disjoining_again : Again disjoining
disjoining_again t.OrOr o e = let is : op.Or ≡ o = cc in subst (λ z. disjoining (infix_terminal z) ≡ Some z) is refl
disjoining_again k o e = absurd (cc)

abbrev pub SameOperator : InfixOperator → InfixOperator → Type 0
SameOperator a b = a ≡ b

takes_infix : {A : Type 0} (firm : Bool) (g : Piece → Bool) (Near : A → Type 0) (p : Written → Bool) → ((o : InfixOperator) → p (between o) ≡ true) → (h : Terminal → Option InfixOperator) → Again h →
    Takes firm g p between Near SameOperator (infix_by h) (λ a. infix_by h)
unfolding infix_by
takes_infix firm g Near p begun h again u o gen passes takes = (
  (between_both o).0,
  begun o,
  λ a near m f.
      let like = like_of firm m (between o) f in
      let held : h u.terminal ≡ Some o = go (has_role role.Infix u) takes in
      (o, ap (λ b. cond b (h m.terminal) None) (ap (λ r. role_number r == 0) like.role) ∙ ap h (like.terminal ∙ (between_both o).1) ∙ again u.terminal o held, refl),
)
  where
    go : (b : Bool) → cond b (h u.terminal) None ≡ Some o → h u.terminal ≡ Some o
    go true e = e
    go false e = absurd (cc)

-- ---- the same, with what the rule says left out

module _ {A : Type 0} {g : Piece → Bool} {p : Written → Bool} {Near : A → Type 0} where
  pub taken_call : p (sign [] t.OpenParenthesis) ≡ true → Taken true g p (λ (c : Place). sign [] t.OpenParenthesis) Near Anyhow call (λ a. call)
  taken_call begun = record { holds = takes_call g Near p begun }

module _ {A : Type 0} {firm : Bool} {g : Piece → Bool} {p : Written → Bool} {Near : A → Type 0} where
  pub taken_mark : (k : Terminal) (gap : List ℕ) → has_spelling k ≡ true → is_gap gap ≡ true → ((u : Piece) → g u ≡ true → u.terminal ≡ k → p (sign gap k) ≡ true) → Taken firm g p (λ (c : Place). sign gap k) Near Anyhow (mark k) (λ a. mark k)
  taken_mark k gap has blank begun = record { holds = takes_mark firm g Near p k gap has blank begun }

  pub taken_name : (gap : List ℕ) → is_gap gap ≡ true → ((u : Piece) (text : List ℕ) → g u ≡ true → u.terminal ≡ t.Identifier → u.text ≡ text → p (named gap text) ≡ true) → Taken firm g p (λ (n : Identifier). named gap n.text) Near SameName identifier (λ a. identifier)
  taken_name gap blank begun = record { holds = takes_name firm g Near p gap blank begun }

  pub taken_word : (w gap : List ℕ) → is_gap gap ≡ true → IsName w → p (named gap w) ≡ true → Taken firm g p (λ (c : Place). named gap w) Near Anyhow (word w) (λ a. word w)
  taken_word w gap blank name begun = record { holds = takes_word firm g Near p w gap blank name begun }

  pub taken_integer : (most : ℕ) (gap : List ℕ) → most ≤ 2 ^ 63 → is_gap gap ≡ true → ((u : Piece) (n : ℕ) → g u ≡ true → u.terminal ≡ t.Integer → p (numeral gap n) ≡ true) → Taken firm g p (λ (v : Place × ℕ). numeral gap v.1) Near SameNumber (integer most) (λ a. integer most)
  taken_integer most gap small blank begun = record { holds = takes_integer firm g Near p most gap small blank begun }

  pub taken_string : (gap : List ℕ) → is_gap gap ≡ true → ((u : Piece) (cs : List ℕ) → g u ≡ true → u.terminal ≡ t.String → p (quoted gap cs) ≡ true) → Taken firm g p (λ (v : Place × List ℕ). quoted gap v.1) Near SameString string (λ a. string)
  taken_string gap blank begun = record { holds = takes_string firm g Near p gap blank begun }

  pub taken_negative : ((u : Piece) → g u ≡ true → u.terminal ≡ t.Minus → p (minus []) ≡ true) → Taken firm g p (λ (c : Place). minus []) Near Anyhow negative (λ a. negative)
  taken_negative begun = record { holds = takes_negative firm g Near p begun }

  pub taken_attached : ((u : Piece) → g u ≡ true → u.terminal ≡ t.Minus → p (minus []) ≡ true) → Taken firm g p (λ (c : Place). minus []) Near Anyhow attached_minus (λ a. attached_minus)
  taken_attached begun = record { holds = takes_attached firm g Near p begun }

  pub taken_sign : ((u : Piece) (o : PrefixOperator) → g u ≡ true → u.terminal ≡ sign_terminal o → p (prefixed o) ≡ true) → Taken firm g p (λ (c : Place × PrefixOperator). prefixed c.1) Near SameSign pieces.sign (λ a. pieces.sign)
  taken_sign begun = record { holds = takes_sign firm g Near p begun }

  pub taken_infix : {h : Terminal → Option InfixOperator} → ((o : InfixOperator) → p (between o) ≡ true) → Again h → Taken firm g p between Near SameOperator (infix_by h) (λ a. infix_by h)
  taken_infix {h} begun again = record { holds = takes_infix firm g Near p begun h again }
