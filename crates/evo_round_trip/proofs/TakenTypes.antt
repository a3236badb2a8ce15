-- Pieces that the tests of types and headers take are written as tokens, and what matches those is taken with a value like it.
use Rattle.std.proofs.Common.{◌≡◌, ℕ, List, Bool, true, false, codes, Option, refl, sym, ◌∙◌, ap, subst, inl, inr}
use Rattle.std.specs.Prelude.{◌&&◌, ◌||◌, ◌==◌}
use Rattle.std.specs.Str.{chars, is_utf8}
use Rattle.std.proofs.lemmas.Bool.{or_left, or_right}
use Rattle.evo_base.specs.declared.place.Place.{Place}
use Rattle.evo_base.specs.declared.token.TokenKind.{TokenKind}
use Rattle.evo_base.specs.declared.token.TokenKind.TheVariants as kind
use Rattle.evo_base.specs.Keywords.{is_keyword}
use Rattle.evo_lex.specs.Front.{when, kind_of}
use Rattle.evo_tree.specs.declared.terminal.Role.TheVariants as role
use Rattle.evo_tree.specs.declared.terminal.Terminal.{Terminal}
use Rattle.evo_tree.specs.declared.terminal.Terminal.TheVariants as t
use Rattle.evo_tree.specs.Terminals.{number_of, terminal_of}
use Rattle.evo_tree.specs.Pieces.{Piece, is_terminal, is_identifier, has_role, role_number}
use Rattle.evo_tree.specs.Types.{type_head, plain_name}
use Rattle.evo_tree.specs.Declarations.{only_if, infix_mark}
use Rattle.evo_round_trip.proofs.Written.{Written, is_gap, IsToken}
use Rattle.evo_round_trip.proofs.Matching.{IsName, IsGenuine}
use Rattle.evo_round_trip.proofs.Prints.{Takes, Taken}
use Rattle.evo_parse_expr.proofs.Tests.{when_some, and_both, both_and, or_either, number_is, is_same}
use Rattle.evo_round_trip.proofs.Tokens.{has_spelling, spelled, spelled_is, spelled_is_token}
use Rattle.evo_round_trip.proofs.TokensOfWords.{name_is_token}
use Rattle.evo_round_trip.proofs.Spellings.{named}
use Rattle.evo_round_trip.proofs.TakenTokens.{Anyhow, SameString, like_of}

-- a name or `Self`
abbrev pub head_word : List ℕ → List ℕ → Written
head_word gap text = record { gap = gap; kind = kind_of (chars text); text = text; role = role.Unattached }

self_kind : kind_of (chars (codes "Self")) ≡ kind.Keyword
unfolding kind_of is_keyword chars
self_kind = refl

-- what a head is: a token, and a terminal that is taken as a head
record IsHead (gap text : List ℕ) : Type 0 where
  token : IsToken (head_word gap text)
  head : (m : Piece) → m.terminal ≡ terminal_of (kind_of (chars text)) text → (is_terminal t.Identifier m || is_terminal t.SelfType m) ≡ true

name_head : (gap text : List ℕ) → is_gap gap ≡ true → IsName text → IsHead gap text
name_head gap text blank name = record {
  token = subst (λ (k : TokenKind). IsToken (record { gap = gap; kind = k; text = text; role = role.Unattached })) (sym name.no_keyword) (name_is_token gap text blank name);
  head = λ m is. or_left (is_terminal t.Identifier m) (is_terminal t.SelfType m) (number_is t.Identifier m (ap number_of (is ∙ ap (λ (k : TokenKind). terminal_of k text) name.no_keyword)));
}

self_head : (gap : List ℕ) → is_gap gap ≡ true → IsHead gap (codes "Self")
self_head gap blank = record {
  token = subst (λ (k : TokenKind). IsToken (record { gap = gap; kind = k; text = codes "Self"; role = role.Unattached })) (sym self_kind) (spelled_is_token t.SelfType refl gap blank role.Unattached);
  head = λ m is. or_right (is_terminal t.Identifier m) (is_terminal t.SelfType m) (number_is t.SelfType m (ap number_of (is ∙ ap (λ (k : TokenKind). terminal_of k (codes "Self")) self_kind ∙ spelled_is t.SelfType refl)));
}

piece_head : (gap : List ℕ) (u : Piece) → is_gap gap ≡ true → IsGenuine u → (is_terminal t.Identifier u || is_terminal t.SelfType u) ≡ true → IsHead gap u.text
piece_head gap u blank gen is = elim (or_either (is_terminal t.Identifier u) (is_terminal t.SelfType u) is) [
  | inl name ↦ name_head gap u.text blank (gen.name (is_same t.Identifier u name))
  | inr self ↦ subst (IsHead gap) (sym (gen.self_type (is_same t.SelfType u self))) (self_head gap blank)
]

module _ {A : Type 0} (firm : Bool) (g : Piece → Bool) (Near : A → Type 0) where
  takes_type_head : (p : Written → Bool) (gap : List ℕ) → is_gap gap ≡ true → ((text : List ℕ) → p (head_word gap text) ≡ true) →
      Takes firm g p (λ (v : Place × List ℕ). head_word gap v.1) Near SameString type_head (λ a. type_head)
  unfolding type_head
  takes_type_head p gap blank begun u v gen passes takes =
      let (test, value) = when_some ((is_terminal t.Identifier u || is_terminal t.SelfType u) && is_utf8 u.text) (u.place, u.text) v takes in
      let (is, valid) = and_both (is_terminal t.Identifier u || is_terminal t.SelfType u) (is_utf8 u.text) test in
      let text : u.text ≡ v.1 = ap (λ (x : Place × List ℕ). x.1) value in
      let head : IsHead gap v.1 = subst (IsHead gap) text (piece_head gap u blank gen is) in (
        head.token,
        begun v.1,
        λ a near m f.
            let like = like_of firm m (head_word gap v.1) f in
            let again : ((is_terminal t.Identifier m || is_terminal t.SelfType m) && is_utf8 m.text) ≡ true = both_and _ (is_utf8 m.text) (head.head m like.terminal) (ap is_utf8 like.text ∙ ap is_utf8 (sym text) ∙ valid) in
            ((m.place, m.text), ap (λ b. when b (m.place, m.text)) again, sym like.text),
      )

  takes_plain_name : (p : Written → Bool) (gap : List ℕ) → is_gap gap ≡ true → ((text : List ℕ) → p (named gap text) ≡ true) →
      Takes firm g p (λ (n : List ℕ). named gap n) Near (λ a b. a ≡ b) plain_name (λ a. plain_name)
  unfolding plain_name
  takes_plain_name p gap blank begun u n gen passes takes =
      let (test, text) = when_some (is_identifier u) u.text n takes in
      let (is, valid) = and_both (is_terminal t.Identifier u) (is_utf8 u.text) test in
      let name : IsName n = subst IsName text (gen.name (is_same t.Identifier u is)) in (
        name_is_token gap n blank name,
        begun n,
        λ a near m f.
            let like = like_of firm m (named gap n) f in
            let ident : is_identifier m ≡ true = both_and (is_terminal t.Identifier m) (is_utf8 m.text) (number_is t.Identifier m (ap number_of like.terminal)) (ap is_utf8 like.text ∙ ap is_utf8 (sym text) ∙ valid) in
            (m.text, ap (λ b. when b m.text) ident, sym like.text),
      )

  takes_infix_mark : (p : Written → Bool) (k : Terminal) (gap : List ℕ) → has_spelling k ≡ true → is_gap gap ≡ true → p (spelled gap k role.Infix) ≡ true →
      Takes firm g p (λ (c : Place). spelled gap k role.Infix) Near Anyhow (infix_mark k) (λ a. infix_mark k)
  unfolding infix_mark
  takes_infix_mark p k gap has blank begun u c gen passes takes = (
    spelled_is_token k has gap blank role.Infix,
    begun,
    λ a near m f.
        let like = like_of firm m (spelled gap k role.Infix) f in
        let is : is_terminal k m ≡ true = number_is k m (ap number_of (like.terminal ∙ spelled_is k has)) in
        (m.place, ap (λ b. when b m.place) (both_and (is_terminal k m) (has_role role.Infix m) is (ap (λ r. role_number r == 0) like.role)), tt),
  )

-- ---- the same, with what the rule says left out

module _ {A : Type 0} {firm : Bool} {g : Piece → Bool} {p : Written → Bool} {Near : A → Type 0} where
  pub taken_type_head : (gap : List ℕ) → is_gap gap ≡ true → ((text : List ℕ) → p (head_word gap text) ≡ true) → Taken firm g p (λ (v : Place × List ℕ). head_word gap v.1) Near SameString type_head (λ a. type_head)
  taken_type_head gap blank begun = record { holds = takes_type_head firm g Near p gap blank begun }

  pub taken_plain_name : (gap : List ℕ) → is_gap gap ≡ true → ((text : List ℕ) → p (named gap text) ≡ true) → Taken firm g p (λ (n : List ℕ). named gap n) Near (λ a b. a ≡ b) plain_name (λ a. plain_name)
  taken_plain_name gap blank begun = record { holds = takes_plain_name firm g Near p gap blank begun }

  pub taken_infix_mark : (k : Terminal) (gap : List ℕ) → has_spelling k ≡ true → is_gap gap ≡ true → p (spelled gap k role.Infix) ≡ true → Taken firm g p (λ (c : Place). spelled gap k role.Infix) Near Anyhow (infix_mark k) (λ a. infix_mark k)
  taken_infix_mark k gap has blank begun = record { holds = takes_infix_mark firm g Near p k gap has blank begun }

  -- what is taken where it may stand
  pub taken_if : {C : Type 0} {w : C → Written} {SameLookahead : C → C → Type 0} {f : Piece → Option C} (b : Bool) → Taken firm g p w Near SameLookahead f (λ a. f) → Taken firm g p w Near SameLookahead (only_if b f) (λ a. only_if b f)
  taken_if true taken = record { holds = λ u c gen passes takes. taken.holds u c gen passes takes }
  taken_if false taken = record { holds = λ u c gen passes takes. absurd (cc) }
