-- The characters of written tokens, and what stands behind each of them.
use Rattle.std.proofs.Common.{◌≡◌, ℕ, zero, suc, ◌<◌, true, false, List, [], ◌∷◌, ◌++◌, refl, sym, ◌∙◌, ap, subst, inl, inr, append_assoc, arith}
use Rattle.std.specs.Prelude.{◌&&◌, ◌||◌, ◌==◌, slice_index, not}
use Rattle.std.specs.Str.{IsUtf8, IsAscii, chars, encode_utf8_all}
use Rattle.std.proofs.lemmas.Bool.{eqb-true, or_cases, and_parts, not-true}
use Rattle.std.proofs.lemmas.Str.{chars-append, chars-IsAscii, encodes-IsAscii, IsUtf8-from_ascii, IsUtf8-append}
use Rattle.unicode_ident.specs.Ident.{is_xid_continue}
use Rattle.unicode_ident.proofs.IdentLemmas.{is_xid_continue-ascii}
use Rattle.evo_base.specs.declared.token.TokenKind.{TokenKind}
use Rattle.evo_base.specs.declared.token.TokenKind.TheVariants as kind
use Rattle.evo_lex.specs.Characters.{is_operator}
use Rattle.evo_round_trip.proofs.Written.{Written, IsToken, Sound, joined, is_blank, is_gap, is_none, is_wordy, is_operator_kind, is_string_kind, parts_from, keeps_role, gives_role, leads, ends_before}
use Rattle.evo_round_trip.proofs.FirstCharacters.{First, token_at, no_word, no_operator, no_string}

-- ---- white space

-- a blank is one of two characters
pub blank_is : (P : ℕ → Type 0) (c : ℕ) → is_blank c ≡ true → P 32 → P 10 → P c
blank_is P c e space feed = elim (or_cases (c == 32) (c == 10) e) [
  | inl s ↦ subst P (sym (eqb-true c 32 s)) space
  | inr f ↦ subst P (sym (eqb-true c 10 f)) feed
]

gap_ascii : (gap : List ℕ) → is_gap gap ≡ true → IsAscii gap
gap_ascii [] e i = omega arith
gap_ascii (c ∷ gap) e zero = let both = and_parts (is_blank c) (is_gap gap) e in blank_is (λ (d : ℕ). d < 128) c both.0 (omega arith) (omega arith)
gap_ascii (c ∷ gap) e (suc i) = let both = and_parts (is_blank c) (is_gap gap) e in gap_ascii gap both.1 i

pub gap_utf8 : (gap : List ℕ) → is_gap gap ≡ true → IsUtf8 gap
gap_utf8 gap e = IsUtf8-from_ascii gap (gap_ascii gap e)

pub gap_chars : (gap : List ℕ) → is_gap gap ≡ true → chars gap ≡ gap
gap_chars gap e = chars-IsAscii gap (gap_ascii gap e)

pub gap_bytes : (gap : List ℕ) → is_gap gap ≡ true → encode_utf8_all gap ≡ gap
gap_bytes gap e = encodes-IsAscii gap (gap_ascii gap e)

-- ---- the characters of written tokens

whole : (w : Written) (ws : List Written) (tail : List ℕ) → joined (w ∷ ws) ++ tail ≡ w.gap ++ (w.text ++ (joined ws ++ tail))
whole w ws tail = append_assoc w.gap (w.text ++ joined ws) tail ∙ ap (λ (l : List ℕ). w.gap ++ l) (append_assoc w.text (joined ws) tail)

pub all_chars : (w : Written) (ws : List Written) (tail : List ℕ) → IsToken w → chars (joined (w ∷ ws) ++ tail) ≡ w.gap ++ (chars w.text ++ chars (joined ws ++ tail))
all_chars w ws tail is =
    ap chars (whole w ws tail)
    ∙ chars-append w.gap (w.text ++ (joined ws ++ tail)) (gap_utf8 w.gap is.gap)
    ∙ ap (λ (l : List ℕ). l ++ chars (w.text ++ (joined ws ++ tail))) (gap_chars w.gap is.gap)
    ∙ ap (λ (l : List ℕ). w.gap ++ l) (chars-append w.text (joined ws ++ tail) is.utf8)

-- the text of written tokens is UTF-8
pub utf8_joined : (ws : List Written) → Sound ws → (tail : List ℕ) → is_gap tail ≡ true → IsUtf8 (joined ws ++ tail)
utf8_joined [] sound tail e = gap_utf8 tail e
utf8_joined (w ∷ ws) sound tail e =
    subst IsUtf8 (sym (whole w ws tail)) (IsUtf8-append w.gap _ (gap_utf8 w.gap sound.0.gap) (IsUtf8-append w.text _ sound.0.utf8 (utf8_joined ws sound.2 tail e)))

-- ---- what stands behind a token

ends_from : (k : TokenKind) (rest : List ℕ) → is_xid_continue (slice_index rest 0) ≡ false → is_operator (slice_index rest 0) ≡ false → (slice_index rest 0 == 34) ≡ false → ends_before k rest ≡ true
ends_from kind.Identifier rest x o q = ap not x
ends_from kind.Underscore rest x o q = ap not x
ends_from kind.Keyword rest x o q = ap not x
ends_from kind.Integer rest x o q = ap not x
ends_from kind.Operator rest x o q = ap not o
ends_from kind.String rest x o q = ap not q
ends_from k rest x o q = refl

-- any token ends before the text's end
pub nil_ends : (k : TokenKind) → ends_before k [] ≡ true
nil_ends k = ends_from k [] (is_xid_continue-ascii 0 (omega arith)) refl refl

-- any token ends before a blank
blank_ends : (k : TokenKind) (c : ℕ) (rest : List ℕ) → is_blank c ≡ true → ends_before k (c ∷ rest) ≡ true
blank_ends k c rest e = ends_from k (c ∷ rest)
    (blank_is (λ (d : ℕ). is_xid_continue d ≡ false) c e (is_xid_continue-ascii 32 (omega arith)) (is_xid_continue-ascii 10 (omega arith)))
    (blank_is (λ (d : ℕ). is_operator d ≡ false) c e refl refl)
    (blank_is (λ (d : ℕ). (d == 34) ≡ false) c e refl refl)

gap_ends : (k : TokenKind) (gap : List ℕ) → is_gap gap ≡ true → ends_before k gap ≡ true
gap_ends k [] e = nil_ends k
gap_ends k (c ∷ gap) e = blank_ends k c gap (and_parts (is_blank c) (is_gap gap) e).0

-- a token ends before another that parts from it
parts_ends : (k j : TokenKind) (text : List ℕ) (n : ℕ) → parts_from k j ≡ true → First text j n → ends_before k text ≡ true
parts_ends kind.Identifier j text n p f = ap not (no_word text j n (not-true (is_wordy j) p) f)
parts_ends kind.Underscore j text n p f = ap not (no_word text j n (not-true (is_wordy j) p) f)
parts_ends kind.Keyword j text n p f = ap not (no_word text j n (not-true (is_wordy j) p) f)
parts_ends kind.Integer j text n p f = ap not (no_word text j n (not-true (is_wordy j) p) f)
parts_ends kind.Operator j text n p f = ap not (no_operator text j n (not-true (is_operator_kind j) p) f)
parts_ends kind.String j text n p f = ap not (no_string text j n (not-true (is_string_kind j) p) f)
parts_ends k j text n p f = refl

-- behind a token stands white space and then a token, which may part from it
behind_ends : (k j : TokenKind) (gap text : List ℕ) (n : ℕ) → is_gap gap ≡ true → (not (is_none gap) || parts_from k j) ≡ true → First text j n → ends_before k (gap ++ text) ≡ true
behind_ends k j [] text n g p f = parts_ends k j text n p f
behind_ends k j (c ∷ gap) text n g p f = blank_ends k c (gap ++ text) (and_parts (is_blank c) (is_gap gap) g).0

-- written tokens end before what is written behind them
pub ends : (w : Written) (ws : List Written) (tail : List ℕ) → leads w ws ≡ true → Sound ws → is_gap tail ≡ true → ends_before w.kind (chars (joined ws ++ tail)) ≡ true
ends w [] tail l sound e = subst (λ (cs : List ℕ). ends_before w.kind cs ≡ true) (sym (gap_chars tail e)) (gap_ends w.kind tail e)
ends w (v ∷ ws) tail l sound e =
    let rest = chars (joined ws ++ tail) in
    let at = token_at (chars v.text ++ rest) v.kind _ (sound.0.front rest (ends v ws tail sound.1 sound.2 e)) in
    let parts = (and_parts (not (is_none v.gap) || parts_from w.kind v.kind) (keeps_role w.role w.text v && gives_role w.kind v v.role) l).0 in
    subst (λ (cs : List ℕ). ends_before w.kind cs ≡ true) (sym (all_chars v ws tail sound.0)) (behind_ends w.kind v.kind v.gap (chars v.text ++ rest) _ sound.0.gap parts at.first)
