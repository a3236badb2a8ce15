-- What the printer writes for a string is UTF-8 and one token.
use Rattle.std.proofs.Common.{◌≡◌, ℕ, zero, ◌+◌, ◌<◌, ◌≤◌, true, false, List, [], ◌∷◌, ◌++◌, length, Option, Some, refl, sym, ◌∙◌, ap, subst, arith, append_assoc, inl, inr}
use Rattle.std.specs.Prelude.{◌==◌, ◌&&◌, nat_lt, slice_index}
use Rattle.std.specs.List.{flat_map}
use Rattle.std.specs.Char.{encode_utf8}
use Rattle.std.specs.Str.{IsUtf8, chars, encode_utf8_all, all_scalars}
use Rattle.std.proofs.lemmas.Bool.{cases_lt, ltb-true, and_parts, and_from, and_left, not-true, cond_both, agree_below_at}
use Rattle.std.proofs.lemmas.List.{append-nil, length-append}
use Rattle.std.proofs.lemmas.Str.{encode_ascii, encodes-append, encodes-IsAscii, encodes-chars, scalars-chars, chars-encodes}
use Rattle.std.proofs.lemmas.List.Concat.{flat_map-append}
use lib.Utf8.{scalar}
use Rattle.unicode_ident.proofs.IdentLemmas.{is_xid_start-ascii}
use Rattle.evo_base.specs.declared.token.TokenKind.TheVariants as kind
use Rattle.evo_lex.specs.declared.front.Front.TheVariants as front
use Rattle.evo_lex.specs.Front.{first_of, front_of, string_of, string_from}
use Rattle.evo_tree.specs.declared.terminal.Role.TheVariants as role
use Rattle.evo_tree.specs.Canonical.{escape, string_text}
use Rattle.evo_round_trip.proofs.Written.{Written, IsToken, is_gap}
use Rattle.evo_round_trip.proofs.TokensOfWords.{token_front, no_white, is_low, low_ascii}
use Rattle.evo_round_trip.proofs.TokensOfEscapes.{by_escape, written_passes}

-- ---- the front

-- the first character of what is written for one is no quote
abbrev Opens : List ℕ → Type 0
Opens w = (text : List ℕ) → (slice_index (w ++ text) 0 == 34) ≡ false

written_opens : (c : ℕ) → Opens (escape c)
written_opens c = by_escape Opens c (λ e text. refl) (λ e text. refl) (λ e text. refl) (λ e text. refl) (λ e text. refl) (λ e text. refl) (λ low text. refl) (λ feed quote slash text. quote)

-- a string's characters, its quote, and what is behind it
all_pass : (n : ℕ) (cs rest : List ℕ) → string_from n zero (flat_map escape cs ++ 34 ∷ rest) ≡ Some (n + length (flat_map escape cs) + 1)
all_pass n [] rest = ap Some (omega arith)
all_pass n (c ∷ cs) rest =
    ap (λ (l : List ℕ). string_from n zero l) (append_assoc (escape c) (flat_map escape cs) (34 ∷ rest))
    ∙ written_passes c n (flat_map escape cs ++ 34 ∷ rest)
    ∙ all_pass (n + length (escape c)) cs rest
    ∙ ap Some (let l = length-append (escape c) (flat_map escape cs) in omega arith)

-- three quotes do not begin it
no_three : (cs rest : List ℕ) → (slice_index rest 0 == 34) ≡ false → (slice_index (34 ∷ (flat_map escape cs ++ 34 ∷ rest)) 1 == 34 && slice_index (34 ∷ (flat_map escape cs ++ 34 ∷ rest)) 2 == 34) ≡ false
no_three [] rest stops = stops
no_three (c ∷ cs) rest stops =
    and_left _ _ (subst (λ (l : List ℕ). (slice_index l 0 == 34) ≡ false) (sym (append_assoc (escape c) (flat_map escape cs) (34 ∷ rest))) (written_opens c (flat_map escape cs ++ 34 ∷ rest)))

string_length : (text : List ℕ) (r : Option ℕ) → (slice_index (34 ∷ text) 1 == 34 && slice_index (34 ∷ text) 2 == 34) ≡ false → string_from 1 zero text ≡ r → string_of (34 ∷ text) ≡ r
unfolding string_of
string_length text r three is = rw three is

string_first : (text : List ℕ) (n : ℕ) → string_of (34 ∷ text) ≡ Some n → first_of (34 ∷ text) ≡ Some (kind.String, n)
unfolding first_of
string_first text n is = rw (is_xid_start-ascii 34 (omega arith), is) refl

-- the characters of the token
abbrev pub quoted : List ℕ → List ℕ
quoted cs = 34 ∷ (flat_map escape cs ++ 34 ∷ [])

quoted_front : (cs rest : List ℕ) → (slice_index rest 0 == 34) ≡ false → front_of (quoted cs ++ rest) ≡ Some (front.Token kind.String, length (quoted cs))
quoted_front cs rest stops =
    let n : 1 + length (flat_map escape cs) + 1 ≡ length (quoted cs) = (let l = length-append (flat_map escape cs) (34 ∷ []) in omega arith) in
    let some = string_length (flat_map escape cs ++ 34 ∷ rest) (Some (length (quoted cs))) (no_three cs rest stops) (all_pass 1 cs rest ∙ ap Some n) in
    let is = token_front 34 (flat_map escape cs ++ 34 ∷ rest) kind.String (length (quoted cs)) (no_white 34 (flat_map escape cs ++ 34 ∷ rest) refl refl)
    (string_first (flat_map escape cs ++ 34 ∷ rest) (length (quoted cs)) some) in
    subst (λ (l : List ℕ). front_of (34 ∷ l) ≡ Some (front.Token kind.String, length (quoted cs))) (sym (append_assoc (flat_map escape cs) (34 ∷ []) rest)) is

-- ---- bytes and characters

-- bytes of characters from 128 on
abbrev High : List ℕ → Type 0
High [] = Unit {0}
High (b ∷ bs) = (128 ≤ b) × High bs

encode_high : (c : ℕ) → 128 ≤ c → High (encode_utf8 c)
unfolding encode_utf8
encode_high c high =
    cond_both (nat_lt c 128) _ _ High (λ e. absurd (let lt = ltb-true c 128 e in omega arith)) (λ n1.
    cond_both (nat_lt c 2048) _ _ High (λ e. (omega arith, (omega arith, tt))) (λ n2.
    cond_both (nat_lt c 65536) _ _ High (λ e. (omega arith, (omega arith, (omega arith, tt)))) (λ n3. (omega arith, (omega arith, (omega arith, (omega arith, tt)))))))

-- these are written as they are
high_escape : (b : ℕ) → 128 ≤ b → escape b ≡ b ∷ []
high_escape b high = by_escape (λ (w : List ℕ). w ≡ b ∷ []) b (λ e. absurd (omega arith)) (λ e. absurd (omega arith)) (λ e. absurd (omega arith)) (λ e. absurd (omega arith))
    (λ e. absurd (omega arith)) (λ e. absurd (omega arith)) (λ low. absurd (omega arith)) (λ feed quote slash. refl)

high_same : (bs : List ℕ) → High bs → flat_map escape bs ≡ bs
high_same [] all = refl
high_same (b ∷ bs) all = ap (λ (l : List ℕ). l ++ flat_map escape bs) (high_escape b all.0) ∙ ap (λ (l : List ℕ). b ∷ l) (high_same bs all.1)

-- and those below 128 as characters below 128
low_escape : (c : ℕ) → c < 128 → is_low (escape c) ≡ true
low_escape c low = agree_below_at (λ (x : ℕ). is_low (escape x)) (λ (x : ℕ). true) 128 c refl low

-- what is written for the bytes of a character is what is written for the character
escape_bytes : (c : ℕ) → flat_map escape (encode_utf8 c) ≡ encode_utf8_all (escape c)
escape_bytes c = elim (cases_lt c 128) [
  | inl low ↦ ap (λ (l : List ℕ). flat_map escape l) (encode_ascii c low) ∙ append-nil (escape c) ∙ sym (encodes-IsAscii (escape c) (low_ascii (escape c) (low_escape c low)))
  | inr high ↦ high_same (encode_utf8 c) (encode_high c high) ∙ sym (append-nil (encode_utf8 c)) ∙ sym (ap encode_utf8_all (high_escape c high))
]

all_bytes : (ds : List ℕ) → flat_map escape (encode_utf8_all ds) ≡ encode_utf8_all (flat_map escape ds)
all_bytes [] = refl
all_bytes (d ∷ ds) =
    flat_map-append escape (encode_utf8 d) (encode_utf8_all ds)
    ∙ ap (λ (l : List ℕ). l ++ flat_map escape (encode_utf8_all ds)) (escape_bytes d)
    ∙ ap (λ (l : List ℕ). encode_utf8_all (escape d) ++ l) (all_bytes ds)
    ∙ sym (encodes-append (escape d) (flat_map escape ds))

scalars_both : (xs ys : List ℕ) → all_scalars xs ≡ true → all_scalars ys ≡ true → all_scalars (xs ++ ys) ≡ true
scalars_both [] ys all more = more
scalars_both (x ∷ xs) ys all more =
    let both = and_parts (scalar x) (all_scalars xs) all in
    rw both.0 (scalars_both xs ys both.1 more)

escape_scalars : (c : ℕ) → scalar c ≡ true → all_scalars (escape c) ≡ true
escape_scalars c is = elim (cases_lt c 128) [
  | inl low ↦ agree_below_at (λ (x : ℕ). all_scalars (escape x)) (λ (x : ℕ). true) 128 c refl low
  | inr high ↦ subst (λ (l : List ℕ). all_scalars l ≡ true) (sym (high_escape c high)) (and_from (scalar c) true is refl)
]

flat_scalars : (ds : List ℕ) → all_scalars ds ≡ true → all_scalars (flat_map escape ds) ≡ true
flat_scalars [] all = refl
flat_scalars (d ∷ ds) all =
    let both = and_parts (scalar d) (all_scalars ds) all in
    scalars_both (escape d) (flat_map escape ds) (escape_scalars d both.0) (flat_scalars ds both.1)

quoted_bytes : (ds : List ℕ) → encode_utf8_all (quoted ds) ≡ string_text (encode_utf8_all ds)
unfolding encode_utf8
quoted_bytes ds = ap (λ (l : List ℕ). 34 ∷ l) (encodes-append (flat_map escape ds) (34 ∷ []) ∙ ap (λ (l : List ℕ). l ++ 34 ∷ []) (sym (all_bytes ds)))

module _ (cs : List ℕ) (utf8 : IsUtf8 cs) where
  scalars : all_scalars (quoted (chars cs)) ≡ true
  scalars = scalars_both (flat_map escape (chars cs)) (34 ∷ []) (flat_scalars (chars cs) (scalars-chars cs utf8)) refl

  bytes : encode_utf8_all (quoted (chars cs)) ≡ string_text cs
  bytes = quoted_bytes (chars cs) ∙ ap string_text (encodes-chars cs utf8)

  -- what is written for a string is UTF-8
  pub string_utf8 : IsUtf8 (string_text cs)
  string_utf8 = (quoted (chars cs), (scalars, bytes))

  -- and has the characters that are written for its own
  pub string_chars : chars (string_text cs) ≡ quoted (chars cs)
  string_chars = ap chars (sym bytes) ∙ chars-encodes (quoted (chars cs)) scalars

abbrev pub string_token : List ℕ → List ℕ → Written
string_token gap cs = record { gap = gap; kind = kind.String; text = string_text cs; role = role.Unattached }

-- a string is one token
pub string_is_token : (gap cs : List ℕ) → is_gap gap ≡ true → IsUtf8 cs → IsToken (string_token gap cs)
string_is_token gap cs h utf8 = record {
  utf8 = string_utf8 cs utf8;
  gap = h;
  front = λ rest e. subst (λ (l : List ℕ). front_of (l ++ rest) ≡ Some (front.Token kind.String, length l)) (sym (string_chars cs utf8))
      (quoted_front (chars cs) rest (not-true (slice_index rest 0 == 34) e));
}
