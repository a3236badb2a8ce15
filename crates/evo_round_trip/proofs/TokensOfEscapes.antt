-- What the printer writes for a character of a string, and that it is read as this character.
use Rattle.std.proofs.Common.{◌≡◌, ℕ, zero, ◌+◌, ◌-◌, ◌<◌, Bool, true, false, List, [], ◌∷◌, ◌++◌, take, length, codes, Some, refl, sym, ◌∙◌, ap, subst, arith, append_assoc, inl, inr}
use Rattle.std.specs.Prelude.{◌==◌, ◌&&◌, ◌||◌, nat_lt, nat_le, slice_index}
use Rattle.std.specs.List.{list_all, flat_map}
use Rattle.std.specs.Str.{IsUtf8}
use Rattle.std.proofs.lemmas.Bool.{ltb-true, eqb-true, and_parts, or_cases, cond_both, agree_below_at}
use Rattle.std.proofs.lemmas.List.{take_at, length-append}
use Rattle.std.proofs.lemmas.Str.{encode_ascii}
use Rattle.evo_lex.specs.declared.class.Base.TheVariants as base
use Rattle.evo_lex.specs.declared.class.Class.TheVariants as class
use Rattle.evo_lex.specs.Characters.{is_digit, run_of, value_of}
use Rattle.evo_lex.specs.Front.{escape_of, is_scalar_text, is_scalar, string_from}
use Rattle.evo_lex.specs.Strings.{escaped, escape_size, unescaped, string_value}
use Rattle.evo_tree.specs.Canonical.{hexadecimal, numbered, escape, string_text}
use Rattle.evo_round_trip.proofs.TokensOfWords.{run_over}

-- ---- by cases

control_low : (c : ℕ) → (nat_lt c 32 || c == 127) ≡ true → c < 128
control_low c is = elim (or_cases (nat_lt c 32) (c == 127) is) [
  | inl e ↦ (let lt = ltb-true c 32 e in omega arith)
  | inr e ↦ (let is = eqb-true c 127 e in omega arith)
]

-- what is said of the text of each character is said of what is written for this one
module _ (P : List ℕ → Type 0) (c : ℕ) where
  pub by_escape : (c ≡ 0 → P (codes "\\0")) → (c ≡ 9 → P (codes "\\t")) → (c ≡ 10 → P (codes "\\n")) → (c ≡ 13 → P (codes "\\r")) → (c ≡ 34 → P (codes "\\\"")) → (c ≡ 92 → P (codes "\\\\")) →
      (c < 128 → P (numbered c)) → ((c == 10) ≡ false → (c == 34) ≡ false → (c == 92) ≡ false → P (c ∷ [])) → P (escape c)
  by_escape nul tab feed return quote slash number plain =
      cond_both (c == 0) _ _ P (λ e. nul (eqb-true c 0 e)) (λ n0.
      cond_both (c == 9) _ _ P (λ e. tab (eqb-true c 9 e)) (λ n9.
      cond_both (c == 10) _ _ P (λ e. feed (eqb-true c 10 e)) (λ n10.
      cond_both (c == 13) _ _ P (λ e. return (eqb-true c 13 e)) (λ n13.
      cond_both (c == 34) _ _ P (λ e. quote (eqb-true c 34 e)) (λ n34.
      cond_both (c == 92) _ _ P (λ e. slash (eqb-true c 92 e)) (λ n92.
      cond_both (nat_lt c 32 || c == 127) _ _ P (λ e. number (control_low c e)) (λ more. plain n10 n34 n92)))))))

-- ---- characters by their numbers

-- the hexadecimal text of a byte: all that a reader asks of it
abbrev is_fine : ℕ → List ℕ → Bool
is_fine c h = list_all (is_digit base.Hexadecimal) h && (nat_lt 0 (length h) && (nat_le (length h) 8 && value_of base.Hexadecimal h == c))

fine : (c : ℕ) → c < 128 → is_fine c (hexadecimal c) ≡ true
fine c low = agree_below_at (λ (x : ℕ). is_fine x (hexadecimal x)) (λ (x : ℕ). true) 128 c refl low

record IsFine (c : ℕ) (h : List ℕ) : Type 0 where
  low : c < 128
  digits : list_all (is_digit base.Hexadecimal) h ≡ true
  some : nat_lt 0 (length h) ≡ true
  few : nat_le (length h) 8 ≡ true
  value : value_of base.Hexadecimal h ≡ c

fine_is : (c : ℕ) (h : List ℕ) → c < 128 → is_fine c h ≡ true → IsFine c h
fine_is c h low is =
    let a = and_parts (list_all (is_digit base.Hexadecimal) h) _ is in
    let b = and_parts (nat_lt 0 (length h)) _ a.1 in
    let d = and_parts (nat_le (length h) 8) _ b.1 in
    record { low = low; digits = a.0; some = b.0; few = d.0; value = eqb-true (value_of base.Hexadecimal h) c d.1 }

at_end : (h text : List ℕ) → slice_index (h ++ 125 ∷ text) (length h) ≡ 125
at_end [] text = refl
at_end (x ∷ h) text = at_end h text

low_scalar : (c : ℕ) → c < 128 → is_scalar c ≡ true
low_scalar c low = agree_below_at is_scalar (λ (x : ℕ). true) 128 c refl low

module _ (c : ℕ) (h text : List ℕ) (is : IsFine c h) where
  run : run_of (class.Digits base.Hexadecimal) (h ++ 125 ∷ text) ≡ length h
  run = run_over (is_digit base.Hexadecimal) h (125 ∷ text) is.digits refl

  taken : take (length h) (h ++ 125 ∷ text) ≡ h
  taken = take_at h (125 ∷ text) (length h) refl

  scalar_text : is_scalar_text (length h) (h ++ 125 ∷ text) ≡ true
  scalar_text = rw (is.some, is.few, at_end h text, taken, is.value, low_scalar c is.low) refl

  -- the length of such an escape behind its backslash
  numbered_length : escape_of (117 ∷ 123 ∷ (h ++ 125 ∷ text)) ≡ Some (length h + 3)
  unfolding escape_of
  numbered_length = rw (run, scalar_text) refl

  -- and its character
  numbered_value : escaped (117 ∷ 123 ∷ (h ++ 125 ∷ text)) ≡ c ∷ []
  unfolding escaped
  numbered_value = rw (run, taken, is.value, low_scalar c is.low) (encode_ascii c is.low)

  numbered_size : escape_size (117 ∷ 123 ∷ (h ++ 125 ∷ text)) ≡ length h + 3
  unfolding escape_size
  numbered_size = ap (λ (k : ℕ). k + 3) run

-- `u{`, the digits and `}`
abbrev by_number : List ℕ → List ℕ
by_number h = 117 ∷ 123 ∷ (h ++ 125 ∷ [])

number_then : (h text : List ℕ) → by_number h ++ text ≡ 117 ∷ 123 ∷ (h ++ 125 ∷ text)
number_then h text = ap (λ (l : List ℕ). 117 ∷ 123 ∷ l) (append_assoc h (125 ∷ []) text)

number_length : (h : List ℕ) → length h + 3 ≡ length (by_number h)
number_length h = let l = length-append h (125 ∷ []) in omega arith

-- ---- as the lexer reads it

string_skips : (n : ℕ) (w text : List ℕ) → string_from n (length w) (w ++ text) ≡ string_from (n + length w) zero text
string_skips n [] text = ap (λ (k : ℕ). string_from k zero text) (omega arith)
string_skips n (x ∷ w) text = string_skips (n + 1) w text ∙ ap (λ (k : ℕ). string_from k zero text) (omega arith)

-- the lexer goes over these characters of a string
abbrev pub Passes : List ℕ → Type 0
Passes w = (n : ℕ) (text : List ℕ) → string_from n zero (w ++ text) ≡ string_from (n + length w) zero text

escape_passes : (w : List ℕ) → ((text : List ℕ) → escape_of (w ++ text) ≡ Some (length w)) → Passes (92 ∷ w)
escape_passes w is n text = rw (is text) (string_skips (n + 1) w text ∙ ap (λ (k : ℕ). string_from k zero text) (omega arith))

one_passes : (e : ℕ) → ((text : List ℕ) → escape_of (e ∷ text) ≡ Some 1) → Passes (92 ∷ e ∷ [])
one_passes e is = escape_passes (e ∷ []) is

number_passes : (c : ℕ) (h : List ℕ) → IsFine c h → Passes (92 ∷ by_number h)
number_passes c h is = escape_passes (by_number h) (λ (text : List ℕ).
    subst (λ (l : List ℕ). escape_of l ≡ Some (length (by_number h))) (sym (number_then h text)) (numbered_length c h text is ∙ ap Some (number_length h)))

plain_passes : (c : ℕ) → (c == 10) ≡ false → (c == 34) ≡ false → (c == 92) ≡ false → Passes (c ∷ [])
plain_passes c feed quote slash n text = rw (quote, feed, slash) refl

-- the lexer goes over what is written for a character
pub written_passes : (c : ℕ) → Passes (escape c)
unfolding escape_of
written_passes c = by_escape Passes c (λ e. one_passes 48 (λ text. refl)) (λ e. one_passes 116 (λ text. refl)) (λ e. one_passes 110 (λ text. refl)) (λ e. one_passes 114 (λ text. refl))
    (λ e. one_passes 34 (λ text. refl)) (λ e. one_passes 92 (λ text. refl)) (λ low. number_passes c (hexadecimal c) (fine_is c (hexadecimal c) low (fine c low))) (plain_passes c)

-- ---- as its characters are read

unescape_skips : (w text : List ℕ) → unescaped (length w) (w ++ text) ≡ unescaped zero text
unescape_skips [] text = refl
unescape_skips (x ∷ w) text = unescape_skips w text

-- these characters of a string stand for c
abbrev Means : ℕ → List ℕ → Type 0
Means c w = (text : List ℕ) → unescaped zero (w ++ text) ≡ c ∷ unescaped zero text

one_means : (c d e : ℕ) → c ≡ d → ((text : List ℕ) → unescaped zero (92 ∷ e ∷ text) ≡ d ∷ unescaped zero text) → Means c (92 ∷ e ∷ [])
one_means c d e same is text = is text ∙ ap (λ (x : ℕ). x ∷ unescaped zero text) (sym same)

number_means : (c : ℕ) (h : List ℕ) → IsFine c h → Means c (92 ∷ by_number h)
number_means c h is text =
    let value : escaped (by_number h ++ text) ≡ c ∷ [] = subst (λ (l : List ℕ). escaped l ≡ c ∷ []) (sym (number_then h text)) (numbered_value c h text is) in
    let size : escape_size (by_number h ++ text) ≡ length (by_number h) = subst (λ (l : List ℕ). escape_size l ≡ length (by_number h)) (sym (number_then h text)) (numbered_size c h text is ∙ number_length h) in
    ap (λ (l : List ℕ). l ++ unescaped (escape_size (by_number h ++ text)) (by_number h ++ text)) value
    ∙ ap (λ (k : ℕ). c ∷ unescaped k (by_number h ++ text)) size ∙ ap (λ (l : List ℕ). c ∷ l) (unescape_skips (by_number h) text)

plain_means : (c : ℕ) → (c == 10) ≡ false → (c == 34) ≡ false → (c == 92) ≡ false → Means c (c ∷ [])
plain_means c feed quote slash text = rw slash refl

-- what is written for a character stands for it
written_means : (c : ℕ) → Means c (escape c)
unfolding escaped escape_size
written_means c = by_escape (Means c) c (λ e. one_means c 0 48 e (λ text. refl)) (λ e. one_means c 9 116 e (λ text. refl)) (λ e. one_means c 10 110 e (λ text. refl)) (λ e. one_means c 13 114 e (λ text. refl))
    (λ e. one_means c 34 34 e (λ text. refl)) (λ e. one_means c 92 92 e (λ text. refl)) (λ low. number_means c (hexadecimal c) (fine_is c (hexadecimal c) low (fine c low))) (plain_means c)

all_mean : (cs : List ℕ) → unescaped zero (flat_map escape cs) ≡ cs
all_mean [] = refl
all_mean (c ∷ cs) = written_means c (flat_map escape cs) ∙ ap (λ (l : List ℕ). c ∷ l) (all_mean cs)

inner : (xs : List ℕ) → take (length (34 ∷ (xs ++ 34 ∷ [])) - 2) (xs ++ 34 ∷ []) ≡ xs
inner xs =
    let n : length (34 ∷ (xs ++ 34 ∷ [])) - 2 ≡ length xs = (let l = length-append xs (34 ∷ []) in omega arith) in
    ap (λ (k : ℕ). take k (xs ++ 34 ∷ [])) n ∙ take_at xs (34 ∷ []) (length xs) refl

-- what is written for a string is read as its characters
pub string_value_is : (cs : List ℕ) → IsUtf8 cs → string_value (string_text cs) ≡ cs
unfolding string_value
string_value_is cs utf8 = ap (λ (l : List ℕ). unescaped zero l) (inner (flat_map escape cs)) ∙ all_mean cs
