-- Operators are tokens, and so are ( ) { } , ; : . and @.
use Rattle.std.proofs.Common.{◌≡◌, ℕ, Bool, true, false, not, List, [], ◌∷◌, ◌++◌, take, length, slice_index, Some, None, refl, sym, ap, subst, arith}
use Rattle.std.specs.Prelude.{◌==◌, ◌&&◌, ◌||◌, nat_lt}
use Rattle.std.specs.Char.{is_ascii_alphabetic, is_ascii_digit}
use Rattle.std.proofs.lemmas.Bool.{ltb-true, and_parts, or_parts, not-true}
use Rattle.std.proofs.lemmas.List.{take_at}
use Rattle.std.proofs.lemmas.Str.{IsUtf8-from_ascii, chars-IsAscii}
use Rattle.unicode_ident.proofs.IdentLemmas.{is_xid_start-ascii}
use Rattle.evo_base.specs.declared.token.TokenKind.{TokenKind}
use Rattle.evo_base.specs.declared.token.TokenKind.TheVariants as kind
use Rattle.evo_lex.specs.declared.front.Front.TheVariants as front
use Rattle.evo_lex.specs.Characters.{is_white, begins_identifier, is_operator}
use Rattle.evo_lex.specs.Front.{white_of, first_of, front_of, operator_of, operator_run, is_operator_word, begins_comment, starts, mark_of}
use Rattle.evo_tree.specs.declared.terminal.Role.{Role}
use Rattle.evo_round_trip.proofs.Written.{IsToken, is_gap}
use Rattle.evo_round_trip.proofs.TokensOfWords.{unlike, token_front, no_white, is_low, low_ascii}

-- an ASCII character that begins neither white space, an identifier, an integer nor a string
abbrev pub is_sign : ℕ → Bool
is_sign c = nat_lt c 128 && (not (c == 95 || is_ascii_alphabetic c) && (not (is_white c) && (not (is_ascii_digit c) && not (c == 34))))

record IsSign (c : ℕ) : Type 0 where
  begins : begins_identifier c ≡ false
  white : is_white c ≡ false
  digit : is_ascii_digit c ≡ false
  quote : (c == 34) ≡ false

sign_is : (c : ℕ) → is_sign c ≡ true → IsSign c
sign_is c is =
    let a = and_parts (nat_lt c 128) _ is in
    let b = and_parts (not (c == 95 || is_ascii_alphabetic c)) _ a.1 in
    let d = and_parts (not (is_white c)) _ b.1 in
    let e = and_parts (not (is_ascii_digit c)) _ d.1 in
    record {
      begins = rw (is_xid_start-ascii c (ltb-true c 128 a.0)) (not-true (c == 95 || is_ascii_alphabetic c) b.0);
      white = not-true (is_white c) d.0;
      digit = not-true (is_ascii_digit c) e.0;
      quote = not-true (c == 34) e.1;
    }

-- ---- operators

-- operator characters, and no comment begins within them
abbrev pub is_run : List ℕ → Bool
is_run [] = true
is_run (c ∷ []) = is_operator c
is_run (c ∷ d ∷ cs) = is_operator c && (not (begins_comment (c ∷ d ∷ [])) && is_run (d ∷ cs))

no_run : (rest : List ℕ) → is_operator (slice_index rest 0) ≡ false → operator_run rest ≡ 0
no_run [] stops = refl
no_run (x ∷ rest) stops = rw stops refl

-- the last operator character begins no comment, where no operator character is behind it
no_comment : (c : ℕ) (rest : List ℕ) → is_operator (slice_index rest 0) ≡ false → begins_comment (c ∷ rest) ≡ false
no_comment c rest stops = at (c == 47) (slice_index rest 0 == 47) (slice_index rest 0 == 42) (apart 47 refl) (apart 42 refl)
  where
    apart : (b : ℕ) → is_operator b ≡ true → (slice_index rest 0 == b) ≡ false
    apart b is = unlike (λ x. not (is_operator x)) (slice_index rest 0) b (ap not stops) (ap not is)

    at : (x y z : Bool) → y ≡ false → z ≡ false → ((x && y) || (x && z)) ≡ false
    at true y z no-y no-z = rw (no-y, no-z) refl
    at false y z no-y no-z = refl

-- the run of operator characters is the operator
pub run_is : (cs rest : List ℕ) → is_run cs ≡ true → is_operator (slice_index rest 0) ≡ false → operator_run (cs ++ rest) ≡ length cs
run_is [] rest is stops = no_run rest stops
run_is (c ∷ []) rest is stops = rw (is, no_comment c rest stops, no_run rest stops) refl
run_is (c ∷ d ∷ cs) rest is stops =
    let a = and_parts (is_operator c) _ is in
    let b = and_parts (not (begins_comment (c ∷ d ∷ []))) (is_run (d ∷ cs)) a.1 in
    rw (a.0, not-true (begins_comment (c ∷ d ∷ [])) b.0) (let more = run_is (d ∷ cs) rest b.1 stops in omega arith)

abbrev pub first_sign : List ℕ → Bool
first_sign [] = false
first_sign (c ∷ cs) = is_sign c && is_operator c

-- no white space begins an operator
operator_white : (c : ℕ) (text : List ℕ) → is_white c ≡ false → begins_comment (c ∷ text) ≡ false → white_of (c ∷ text) ≡ None
unfolding white_of
operator_white c text white comment =
    let both = or_parts (starts 47 47 (c ∷ text)) (starts 47 42 (c ∷ text)) comment in
    rw (white, both.0, both.1) refl

run_begins : (c : ℕ) (cs rest : List ℕ) → is_run (c ∷ cs) ≡ true → is_operator (slice_index rest 0) ≡ false → begins_comment (c ∷ cs ++ rest) ≡ false
run_begins c [] rest is stops = no_comment c rest stops
run_begins c (d ∷ cs) rest is stops =
    let a = and_parts (is_operator c) _ is in
    let b = and_parts (not (begins_comment (c ∷ d ∷ []))) (is_run (d ∷ cs)) a.1 in
    not-true (begins_comment (c ∷ d ∷ [])) b.0

operator_length : (word text : List ℕ) (n : ℕ) → operator_run text ≡ n → take n text ≡ word → is_operator_word word ≡ true → operator_of text ≡ Some n
unfolding operator_of
operator_length word text n run taken known = rw (run, taken, known) refl

operator_first : (c : ℕ) (text : List ℕ) (n : ℕ) → IsSign c → is_operator c ≡ true → operator_of (c ∷ text) ≡ Some n → first_of (c ∷ text) ≡ Some (kind.Operator, n)
unfolding first_of
operator_first c text n sign operator is = rw (sign.begins, sign.digit, sign.quote, operator, is) refl

operator_front : (cs rest : List ℕ) → first_sign cs ≡ true → is_run cs ≡ true → is_operator_word cs ≡ true → is_operator (slice_index rest 0) ≡ false →
    front_of (cs ++ rest) ≡ Some (front.Token kind.Operator, length cs)
operator_front [] rest first run known stops = absurd (cc)
operator_front (c ∷ cs) rest first run known stops =
    let both = and_parts (is_sign c) (is_operator c) first in
    let sign = sign_is c both.0 in
    token_front c (cs ++ rest) kind.Operator (length (c ∷ cs))
    (operator_white c (cs ++ rest) sign.white (run_begins c cs rest run stops))
    (operator_first c (cs ++ rest) (length (c ∷ cs)) sign both.1
    (operator_length (c ∷ cs) (c ∷ cs ++ rest) (length (c ∷ cs)) (run_is (c ∷ cs) rest run stops) (take_at (c ∷ cs) rest (length (c ∷ cs)) refl) known))

-- all that a text must be to be an operator, but that it is one of them
abbrev pub is_plain_operator : List ℕ → Bool
is_plain_operator word = is_low word && (first_sign word && is_run word)

module _ (word : List ℕ) (plain : is_plain_operator word ≡ true) (known : is_operator_word word ≡ true) where
  -- an operator is one token
  pub operator_word : (gap : List ℕ) → is_gap gap ≡ true → (r : Role) → IsToken (record { gap = gap; kind = kind.Operator; text = word; role = r })
  operator_word gap h r =
      let a = and_parts (is_low word) (first_sign word && is_run word) plain in
      let b = and_parts (first_sign word) (is_run word) a.1 in
      let ascii = low_ascii word a.0 in
      record {
        utf8 = IsUtf8-from_ascii word ascii;
        gap = h;
        front = λ rest e. subst (λ (cs : List ℕ). front_of (cs ++ rest) ≡ Some (front.Token kind.Operator, length cs)) (sym (chars-IsAscii word ascii))
            (operator_front word rest b.0 b.1 known (not-true (is_operator (slice_index rest 0)) e));
      }

-- ---- marks

abbrev pub is_mark : ℕ → Bool
is_mark c = is_sign c && (not (c == 47) && not (is_operator c))

mark_first : (c : ℕ) (k : TokenKind) (rest : List ℕ) → IsSign c → is_operator c ≡ false → mark_of c ≡ Some k → first_of (c ∷ rest) ≡ Some (k, 1)
unfolding first_of
mark_first c k rest sign operator is = rw (sign.begins, sign.digit, sign.quote, operator, is) refl

module _ (c : ℕ) (k : TokenKind) (plain : is_mark c ≡ true) (is : mark_of c ≡ Some k) where
  -- a mark is one token
  pub mark_word : (gap : List ℕ) → is_gap gap ≡ true → (r : Role) → IsToken (record { gap = gap; kind = k; text = c ∷ []; role = r })
  mark_word gap h r =
      let a = and_parts (is_sign c) (not (c == 47) && not (is_operator c)) plain in
      let b = and_parts (not (c == 47)) (not (is_operator c)) a.1 in
      let low = and_parts (nat_lt c 128) _ a.0 in
      let sign = sign_is c a.0 in
      let ascii = low_ascii (c ∷ []) (rw low.0 refl) in
      record {
        utf8 = IsUtf8-from_ascii (c ∷ []) ascii;
        gap = h;
        front = λ rest e. subst (λ (cs : List ℕ). front_of (cs ++ rest) ≡ Some (front.Token k, length cs)) (sym (chars-IsAscii (c ∷ []) ascii))
            (token_front c rest k 1 (no_white c rest sign.white (not-true (c == 47) b.0)) (mark_first c k rest sign (not-true (is_operator c) b.1) is));
      }
