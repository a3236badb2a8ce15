-- Decimal integers are tokens, and are read as their values.
use Rattle.std.proofs.Common.{rules, ◌≡◌, ℕ, ◌+◌, ◌*◌, ◌/◌, ◌%◌, ◌^◌, ◌<◌, ◌≤◌, Bool, true, false, not, List, [], ◌∷◌, ◌++◌, drop, length, slice_index, Option, Some, refl, sym, ◌∙◌, ap, subst, arith, inl, inr}
use Rattle.std.specs.Prelude.{◌==◌, ◌&&◌, ◌||◌, nat_le}
use Rattle.std.specs.List.{list_all}
use Rattle.std.specs.Char.{is_ascii_alphabetic, is_ascii_alphanumeric, is_ascii_digit}
use Rattle.std.specs.Fmt.{decimal}
use Rattle.std.proofs.lemmas.Bool.{cases_lt, le-leb, and_parts, and_right, not-true, agree_below_at}
use Rattle.std.proofs.lemmas.Fmt.{decimal_by_steps, decimal_nonempty, IsAscii-decimal}
use Rattle.std.proofs.lemmas.List.{take_at, append-nil}
use Rattle.std.proofs.lemmas.Str.{IsUtf8-from_ascii, chars-IsAscii}
use Rattle.unicode_ident.specs.Ident.{is_xid_continue}
use Rattle.unicode_ident.proofs.IdentLemmas.{is_xid_start-ascii, is_xid_continue-ascii}
use Rattle.evo_base.specs.declared.token.TokenKind.TheVariants as kind
use Rattle.evo_lex.specs.declared.class.Base.TheVariants as base
use Rattle.evo_lex.specs.declared.class.Class.TheVariants as class
use Rattle.evo_lex.specs.declared.front.Front.TheVariants as front
use Rattle.evo_lex.specs.Characters.{is_white, begins_identifier, is_digit, is_of, with_digit, value_from, value_of}
use Rattle.evo_lex.specs.Front.{first_of, front_of, integer_of, integer_value, digits_of, base_of, prefix_of, run_behind, is_number, starts}
use Rattle.evo_tree.specs.declared.terminal.Role.TheVariants as role
use Rattle.evo_round_trip.proofs.Written.{Written, IsToken, is_gap}
use Rattle.evo_round_trip.proofs.TokensOfWords.{unlike, run_over, token_front, no_white}

-- ---- digits

all_both : (test : ℕ → Bool) (xs ys : List ℕ) → list_all test xs ≡ true → list_all test ys ≡ true → list_all test (xs ++ ys) ≡ true
all_both test [] ys all more = more
all_both test (x ∷ xs) ys all more =
    let both = and_parts (test x) (list_all test xs) all in
    rw both.0 (all_both test xs ys both.1 more)

digit_passes : (n : ℕ) → n < 10 → is_ascii_digit (48 + n) ≡ true
digit_passes n lt = search rules

-- a decimal text has digits alone
pub all_digits : (n : ℕ) → n < 2 ^ 64 → list_all is_ascii_digit (decimal n) ≡ true
all_digits n lt = decimal_by_steps (λ (k : ℕ) (ds : List ℕ). list_all is_ascii_digit ds ≡ true) (λ (k : ℕ) small. rw (digit_passes k small) refl)
    (λ (k : ℕ) (ds : List ℕ) large before. all_both is_ascii_digit ds ((48 + k % 10) ∷ []) before (rw (digit_passes (k % 10) (omega arith)) refl)) n lt

-- a digit is below 128, where tests are computed
digit_low : (c : ℕ) → is_ascii_digit c ≡ true → c < 128
digit_low c is = grind (arith, rules)

-- where one test holds, another does, by computing both on the characters below 128
abbrev implies : Bool → Bool → Bool
implies true b = b
implies false b = true

implied : (a b : Bool) → implies a b ≡ true → a ≡ true → b ≡ true
implied true b holds is = holds
implied false b holds is = absurd (cc)

contrary : (a b : Bool) → implies a b ≡ true → b ≡ false → a ≡ false
contrary true b holds is = absurd (cc)
contrary false b holds is = refl

-- a digit, or `_` among digits
abbrev is_spaced : ℕ → Bool
is_spaced c = is_of (class.Spaced base.Decimal) c

digit_spaced : (c : ℕ) → is_ascii_digit c ≡ true → is_spaced c ≡ true
digit_spaced c is = implied (is_ascii_digit c) (is_spaced c) (agree_below_at (λ (x : ℕ). implies (is_ascii_digit x) (is_spaced x)) (λ (x : ℕ). true) 128 c refl (digit_low c is)) is

digit_digit : (c : ℕ) → is_ascii_digit c ≡ true → is_digit base.Decimal c ≡ true
digit_digit c is = implied (is_ascii_digit c) (is_digit base.Decimal c) (agree_below_at (λ (x : ℕ). implies (is_ascii_digit x) (is_digit base.Decimal x)) (λ (x : ℕ). true) 128 c refl (digit_low c is)) is

digits_spaced : (ds : List ℕ) → list_all is_ascii_digit ds ≡ true → list_all is_spaced ds ≡ true
digits_spaced [] all = refl
digits_spaced (d ∷ ds) all =
    let both = and_parts (is_ascii_digit d) (list_all is_ascii_digit ds) all in
    rw (digit_spaced d both.0) (digits_spaced ds both.1)

high_spaced : (c : ℕ) → 128 ≤ c → is_spaced c ≡ false
high_spaced c high = grind (arith, rules)

-- no digit is where no identifier goes on
stops_spaced : (c : ℕ) → is_xid_continue c ≡ false → is_spaced c ≡ false
stops_spaced c stops = elim (cases_lt c 128) [
  | inl low ↦ contrary (is_spaced c) (is_ascii_alphanumeric c || c == 95)
      (agree_below_at (λ (x : ℕ). implies (is_spaced x) (is_ascii_alphanumeric x || x == 95)) (λ (x : ℕ). true) 128 c refl low) (sym (is_xid_continue-ascii c low) ∙ stops)
  | inr high ↦ high_spaced c high
]

-- ---- values

value_both : (v : ℕ) (xs ys : List ℕ) → value_from base.Decimal v (xs ++ ys) ≡ value_from base.Decimal (value_from base.Decimal v xs) ys
value_both v [] ys = refl
value_both v (x ∷ xs) ys = value_both (with_digit base.Decimal v x) xs ys

digit_adds : (v d : ℕ) → d < 10 → with_digit base.Decimal v (48 + d) ≡ v * 10 + d
digit_adds v d lt = grind (arith, rules)

-- the value of a decimal text is its number
pub value_is : (n : ℕ) → n < 2 ^ 64 → value_of base.Decimal (decimal n) ≡ n
value_is n lt = decimal_by_steps (λ (k : ℕ) (ds : List ℕ). value_of base.Decimal ds ≡ k) (λ (k : ℕ) small. (let d = digit_adds 0 k small in omega arith))
    (λ (k : ℕ) (ds : List ℕ) large before. value_both 0 ds ((48 + k % 10) ∷ []) ∙ ap (λ (v : ℕ). with_digit base.Decimal v (48 + k % 10)) before
    ∙ (let d = digit_adds (k / 10) (k % 10) (omega arith) in omega arith)) n lt

-- ---- the base

base_is : (text : List ℕ) → starts 48 120 text ≡ false → starts 48 111 text ≡ false → starts 48 98 text ≡ false → base_of text ≡ base.Decimal
base_is text x o b = rw (x, o, b) refl

-- the letter of a base is no digit, and an identifier goes on with it
no_letter : (b : ℕ) → is_ascii_digit b ≡ false → is_xid_continue b ≡ true → (c : ℕ) (ds rest : List ℕ) → list_all is_ascii_digit ds ≡ true → is_xid_continue (slice_index rest 0) ≡ false →
    starts 48 b (c ∷ ds ++ rest) ≡ false
no_letter b digit goes c [] rest all stops = and_right (c == 48) _ (unlike (λ (x : ℕ). not (is_xid_continue x)) (slice_index rest 0) b (ap not stops) (ap not goes))
no_letter b digit goes c (d ∷ ds) rest all stops = and_right (c == 48) _ (unlike is_ascii_digit d b (and_parts (is_ascii_digit d) (list_all is_ascii_digit ds) all).0 digit)

-- digits that nothing of an identifier follows are decimal
digits_base : (cs rest : List ℕ) → list_all is_ascii_digit cs ≡ true → is_xid_continue (slice_index rest 0) ≡ false → 0 < length cs → base_of (cs ++ rest) ≡ base.Decimal
digits_base [] rest all stops lt = absurd (omega arith)
digits_base (c ∷ ds) rest all stops lt =
    let both = and_parts (is_ascii_digit c) (list_all is_ascii_digit ds) all in
    base_is (c ∷ ds ++ rest)
    (no_letter 120 refl (is_xid_continue-ascii 120 (omega arith)) c ds rest both.1 stops)
    (no_letter 111 refl (is_xid_continue-ascii 111 (omega arith)) c ds rest both.1 stops)
    (no_letter 98 refl (is_xid_continue-ascii 98 (omega arith)) c ds rest both.1 stops)

-- what is written of a number is read as it
pub integer_value_is : (n : ℕ) → n < 2 ^ 64 → integer_value (decimal n) ≡ n
integer_value_is n lt =
    let is : base_of (decimal n) ≡ base.Decimal = subst (λ (cs : List ℕ). base_of cs ≡ base.Decimal) (append-nil (decimal n))
    (digits_base (decimal n) [] (all_digits n lt) (is_xid_continue-ascii 0 (omega arith)) (decimal_nonempty n lt)) in
    subst (λ b. value_of b (drop (prefix_of b) (decimal n)) ≡ n) (sym is) (value_is n lt)

-- ---- the token

behind : (xs rest : List ℕ) → slice_index (xs ++ rest) (length xs) ≡ slice_index rest 0
behind [] rest = refl
behind (x ∷ xs) rest = behind xs rest

counted : (text : List ℕ) (m : ℕ) → run_behind (class.Spaced base.Decimal) text ≡ m → is_number base.Decimal m text ≡ true → digits_of base.Decimal text ≡ Some (0 + m)
counted text m run is = rw (run, is) refl

integer_decimal : (text : List ℕ) (r : Option ℕ) → base_of text ≡ base.Decimal → digits_of base.Decimal text ≡ r → integer_of text ≡ r
unfolding integer_of
integer_decimal text r is some = subst (λ b. digits_of b (drop (prefix_of b) text) ≡ r) (sym is) some

three : (a b d : Bool) → a ≡ true → b ≡ true → d ≡ true → (a && b && d) ≡ true
three a b d is-a is-b is-d = rw (is-a, is-b, is-d) refl

number_is : (c : ℕ) (ds rest : List ℕ) → is_ascii_digit c ≡ true → value_of base.Decimal (c ∷ ds) ≤ 2 ^ 63 → is_xid_continue (slice_index rest 0) ≡ false →
    is_number base.Decimal (length (c ∷ ds)) (c ∷ ds ++ rest) ≡ true
number_is c ds rest digit least stops =
    three _ _ _ (digit_digit c digit)
    (subst (λ (cs : List ℕ). nat_le (value_of base.Decimal cs) (2 ^ 63) ≡ true) (sym (take_at (c ∷ ds) rest (length (c ∷ ds)) refl)) (le-leb (value_of base.Decimal (c ∷ ds)) (2 ^ 63) least))
    (subst (λ (x : ℕ). not (is_xid_continue x) ≡ true) (sym (behind (c ∷ ds) rest)) (ap not stops))

integer_first : (c : ℕ) (text : List ℕ) (n : ℕ) → is_ascii_digit c ≡ true → integer_of (c ∷ text) ≡ Some n → first_of (c ∷ text) ≡ Some (kind.Integer, n)
unfolding first_of
integer_first c text n digit is = rw (no_begin, digit, is) refl
  where
    no_begin : begins_identifier c ≡ false
    no_begin = rw (is_xid_start-ascii c (digit_low c digit)) (contrary (c == 95 || is_ascii_alphabetic c) (not (is_ascii_digit c))
        (agree_below_at (λ (x : ℕ). implies (x == 95 || is_ascii_alphabetic x) (not (is_ascii_digit x))) (λ (x : ℕ). true) 128 c refl (digit_low c digit)) (ap not digit))

digit_white : (c : ℕ) → is_ascii_digit c ≡ true → is_white c ≡ false
digit_white c digit = contrary (is_white c) (not (is_ascii_digit c))
    (agree_below_at (λ (x : ℕ). implies (is_white x) (not (is_ascii_digit x))) (λ (x : ℕ). true) 128 c refl (digit_low c digit)) (ap not digit)

-- digits that nothing of an identifier follows are the front
digits_front : (cs rest : List ℕ) → list_all is_ascii_digit cs ≡ true → 0 < length cs → value_of base.Decimal cs ≤ 2 ^ 63 → is_xid_continue (slice_index rest 0) ≡ false →
    front_of (cs ++ rest) ≡ Some (front.Token kind.Integer, length cs)
digits_front [] rest all lt least stops = absurd (omega arith)
digits_front (c ∷ ds) rest all lt least stops =
    let both = and_parts (is_ascii_digit c) (list_all is_ascii_digit ds) all in
    let run : run_behind (class.Spaced base.Decimal) (c ∷ ds ++ rest) ≡ length (c ∷ ds) =
    (let more = run_over is_spaced ds rest (digits_spaced ds both.1) (stops_spaced (slice_index rest 0) stops) in omega arith) in
    let some : digits_of base.Decimal (c ∷ ds ++ rest) ≡ Some (0 + length (c ∷ ds)) = counted (c ∷ ds ++ rest) (length (c ∷ ds)) run (number_is c ds rest both.0 least stops) in
    let len : 0 + length (c ∷ ds) ≡ length (c ∷ ds) = omega arith in
    token_front c (ds ++ rest) kind.Integer (length (c ∷ ds))
    (no_white c (ds ++ rest) (digit_white c both.0) (unlike is_ascii_digit c 47 both.0 refl))
    (integer_first c (ds ++ rest) (length (c ∷ ds)) both.0
    (integer_decimal (c ∷ ds ++ rest) (Some (length (c ∷ ds))) (digits_base (c ∷ ds) rest all stops lt) (some ∙ ap Some len)))

abbrev pub integer_token : List ℕ → ℕ → Written
integer_token gap n = record { gap = gap; kind = kind.Integer; text = decimal n; role = role.Unattached }

-- a decimal integer is one token
pub integer_is_token : (gap : List ℕ) (n : ℕ) → is_gap gap ≡ true → n ≤ 2 ^ 63 → IsToken (integer_token gap n)
integer_is_token gap n h least =
    let lt : n < 2 ^ 64 = omega arith in
    let ascii = IsAscii-decimal n lt in
    record {
      utf8 = IsUtf8-from_ascii (decimal n) ascii;
      gap = h;
      front = λ rest e. subst (λ (cs : List ℕ). front_of (cs ++ rest) ≡ Some (front.Token kind.Integer, length cs)) (sym (chars-IsAscii (decimal n) ascii))
          (digits_front (decimal n) rest (all_digits n lt) (decimal_nonempty n lt) (subst (λ (v : ℕ). v ≤ 2 ^ 63) (sym (value_is n lt)) least) (not-true (is_xid_continue (slice_index rest 0)) e));
    }
