-- What the first character of a token says of its kind.
use Rattle.std.proofs.Common.{◌≡◌, ℕ, ◌<◌, ◌≤◌, Bool, true, false, cond, not, List, [], ◌∷◌, take, Option, Some, None, refl, sym, ◌∙◌, ap, subst, inl, inr, arith}
use Rattle.std.specs.Prelude.{◌&&◌, ◌||◌, ◌==◌, slice_index, is_some}
use Rattle.std.specs.Option.{option_map}
use Rattle.std.specs.Char.{is_ascii_digit, is_ascii_alphabetic, is_ascii_alphanumeric}
use Rattle.std.proofs.lemmas.Bool.{and_parts, not-true, ne_eqb, eqb-true, cases_lt, agree_below_at, false_from_ne_true}
use Rattle.unicode_ident.specs.Ident.{is_xid_continue}
use Rattle.unicode_ident.proofs.IdentLemmas.{is_xid_start-ascii, is_xid_continue-ascii}
use Rattle.evo_base.specs.declared.token.TokenKind.{TokenKind}
use Rattle.evo_base.specs.declared.token.TokenKind.TheVariants as kind
use Rattle.evo_lex.specs.declared.class.Class.TheVariants as class
use Rattle.evo_lex.specs.declared.front.Front.{Front}
use Rattle.evo_lex.specs.declared.front.Front.TheVariants as front
use Rattle.evo_lex.specs.Characters.{begins_identifier, is_operator}
use Rattle.evo_lex.specs.Front.{front_of, white_of, white_or, first_of, kind_of, run_behind, integer_of, string_of, operator_of, mark_of}
use Rattle.evo_round_trip.proofs.Written.{is_wordy, is_operator_kind, is_string_kind}

-- ---- characters

-- an ASCII character with which identifiers go on
abbrev goes_on : ℕ → Bool
goes_on c = is_ascii_alphanumeric c || c == 95

-- a character that neither begins an identifier, nor goes on with one, nor is a digit
pub record IsOther (c : ℕ) : Type 0 where
  pub begins : begins_identifier c ≡ false
  pub goes_on : is_xid_continue c ≡ false
  pub digit : is_ascii_digit c ≡ false

abbrev begins_ascii : ℕ → Bool
begins_ascii c = c == 95 || is_ascii_alphabetic c

abbrev is_plain : ℕ → Bool
is_plain c = not (goes_on c) && (not (begins_ascii c) && not (is_ascii_digit c))

plain_other : (c : ℕ) → c < 128 → goes_on c ≡ false → begins_ascii c ≡ false → is_ascii_digit c ≡ false → IsOther c
plain_other c low goes begins digit = record {
  begins = ap (λ (b : Bool). c == 95 || b) (is_xid_start-ascii c low) ∙ begins;
  goes_on = is_xid_continue-ascii c low ∙ goes;
  digit = digit;
}

-- an ASCII character that is plain is other than these
pub other_from : (c : ℕ) → c < 128 → is_plain c ≡ true → IsOther c
other_from c low plain =
    let both = and_parts (not (goes_on c)) (not (begins_ascii c) && not (is_ascii_digit c)) plain in
    let rest = and_parts (not (begins_ascii c)) (not (is_ascii_digit c)) both.1 in
    plain_other c low (not-true (goes_on c) both.0) (not-true (begins_ascii c) rest.0) (not-true (is_ascii_digit c) rest.1)

high_ne : (c k : ℕ) → 128 ≤ c → k < 128 → (c == k) ≡ false
high_ne c k high low = ne_eqb c k (λ e. absurd (omega (arith, e)))

operator_high : (c : ℕ) → 128 ≤ c → is_operator c ≡ false
operator_high c h = rw (
  high_ne c 47 h (omega arith),
  high_ne c 61 h (omega arith),
  high_ne c 45 h (omega arith),
  high_ne c 43 h (omega arith),
  high_ne c 33 h (omega arith),
  high_ne c 42 h (omega arith),
  high_ne c 37 h (omega arith),
  high_ne c 60 h (omega arith),
  high_ne c 62 h (omega arith),
  high_ne c 38 h (omega arith),
  high_ne c 124 h (omega arith),
) refl

mark_high : (c : ℕ) → 128 ≤ c → is_some (mark_of c) ≡ false
mark_high c h = rw (
  high_ne c 40 h (omega arith),
  high_ne c 41 h (omega arith),
  high_ne c 123 h (omega arith),
  high_ne c 125 h (omega arith),
  high_ne c 44 h (omega arith),
  high_ne c 59 h (omega arith),
  high_ne c 58 h (omega arith),
  high_ne c 46 h (omega arith),
  high_ne c 64 h (omega arith),
  high_ne c 35 h (omega arith),
) refl

-- a test that no character from 128 on passes, and whose characters are plain
module _ (test : ℕ → Bool) (high : (c : ℕ) → 128 ≤ c → test c ≡ false) where
  passes_low : (c : ℕ) → test c ≡ true → c < 128
  passes_low c e = elim (cases_lt c 128) [
    | inl lt ↦ lt
    | inr ge ↦ let f = high c ge in absurd cc
  ]

abbrev or_plain : (ℕ → Bool) → ℕ → Bool
or_plain test c = not (test c) || is_plain c

abbrev always : ℕ → Bool
always c = true

plain_since : (test : ℕ → Bool) (c : ℕ) → test c ≡ true → or_plain test c ≡ true → is_plain c ≡ true
plain_since test c e e' = subst (λ (b : Bool). (not b || is_plain c) ≡ true) e e'

-- an operator character
pub operator_other : (c : ℕ) → is_operator c ≡ true → IsOther c
operator_other c e =
    let low = passes_low is_operator operator_high c e in
    other_from c low (plain_since is_operator c e (agree_below_at (or_plain is_operator) always 128 c refl low))

abbrev is_marked : ℕ → Bool
is_marked c = is_some (mark_of c)

-- a mark
pub mark_other : (c : ℕ) (k : TokenKind) → mark_of c ≡ Some k → IsOther c
mark_other c k e =
    let is : is_marked c ≡ true = rw e refl in
    let low = passes_low is_marked mark_high c is in
    other_from c low (plain_since is_marked c is (agree_below_at (or_plain is_marked) always 128 c refl low))

no_mark : (c : ℕ) → Bool
no_mark c = not (is_operator c) || not (is_some (mark_of c))

some_is : (k : TokenKind) (o : Option TokenKind) → o ≡ Some k → is_some o ≡ true
some_is k o e = rw e refl

-- an operator character is no mark
mark_no_operator : (c : ℕ) (k : TokenKind) → is_operator c ≡ true → mark_of c ≡ Some k → ⊥
unfolding no_mark
mark_no_operator c k o m =
    let e : no_mark c ≡ true = agree_below_at no_mark always 128 c refl (passes_low is_operator operator_high c o) in
    let f : (not true || not (is_some (mark_of c))) ≡ true = subst (λ (b : Bool). (not b || not (is_some (mark_of c))) ≡ true) o e in
    let g : not true ≡ true = subst (λ (b : Bool). not b ≡ true) (some_is k (mark_of c) m) f in
    absurd cc

-- ---- tokens

-- what makes this the token at the front of the text
pub data First (text : List ℕ) (k : TokenKind) (n : ℕ) : Type 0 where
  word : begins_identifier (slice_index text 0) ≡ true → kind_of (take (run_behind class.Continuing text) text) ≡ k → run_behind class.Continuing text ≡ n → First text k n
  integer : is_ascii_digit (slice_index text 0) ≡ true → kind.Integer ≡ k → integer_of text ≡ Some n → First text k n
  string : (slice_index text 0 == 34) ≡ true → kind.String ≡ k → string_of text ≡ Some n → First text k n
  operator : is_operator (slice_index text 0) ≡ true → kind.Operator ≡ k → operator_of text ≡ Some n → First text k n
  mark : mark_of (slice_index text 0) ≡ Some k → 1 ≡ n → First text k n

-- a token of this kind and so many characters
abbrev found : TokenKind → ℕ → Option (TokenKind × ℕ)
found k n = Some (k, n)

abbrev kind_part : TokenKind → Option (TokenKind × ℕ) → TokenKind
kind_part d None = d
kind_part d (Some p) = p.0

abbrev number_part : Option (TokenKind × ℕ) → ℕ
number_part None = 0
number_part (Some p) = p.1

some_pair : (a b : TokenKind) (m n : ℕ) → found a m ≡ found b n → (a ≡ b) × (m ≡ n)
some_pair a b m n e = (ap (kind_part a) e, ap number_part e)

abbrev of_kind : TokenKind → Option ℕ → Option (TokenKind × ℕ)
of_kind a o = option_map (λ n. (a, n)) o

abbrev of_one : Option TokenKind → Option (TokenKind × ℕ)
of_one o = option_map (λ k. (k, 1)) o

mapped : (a k : TokenKind) (o : Option ℕ) (n : ℕ) → of_kind a o ≡ found k n → (a ≡ k) × (o ≡ Some n)
mapped a k None n e = absurd cc
mapped a k (Some m) n e = let both = some_pair a k m n e in (both.0, ap (λ (i : ℕ). Some i) both.1)

mapped_kind : (k : TokenKind) (o : Option TokenKind) (n : ℕ) → of_one o ≡ found k n → (o ≡ Some k) × (1 ≡ n)
mapped_kind k None n e = absurd cc
mapped_kind k (Some j) n e = let both = some_pair j k 1 n e in (ap (λ (i : TokenKind). Some i) both.0, both.1)

pub first_is : (text : List ℕ) (k : TokenKind) (n : ℕ) → first_of text ≡ found k n → First text k n
unfolding first_of
first_is text k n e = go (begins_identifier (slice_index text 0)) refl (is_ascii_digit (slice_index text 0)) refl (slice_index text 0 == 34) refl (is_operator (slice_index text 0)) refl e
  where
    go : (a : Bool) → begins_identifier (slice_index text 0) ≡ a → (b : Bool) → is_ascii_digit (slice_index text 0) ≡ b → (c : Bool) → (slice_index text 0 == 34) ≡ c → (d : Bool) → is_operator (slice_index text 0) ≡ d
        → cond a (found (kind_of (take (run_behind class.Continuing text) text)) (run_behind class.Continuing text))
        (cond b (of_kind kind.Integer (integer_of text))
        (cond c (of_kind kind.String (string_of text))
        (cond d (of_kind kind.Operator (operator_of text))
        (of_one (mark_of (slice_index text 0)))))) ≡ found k n → First text k n
    go true ea b eb c ec d ed e = let both = some_pair (kind_of (take (run_behind class.Continuing text) text)) k (run_behind class.Continuing text) n e in word ea both.0 both.1
    go false ea true eb c ec d ed e = let both = mapped kind.Integer k (integer_of text) n e in integer eb both.0 both.1
    go false ea false eb true ec d ed e = let both = mapped kind.String k (string_of text) n e in string ec both.0 both.1
    go false ea false eb false ec true ed e = let both = mapped kind.Operator k (operator_of text) n e in operator ed both.0 both.1
    go false ea false eb false ec false ed e = let both = mapped_kind k (mark_of (slice_index text 0)) n e in mark both.0 both.1

-- so many characters are the front of a text
abbrev pub at_front : Front → ℕ → Option (Front × ℕ)
at_front f n = Some (f, n)

abbrev front_part : Option (Front × ℕ) → Front
front_part None = front.White
front_part (Some p) = p.0

white_no_token : (m n : ℕ) (k : TokenKind) → at_front front.White m ≡ at_front (front.Token k) n → ⊥
white_no_token m n k e = let f = ap front_part e in absurd cc

kind_in : TokenKind → Front → TokenKind
kind_in d front.White = d
kind_in d (front.Token k) = k

abbrev found_in : TokenKind → Option (Front × ℕ) → Option (TokenKind × ℕ)
found_in d None = None
found_in d (Some p) = found (kind_in d p.0) p.1

some_front : (a b : TokenKind) (m n : ℕ) → at_front (front.Token a) m ≡ at_front (front.Token b) n → found a m ≡ found b n
unfolding kind_in
some_front a b m n e = ap (found_in a) e

token_or : (white : Option ℕ) (token : Option (TokenKind × ℕ)) (k : TokenKind) (n : ℕ) → white_or white token ≡ at_front (front.Token k) n → (white ≡ None) × (token ≡ found k n)
token_or (Some m) token k n e = absurd (white_no_token m n k e)
token_or None None k n e = absurd cc
token_or None (Some (j, m)) k n e = (refl, some_front j k m n e)

-- a token at the front of a text has a first character, which is no white space
pub record TokenAt (text : List ℕ) (k : TokenKind) (n : ℕ) : Type 0 where
  pub white : white_of text ≡ None
  pub first : First text k n

pub token_at : (text : List ℕ) (k : TokenKind) (n : ℕ) → front_of text ≡ at_front (front.Token k) n → TokenAt text k n
unfolding front_of
token_at [] k n e = absurd cc
token_at (c ∷ text) k n e = let both = token_or (white_of (c ∷ text)) (first_of (c ∷ text)) k n e in record { white = both.0; first = first_is (c ∷ text) k n both.1 }

-- ---- kinds

word_wordy : (w : List ℕ) → is_wordy (kind_of w) ≡ true
unfolding kind_of
word_wordy w = go _ _
  where
    go : (a b : Bool) → is_wordy (cond a kind.Underscore (cond b kind.Keyword kind.Identifier)) ≡ true
    go true b = refl
    go false true = refl
    go false false = refl

wordy_since : (k j : TokenKind) → k ≡ j → is_wordy k ≡ true → is_wordy j ≡ false → ⊥
wordy_since k j e w n = absurd cc

-- a token that is no word and no integer begins with no character that goes on with one
pub no_word : (text : List ℕ) (k : TokenKind) (n : ℕ) → is_wordy k ≡ false → First text k n → is_xid_continue (slice_index text 0) ≡ false
no_word text k n none (word b e l) = absurd (wordy_since _ k e (word_wordy (take (run_behind class.Continuing text) text)) none)
no_word text k n none (integer d e i) = absurd (wordy_since kind.Integer k e refl none)
no_word text k n none (string q e s) = ap is_xid_continue (eqb-true (slice_index text 0) 34 q) ∙ is_xid_continue-ascii 34 (omega arith)
no_word text k n none (operator o e s) = (operator_other (slice_index text 0) o).goes_on
no_word text k n none (mark m l) = (mark_other (slice_index text 0) k m).goes_on

-- a token that begins with an operator character is an operator
pub operator_is : (text : List ℕ) (k : TokenKind) (n : ℕ) → is_operator (slice_index text 0) ≡ true → First text k n → (kind.Operator ≡ k) × (operator_of text ≡ Some n)
operator_is text k n o (word b e l) = absurd (let no = (operator_other (slice_index text 0) o).begins in cc)
operator_is text k n o (integer d e i) = absurd (let no = (operator_other (slice_index text 0) o).digit in cc)
operator_is text k n o (string q e s) = absurd (let c = subst (λ (c : ℕ). is_operator c ≡ true) (eqb-true (slice_index text 0) 34 q) o in cc)
operator_is text k n o (operator o' e s) = (e, s)
operator_is text k n o (mark m l) = absurd (mark_no_operator (slice_index text 0) k o m)

-- a token that is no operator begins with no operator character
pub no_operator : (text : List ℕ) (k : TokenKind) (n : ℕ) → is_operator_kind k ≡ false → First text k n → is_operator (slice_index text 0) ≡ false
no_operator text k n none f = false_from_ne_true (is_operator (slice_index text 0)) (λ o. absurd (let e = (operator_is text k n o f).0 in let g = subst (λ (j : TokenKind). is_operator_kind j ≡ false) (sym e) none in cc))

quote_other : IsOther 34
quote_other = other_from 34 (omega arith) refl

-- a token that begins with a quote is a string
string_is : (text : List ℕ) (k : TokenKind) (n : ℕ) → (slice_index text 0 == 34) ≡ true → First text k n → kind.String ≡ k
string_is text k n q (word b e l) = absurd (let c = subst (λ (c : ℕ). begins_identifier c ≡ true) (eqb-true (slice_index text 0) 34 q) b in let no = quote_other.begins in cc)
string_is text k n q (integer d e i) = absurd (let c = subst (λ (c : ℕ). is_ascii_digit c ≡ true) (eqb-true (slice_index text 0) 34 q) d in cc)
string_is text k n q (string q' e s) = e
string_is text k n q (operator o e s) = absurd (let c = subst (λ (c : ℕ). is_operator c ≡ true) (eqb-true (slice_index text 0) 34 q) o in cc)
string_is text k n q (mark m l) = absurd (let c = subst (λ (c : ℕ). mark_of c ≡ Some k) (eqb-true (slice_index text 0) 34 q) m in cc)

-- a token that is no string begins with no quote
pub no_string : (text : List ℕ) (k : TokenKind) (n : ℕ) → is_string_kind k ≡ false → First text k n → (slice_index text 0 == 34) ≡ false
no_string text k n none f = false_from_ne_true (slice_index text 0 == 34) (λ q. absurd (let e = string_is text k n q f in let g = subst (λ (j : TokenKind). is_string_kind j ≡ false) (sym e) none in cc))
