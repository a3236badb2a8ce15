-- Words are tokens: names, and words of ASCII letters, digits and `_`.
use Rattle.std.proofs.Common.{◌≡◌, ℕ, ◌<◌, Bool, true, false, List, [], ◌∷◌, ◌++◌, length, slice_index, Some, None, refl, sym, ◌∙◌, subst, arith}
use Rattle.std.specs.Prelude.{◌==◌, ◌&&◌, ◌||◌, nat_lt}
use Rattle.std.specs.List.{list_all, prefix_len}
use Rattle.std.specs.Char.{is_ascii_alphabetic, is_ascii_alphanumeric}
use Rattle.std.specs.Str.{IsUtf8, IsAscii, chars}
use Rattle.std.proofs.lemmas.Bool.{eqb-true, ltb-true, and_parts, not-true}
use Rattle.std.proofs.lemmas.List.{take_at}
use Rattle.std.proofs.lemmas.Str.{IsUtf8-from_ascii, chars-IsAscii}
use Rattle.std.proofs.lemmas.Str.Ascii.{IsAscii-cons, IsAscii-nil}
use Rattle.unicode_ident.specs.Ident.{is_xid_continue}
use Rattle.unicode_ident.proofs.IdentLemmas.{is_xid_start-ascii, is_xid_continue-ascii}
use Rattle.evo_base.specs.declared.token.TokenKind.{TokenKind}
use Rattle.evo_base.specs.declared.token.TokenKind.TheVariants as kind
use Rattle.evo_lex.specs.declared.class.Class.TheVariants as class
use Rattle.evo_lex.specs.declared.front.Front.TheVariants as front
use Rattle.evo_lex.specs.Characters.{is_white, begins_identifier}
use Rattle.evo_lex.specs.Front.{white_of, first_of, front_of, kind_of, run_behind}
use Rattle.evo_lex.specs.Identifier.{begins_well, IsIdentifier}
use Rattle.evo_tree.specs.declared.terminal.Role.{Role}
use Rattle.evo_tree.specs.declared.terminal.Role.TheVariants as role
use Rattle.evo_round_trip.proofs.Written.{Written, IsToken, ends_before, is_gap}
use Rattle.evo_round_trip.proofs.Matching.{IsName}

-- ---- characters

-- characters that a test tells apart are not the same
pub unlike : (test : ℕ → Bool) (c b : ℕ) → test c ≡ true → test b ≡ false → (c == b) ≡ false
unlike test c b does fails = at (c == b) refl
  where
    at : (v : Bool) → (c == b) ≡ v → (c == b) ≡ false
    at true is = absurd (let e : test b ≡ true = subst (λ (x : ℕ). test x ≡ true) (eqb-true c b is) does in cc)
    at false is = is

-- what passes a test goes on over the whole of a list of such characters
pub run_over : (test : ℕ → Bool) (cs rest : List ℕ) → list_all test cs ≡ true → test (slice_index rest 0) ≡ false → prefix_len test (cs ++ rest) ≡ length cs
run_over test [] [] all stops = refl
run_over test [] (x ∷ rest) all stops = rw stops refl
run_over test (c ∷ cs) rest all stops =
    let both = and_parts (test c) (list_all test cs) all in
    rw both.0 (let more = run_over test cs rest both.1 stops in omega arith)

-- ---- fronts

-- a token is the front where no white space is
pub token_front : (c : ℕ) (text : List ℕ) (k : TokenKind) (n : ℕ) → white_of (c ∷ text) ≡ None → first_of (c ∷ text) ≡ Some (k, n) → front_of (c ∷ text) ≡ Some (front.Token k, n)
unfolding front_of
token_front c text k n none some = rw (none, some) refl

-- what begins with no white character and with no `/` is no white space
pub no_white : (c : ℕ) (text : List ℕ) → is_white c ≡ false → (c == 47) ≡ false → white_of (c ∷ text) ≡ None
unfolding white_of
no_white c text white slash = rw (white, slash) refl

begins : (b : ℕ) → b < 128 → (b == 95 || is_ascii_alphabetic b) ≡ false → begins_identifier b ≡ false
begins b low fails = rw (is_xid_start-ascii b low) fails

-- what begins an identifier is no white character
begins_no_white : (c : ℕ) → begins_identifier c ≡ true → is_white c ≡ false
begins_no_white c does =
    let blank = unlike begins_identifier c 32 does (begins 32 (omega arith) refl) in
    let tab = unlike begins_identifier c 9 does (begins 9 (omega arith) refl) in
    let feed = unlike begins_identifier c 10 does (begins 10 (omega arith) refl) in
    let return = unlike begins_identifier c 13 does (begins 13 (omega arith) refl) in
    rw (blank, tab, feed, return) refl

word_first : (c : ℕ) (cs rest : List ℕ) → begins_identifier c ≡ true → list_all is_xid_continue cs ≡ true → is_xid_continue (slice_index rest 0) ≡ false →
    first_of (c ∷ cs ++ rest) ≡ Some (kind_of (c ∷ cs), length (c ∷ cs))
unfolding first_of
word_first c cs rest does all stops =
    let run : run_behind class.Continuing (c ∷ cs ++ rest) ≡ length (c ∷ cs) = let more = run_over is_xid_continue cs rest all stops in omega arith in
    rw (does, run, take_at cs rest (length cs) refl) refl

-- the word is the front, with its kind
pub word_front : (cs rest : List ℕ) → begins_well cs ≡ true → list_all is_xid_continue cs ≡ true → is_xid_continue (slice_index rest 0) ≡ false →
    front_of (cs ++ rest) ≡ Some (front.Token (kind_of cs), length cs)
word_front [] rest does all stops = absurd (cc)
word_front (c ∷ cs) rest does all stops =
    let both = and_parts (is_xid_continue c) (list_all is_xid_continue cs) all in
    token_front c (cs ++ rest) (kind_of (c ∷ cs)) (length (c ∷ cs))
    (no_white c (cs ++ rest) (begins_no_white c does) (unlike begins_identifier c 47 does (begins 47 (omega arith) refl)))
    (word_first c cs rest does both.1 stops)

-- ---- names

abbrev pub name_token : List ℕ → List ℕ → Written
name_token gap text = record { gap = gap; kind = kind.Identifier; text = text; role = role.Unattached }

-- a name is one token
pub name_is_token : (gap text : List ℕ) → is_gap gap ≡ true → IsName text → IsToken (name_token gap text)
name_is_token gap text h n = record {
  utf8 = n.utf8;
  gap = h;
  front = λ rest e. subst (λ (k : TokenKind). front_of (chars text ++ rest) ≡ Some (front.Token k, length (chars text))) n.no_keyword
      (word_front (chars text) rest n.identifier.begins n.identifier.goes_on (not-true (is_xid_continue (slice_index rest 0)) e));
}

-- ---- words of ASCII characters

-- every character is below 128
abbrev pub is_low : List ℕ → Bool
is_low cs = list_all (λ c. nat_lt c 128) cs

pub low_ascii : (cs : List ℕ) → is_low cs ≡ true → IsAscii cs
low_ascii [] low = IsAscii-nil
low_ascii (c ∷ cs) low =
    let both = and_parts (nat_lt c 128) (is_low cs) low in
    IsAscii-cons c cs (ltb-true c 128 both.0) (low_ascii cs both.1)

-- a letter, a digit or `_`
abbrev pub is_plain : ℕ → Bool
is_plain c = nat_lt c 128 && (is_ascii_alphanumeric c || c == 95)

-- what such a word begins with
abbrev pub begins_plainly : List ℕ → Bool
begins_plainly [] = false
begins_plainly (c ∷ cs) = nat_lt c 128 && (c == 95 || is_ascii_alphabetic c)

abbrev pub is_plain_word : List ℕ → Bool
is_plain_word word = begins_plainly word && list_all is_plain word

plain_low : (cs : List ℕ) → list_all is_plain cs ≡ true → is_low cs ≡ true
plain_low [] all = refl
plain_low (c ∷ cs) all =
    let both = and_parts (is_plain c) (list_all is_plain cs) all in
    let low = and_parts (nat_lt c 128) (is_ascii_alphanumeric c || c == 95) both.0 in
    rw low.0 (plain_low cs both.1)

plain_goes_on : (cs : List ℕ) → list_all is_plain cs ≡ true → list_all is_xid_continue cs ≡ true
plain_goes_on [] all = refl
plain_goes_on (c ∷ cs) all =
    let both = and_parts (is_plain c) (list_all is_plain cs) all in
    let low = and_parts (nat_lt c 128) (is_ascii_alphanumeric c || c == 95) both.0 in
    rw (is_xid_continue-ascii c (ltb-true c 128 low.0) ∙ low.1) (plain_goes_on cs both.1)

plain_begins : (cs : List ℕ) → begins_plainly cs ≡ true → begins_well cs ≡ true
plain_begins [] does = absurd (cc)
plain_begins (c ∷ cs) does =
    let both = and_parts (nat_lt c 128) (c == 95 || is_ascii_alphabetic c) does in
    rw (is_xid_start-ascii c (ltb-true c 128 both.0)) both.1

module _ (word : List ℕ) (plain : is_plain_word word ≡ true) where
  parts : (begins_plainly word ≡ true) × (list_all is_plain word ≡ true)
  parts = and_parts (begins_plainly word) (list_all is_plain word) plain

  ascii : IsAscii word
  ascii = low_ascii word (plain_low word parts.1)

  pub plain_utf8 : IsUtf8 word
  plain_utf8 = IsUtf8-from_ascii word ascii

  pub plain_chars : chars word ≡ word
  plain_chars = chars-IsAscii word ascii

  pub plain_identifier : IsIdentifier word
  plain_identifier = record {
    begins = subst (λ (cs : List ℕ). begins_well cs ≡ true) (sym plain_chars) (plain_begins word parts.0);
    goes_on = subst (λ (cs : List ℕ). list_all is_xid_continue cs ≡ true) (sym plain_chars) (plain_goes_on word parts.1);
  }

  -- a word that is no keyword is a name
  pub plain_name : kind_of word ≡ kind.Identifier → IsName word
  plain_name is = record {
    utf8 = plain_utf8;
    identifier = plain_identifier;
    no_keyword = subst (λ (cs : List ℕ). kind_of cs ≡ kind.Identifier) (sym plain_chars) is;
  }

  -- a word is one token of its kind
  pub plain_token : (k : TokenKind) → kind_of word ≡ k → ((rest : List ℕ) → ends_before k rest ≡ true → is_xid_continue (slice_index rest 0) ≡ false) →
      (gap : List ℕ) → is_gap gap ≡ true → (r : Role) → IsToken (record { gap = gap; kind = k; text = word; role = r })
  plain_token k is stops gap h r = record {
    utf8 = plain_utf8;
    gap = h;
    front = λ rest e. subst (λ (cs : List ℕ). front_of (cs ++ rest) ≡ Some (front.Token k, length cs)) (sym plain_chars)
        (subst (λ (j : TokenKind). front_of (word ++ rest) ≡ Some (front.Token j, length word)) is
        (word_front word rest (plain_begins word parts.0) (plain_goes_on word parts.1) (stops rest e)));
  }

  pub keyword_word : kind_of word ≡ kind.Keyword → (gap : List ℕ) → is_gap gap ≡ true → (r : Role) → IsToken (record { gap = gap; kind = kind.Keyword; text = word; role = r })
  keyword_word is = plain_token kind.Keyword is (λ rest e. not-true (is_xid_continue (slice_index rest 0)) e)

  pub underscore_word : kind_of word ≡ kind.Underscore → (gap : List ℕ) → is_gap gap ≡ true → (r : Role) → IsToken (record { gap = gap; kind = kind.Underscore; text = word; role = r })
  underscore_word is = plain_token kind.Underscore is (λ rest e. not-true (is_xid_continue (slice_index rest 0)) e)
