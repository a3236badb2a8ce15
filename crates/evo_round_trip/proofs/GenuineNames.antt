-- A token of a text has the text of its characters, and an identifier has a name for its text.
use Rattle.std.proofs.Common.{◌≡◌, ℕ, zero, suc, ◌+◌, ◌-◌, Bool, true, false, cond, List, [], ◌∷◌, ◌++◌, take, drop, length, Option, Some, None, refl, sym, ◌∙◌, ap, subst, inl, inr, append_assoc, arith}
use Rattle.std.specs.Prelude.{◌==◌, slice_index}
use Rattle.std.specs.List.{prefix_len, list_all}
use Rattle.std.specs.Str.{encode_utf8_all}
use Rattle.std.proofs.lemmas.Bool.{eqb-true, and_parts, and_from, or_cases}
use Rattle.std.proofs.lemmas.List.{take-append-drop, take_at, drop_at, length-append}
use Rattle.std.proofs.lemmas.Str.{encodes-append, chars-encodes}
use Rattle.unicode_ident.specs.Ident.{is_xid_start, is_xid_continue}
use Rattle.unicode_ident.proofs.IdentLemmas.{is_xid_continue-ascii, is_xid_start-is_xid_continue}
use lib.Utf8.{scalar, scalars}
use Rattle.evo_base.specs.declared.token.TokenKind.{TokenKind}
use Rattle.evo_base.specs.declared.token.TokenKind.TheVariants as kind
use Rattle.evo_lex.specs.declared.spot.Position.{Position}
use Rattle.evo_lex.specs.declared.class.Class.TheVariants as class
use Rattle.evo_lex.specs.Characters.{begins_identifier}
use Rattle.evo_lex.specs.Front.{kind_of, run_behind, mark_of}
use Rattle.evo_lex.specs.Tokenization.{beyond, token_between}
use Rattle.evo_lex.specs.Identifier.{begins_well}
use Rattle.evo_lex.proofs.Spots.{bytes}
use Rattle.evo_tree.specs.Pieces.{text_of}
use Rattle.evo_round_trip.proofs.Written.{is_wordy}
use Rattle.evo_round_trip.proofs.Matching.{IsName}
use Rattle.evo_round_trip.proofs.NoFeeds.{take_one}
use Rattle.evo_round_trip.proofs.FirstCharacters.{First, other_from}
use Rattle.evo_round_trip.proofs.FirstCharacters.First.{word, integer, string, operator, mark}

-- ---- the text of a token

-- characters are those up to a place and those behind it
pub encode_split : (n : ℕ) (cs : List ℕ) → encode_utf8_all cs ≡ encode_utf8_all (take n cs) ++ encode_utf8_all (drop n cs)
encode_split n cs = ap encode_utf8_all (sym (take-append-drop n cs)) ∙ encodes-append (take n cs) (drop n cs)

-- a token's text are the bytes of its characters
pub token_text : (text pre cs : List ℕ) (s : Position) (n : ℕ) (k : TokenKind) → text ≡ pre ++ encode_utf8_all cs → length pre ≡ s.at → text_of text (token_between k s (beyond (take n cs) s)) ≡ encode_utf8_all (take n cs)
token_text text pre cs s n k whole at =
    let size : length (encode_utf8_all (take n cs)) ≡ (beyond (take n cs) s).at - s.at = let b = bytes (take n cs) s in omega arith in
    ap (λ (l : List ℕ). take ((beyond (take n cs) s).at - s.at) (drop s.at l)) whole
    ∙ ap (λ (l : List ℕ). take ((beyond (take n cs) s).at - s.at) l) (drop_at pre (encode_utf8_all cs) s.at at ∙ encode_split n cs)
    ∙ take_at (encode_utf8_all (take n cs)) (encode_utf8_all (drop n cs)) ((beyond (take n cs) s).at - s.at) size

-- the text goes on behind a front
pub text_on : (text pre cs : List ℕ) (n : ℕ) → text ≡ pre ++ encode_utf8_all cs → text ≡ (pre ++ encode_utf8_all (take n cs)) ++ encode_utf8_all (drop n cs)
text_on text pre cs n whole = whole ∙ ap (λ (l : List ℕ). pre ++ l) (encode_split n cs) ∙ sym (append_assoc pre (encode_utf8_all (take n cs)) (encode_utf8_all (drop n cs)))

pub at_on : (pre cs : List ℕ) (s : Position) (n : ℕ) → length pre ≡ s.at → length (pre ++ encode_utf8_all (take n cs)) ≡ (beyond (take n cs) s).at
at_on pre cs s n at = let l = length-append pre (encode_utf8_all (take n cs)) in let b = bytes (take n cs) s in omega arith

pub scalars_take : (n : ℕ) (cs : List ℕ) → scalars cs ≡ true → scalars (take n cs) ≡ true
scalars_take zero cs e = refl
scalars_take (suc n) [] e = refl
scalars_take (suc n) (c ∷ cs) e = let both = and_parts (scalar c) (scalars cs) e in and_from (scalar c) (scalars (take n cs)) both.0 (scalars_take n cs both.1)

pub scalars_drop : (n : ℕ) (cs : List ℕ) → scalars cs ≡ true → scalars (drop n cs) ≡ true
scalars_drop zero cs e = e
scalars_drop (suc n) [] e = e
scalars_drop (suc n) (c ∷ cs) e = scalars_drop n cs (and_parts (scalar c) (scalars cs) e).1

-- ---- names

all_run : (p : ℕ → Bool) (cs : List ℕ) → list_all p (take (prefix_len p cs) cs) ≡ true
all_run p [] = refl
all_run p (c ∷ cs) = go (all_run p cs) (p c) refl
  where
    go : list_all p (take (prefix_len p cs) cs) ≡ true → (b : Bool) → p c ≡ b → list_all p (take (cond b (1 + prefix_len p cs) 0) (c ∷ cs)) ≡ true
    go rest true e = ap (list_all p) (take_one (prefix_len p cs) c cs) ∙ and_from (p c) (list_all p (take (prefix_len p cs) cs)) e rest
    go rest false e = refl

-- what begins an identifier goes on with one
begins_goes_on : (c : ℕ) → begins_identifier c ≡ true → is_xid_continue c ≡ true
begins_goes_on c e = elim (or_cases (c == 95) (is_xid_start c) e) [
  | inl u ↦ ap is_xid_continue (eqb-true c 95 u) ∙ is_xid_continue-ascii 95 (omega arith)
  | inr s ↦ is_xid_start-is_xid_continue c s
]

nil_begins : begins_identifier 0 ≡ true → ⊥
nil_begins e = let no_zero = (other_from 0 (omega arith) refl).begins in absurd cc

-- the characters of a word's front
pub record IsWord (cs : List ℕ) : Type 0 where
  pub begins : begins_well cs ≡ true
  pub goes_on : list_all is_xid_continue cs ≡ true

run_word : (cs : List ℕ) → begins_identifier (slice_index cs 0) ≡ true → IsWord (take (run_behind class.Continuing cs) cs)
run_word [] b = absurd (nil_begins b)
run_word (c ∷ cs) b =
    let front = sym (take_one (prefix_len is_xid_continue cs) c cs) in
    subst IsWord front (record { begins = b; goes_on = and_from (is_xid_continue c) (list_all is_xid_continue (take (prefix_len is_xid_continue cs) cs)) (begins_goes_on c b) (all_run is_xid_continue cs) })

abbrev is_word_kind : Option TokenKind → Bool
is_word_kind None = false
is_word_kind (Some k) = is_wordy k

-- no mark is a name
mark_plain : (c : ℕ) → is_word_kind (mark_of c) ≡ false
mark_plain c = go (c == 40) (c == 41) (c == 123) (c == 125) (c == 44) (c == 59) (c == 58) (c == 46) (c == 64) (c == 35)
  where
    go : (a b d e f g h i j k : Bool) → is_word_kind (cond a (Some kind.OpenParenthesis) (cond b (Some kind.CloseParenthesis) (cond d (Some kind.OpenBrace) (cond e (Some kind.CloseBrace) (cond f (Some kind.Comma)
        (cond g (Some kind.Semicolon) (cond h (Some kind.Colon) (cond i (Some kind.Dot) (cond j (Some kind.At) (cond k (Some kind.Hash) None)))))))))) ≡ false
    go true b d e f g h i j k = refl
    go false true d e f g h i j k = refl
    go false false true e f g h i j k = refl
    go false false false true f g h i j k = refl
    go false false false false true g h i j k = refl
    go false false false false false true h i j k = refl
    go false false false false false false true i j k = refl
    go false false false false false false false true j k = refl
    go false false false false false false false false true k = refl
    go false false false false false false false false false true = refl
    go false false false false false false false false false false = refl

-- the characters of an identifier at the front of a text
record IsNameFront (cs : List ℕ) : Type 0 where
  pub word : IsWord cs
  pub no_keyword : kind_of cs ≡ kind.Identifier

name_front : (cs : List ℕ) (n : ℕ) → First cs kind.Identifier n → IsNameFront (take n cs)
name_front cs n (word b e l) = subst (λ (m : ℕ). IsNameFront (take m cs)) l (record { word = run_word cs b; no_keyword = e })
name_front cs n (integer d e i) = absurd cc
name_front cs n (string q e s) = absurd cc
name_front cs n (operator o e s) = absurd cc
name_front cs n (mark m l) = absurd (let f = mark_plain (slice_index cs 0) in let g = subst (λ (o : Option TokenKind). is_word_kind o ≡ false) m f in cc)

-- an identifier at the front of a text is a name
pub name_is : (cs : List ℕ) (n : ℕ) → scalars cs ≡ true → First cs kind.Identifier n → IsName (encode_utf8_all (take n cs))
name_is cs n s f =
    let is = name_front cs n f in
    let same = sym (chars-encodes (take n cs) (scalars_take n cs s)) in
    record {
      utf8 = (take n cs, (scalars_take n cs s, refl));
      identifier = record {
        begins = subst (λ (l : List ℕ). begins_well l ≡ true) same is.word.begins;
        goes_on = subst (λ (l : List ℕ). list_all is_xid_continue l ≡ true) same is.word.goes_on;
      };
      no_keyword = subst (λ (l : List ℕ). kind_of l ≡ kind.Identifier) same is.no_keyword;
    }
