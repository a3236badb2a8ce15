-- The two lines of an interface's heading are white space.
use Rattle.std.proofs.Common.{◌≡◌, ℕ, zero, suc, ◌+◌, ◌<◌, ◌^◌, ◌%◌, codes, Bool, true, false, not, List, [], ◌∷◌, ◌++◌, drop, length, refl, sym, ◌∙◌, ap, subst, append_assoc, arith}
use Rattle.std.specs.Prelude.{◌&&◌, ◌==◌, nat_lt}
use Rattle.std.specs.Fmt.{decimal}
use Rattle.std.specs.List.{prefix_len}
use Rattle.std.specs.Str.{IsUtf8, IsAscii, chars, encode_utf8_all}
use Rattle.std.specs.Char.{encode_utf8}
use Rattle.std.proofs.lemmas.Bool.{and_parts, and_from, or_parts, or_from, ne_eqb, lt-ltb, ltb-true, not-true, eqb-true}
use Rattle.std.proofs.lemmas.Fmt.{decimal_by_steps}
use Rattle.std.proofs.lemmas.List.{take_at, drop_at}
use Rattle.std.proofs.lemmas.Str.{chars-append, chars-IsAscii, encodes-chars, encode_ascii, IsUtf8-from_ascii, IsUtf8-append}
use Rattle.evo_base.specs.declared.token.Token.{Token}
use Rattle.evo_lex.specs.declared.spot.Position.{Position}
use Rattle.evo_lex.specs.declared.class.Class.TheVariants as class
use Rattle.evo_lex.specs.declared.front.Front.TheVariants as front
use Rattle.evo_lex.specs.Characters.{is_of}
use Rattle.evo_lex.specs.Front.{front_of, white_of}
use Rattle.evo_lex.specs.Tokenization.{CutFrom, beyond, behind}
use Rattle.evo_lex.specs.Tokenization.CutFrom.{white}
use Rattle.evo_base.specs.declared.place.Release.{Release}
use Rattle.evo_tree.specs.Canonical.{release_text, head_text}
use Rattle.evo_round_trip.proofs.Written.{breaks}
use Rattle.evo_round_trip.proofs.FirstCharacters.{at_front}
use Rattle.evo_round_trip.proofs.NoFeeds.{breaks_append}
use Rattle.evo_round_trip.proofs.TokenCuts.{gap_cut}

-- ---- a comment to the end of its line

pub beyond_append : (xs ys : List ℕ) (s : Position) → beyond (xs ++ ys) s ≡ beyond ys (beyond xs s)
beyond_append [] ys s = refl
beyond_append (x ∷ xs) ys s = beyond_append xs ys (behind x s)

line_run : (cs rest : List ℕ) → breaks cs ≡ false → prefix_len (is_of class.OfLine) (cs ++ 10 ∷ rest) ≡ length cs
line_run [] rest e = refl
line_run (c ∷ cs) rest e = let both = or_parts (c == 10) (breaks cs) e in rw both.0 (let r = line_run cs rest both.1 in omega arith)

comment_front : (cs rest : List ℕ) → breaks cs ≡ false → front_of (47 ∷ 47 ∷ (cs ++ 10 ∷ rest)) ≡ at_front front.White (length (47 ∷ 47 ∷ cs))
unfolding front_of white_of
comment_front cs rest e = ap (at_front front.White) (let r = line_run cs rest e in omega arith)

-- a cut begins with white space before it
white_cut : (cs rest : List ℕ) (s : Position) (tokens : List Token) → front_of (cs ++ rest) ≡ at_front front.White (length cs) → CutFrom (beyond cs s) rest tokens → CutFrom s (cs ++ rest) tokens
white_cut cs rest s tokens e cut =
    white e (subst (λ (l : List ℕ). CutFrom (beyond l s) (drop (length cs) (cs ++ rest)) tokens) (sym (take_at cs rest (length cs) refl)) (subst (λ (l : List ℕ). CutFrom (beyond cs s) l tokens) (sym (drop_at cs rest (length cs) refl)) cut))

abbrev comment : List ℕ → List ℕ
comment cs = 47 ∷ 47 ∷ cs

-- a line with nothing but a comment is white space
pub comment_cut : (cs rest : List ℕ) (s : Position) (tokens : List Token) → breaks cs ≡ false → CutFrom (beyond (comment cs ++ 10 ∷ []) s) rest tokens → CutFrom s (comment cs ++ 10 ∷ rest) tokens
comment_cut cs rest s tokens e cut =
    white_cut (comment cs) (10 ∷ rest) s tokens (comment_front cs rest e)
    (gap_cut (10 ∷ []) rest (beyond (comment cs) s) tokens refl (subst (λ (p : Position). CutFrom p rest tokens) (beyond_append (comment cs) (10 ∷ []) s) cut))

-- ---- texts with no line feed

breaks_behind : (xs ys : List ℕ) → breaks (xs ++ ys) ≡ false → breaks ys ≡ false
breaks_behind [] ys e = e
breaks_behind (x ∷ xs) ys e = breaks_behind xs ys (or_parts (x == 10) (breaks (xs ++ ys)) e).1

-- where no byte is a line feed, no character is
characters_quiet : (cs : List ℕ) → breaks (encode_utf8_all cs) ≡ false → breaks cs ≡ false
characters_quiet [] e = refl
characters_quiet (c ∷ cs) e = or_from (c == 10) (breaks cs) (go (c == 10) refl) (characters_quiet cs (breaks_behind (encode_utf8 c) (encode_utf8_all cs) e))
  where
    go : (b : Bool) → (c == 10) ≡ b → (c == 10) ≡ false
    go true is =
        let f : breaks (encode_utf8 10 ++ encode_utf8_all cs) ≡ false = subst (λ (d : ℕ). breaks (encode_utf8 d ++ encode_utf8_all cs) ≡ false) (eqb-true c 10 is) e in
        absurd (let g = subst (λ (l : List ℕ). breaks (l ++ encode_utf8_all cs) ≡ false) (encode_ascii 10 (omega arith)) f in cc)
    go false is = is

pub name_quiet : (name : List ℕ) → IsUtf8 name → breaks name ≡ false → breaks (chars name) ≡ false
name_quiet name utf8 e = characters_quiet (chars name) (ap breaks (encodes-chars name utf8) ∙ e)

-- ASCII characters other than the line feed
abbrev is_quiet : List ℕ → Bool
is_quiet [] = true
is_quiet (c ∷ cs) = (nat_lt c 128 && not (c == 10)) && is_quiet cs

quiet_ascii : (cs : List ℕ) → is_quiet cs ≡ true → IsAscii cs
quiet_ascii [] e i = omega arith
quiet_ascii (c ∷ cs) e zero = ltb-true c 128 (and_parts (nat_lt c 128) (not (c == 10)) (and_parts (nat_lt c 128 && not (c == 10)) (is_quiet cs) e).0).0
quiet_ascii (c ∷ cs) e (suc i) = quiet_ascii cs (and_parts (nat_lt c 128 && not (c == 10)) (is_quiet cs) e).1 i

quiet_breaks : (cs : List ℕ) → is_quiet cs ≡ true → breaks cs ≡ false
quiet_breaks [] e = refl
quiet_breaks (c ∷ cs) e =
    let both = and_parts (nat_lt c 128 && not (c == 10)) (is_quiet cs) e in
    or_from (c == 10) (breaks cs) (not-true (c == 10) (and_parts (nat_lt c 128) (not (c == 10)) both.0).1) (quiet_breaks cs both.1)

quiet_append : (xs ys : List ℕ) → is_quiet xs ≡ true → is_quiet ys ≡ true → is_quiet (xs ++ ys) ≡ true
quiet_append [] ys e f = f
quiet_append (x ∷ xs) ys e f = let both = and_parts (nat_lt x 128 && not (x == 10)) (is_quiet xs) e in and_from (nat_lt x 128 && not (x == 10)) (is_quiet (xs ++ ys)) both.0 (quiet_append xs ys both.1 f)

digit_quiet : (k : ℕ) → k < 10 → is_quiet ((48 + k) ∷ []) ≡ true
digit_quiet k small = and_from (nat_lt (48 + k) 128 && not (48 + k == 10)) true
    (and_from (nat_lt (48 + k) 128) (not (48 + k == 10)) (lt-ltb (48 + k) 128 (omega arith)) (ap not (ne_eqb (48 + k) 10 (λ e. absurd (omega (arith, e)))))) refl

decimal_quiet : (n : ℕ) → n < 2 ^ 64 → is_quiet (decimal n) ≡ true
decimal_quiet n lt = decimal_by_steps (λ (k : ℕ) (ds : List ℕ). is_quiet ds ≡ true) (λ (k : ℕ) small. digit_quiet k small)
    (λ (k : ℕ) (ds : List ℕ) large before. quiet_append ds ((48 + k % 10) ∷ []) before (digit_quiet (k % 10) (omega arith))) n lt

abbrev is_ascii_text : List ℕ → Bool
is_ascii_text [] = true
is_ascii_text (c ∷ cs) = nat_lt c 128 && is_ascii_text cs

text_ascii : (cs : List ℕ) → is_ascii_text cs ≡ true → IsAscii cs
text_ascii [] e i = omega arith
text_ascii (c ∷ cs) e zero = ltb-true c 128 (and_parts (nat_lt c 128) (is_ascii_text cs) e).0
text_ascii (c ∷ cs) e (suc i) = text_ascii cs (and_parts (nat_lt c 128) (is_ascii_text cs) e).1 i

release_quiet : (r : Release) → r.major < 2 ^ 64 → r.minor < 2 ^ 64 → is_quiet (release_text r) ≡ true
release_quiet r major minor = quiet_append (decimal r.major ++ codes ".") (decimal r.minor) (quiet_append (decimal r.major) (codes ".") (decimal_quiet r.major major) refl) (decimal_quiet r.minor minor)

-- ---- the heading

abbrev first_line : List ℕ
first_line = codes " swift-interface-format-version: 1.0"

abbrev second_line : List ℕ
second_line = codes " swevo-module: "

-- what stands behind the second comment's opening
abbrev ending : Release → List ℕ
ending r = 32 ∷ release_text r

abbrev opening : List ℕ
opening = comment first_line ++ 10 ∷ comment second_line

opening_ascii : IsAscii opening
opening_ascii i = text_ascii opening refl i

quiet_ascii_feed : IsAscii (10 ∷ [])
quiet_ascii_feed zero = omega arith
quiet_ascii_feed (suc i) = omega arith

five : (a b c d e : List ℕ) → a ++ b ++ c ++ d ++ e ≡ a ++ (b ++ ((c ++ d) ++ e))
five a b c d e = simp append_assoc

lines : (a b c d e : List ℕ) → (a ++ b) ++ (c ++ (d ++ e)) ≡ a ++ ((b ++ (c ++ d)) ++ e)
lines a b c d e = simp append_assoc

both_lines : (a b rest : List ℕ) → a ++ (10 ∷ (b ++ 10 ∷ rest)) ≡ ((a ++ 10 ∷ []) ++ (b ++ 10 ∷ [])) ++ rest
both_lines a b rest = simp append_assoc

module _ (name : List ℕ) (r : Release) (utf8 : IsUtf8 name) (feeds : breaks name ≡ false) (major : r.major < 2 ^ 64) (minor : r.minor < 2 ^ 64) where
  end_quiet : is_quiet (ending r) ≡ true
  end_quiet = release_quiet r major minor

  feed_utf8 : IsUtf8 (10 ∷ [])
  feed_utf8 = IsUtf8-from_ascii (10 ∷ []) (quiet_ascii_feed)

  ending_utf8 : IsUtf8 (ending r ++ 10 ∷ [])
  ending_utf8 = IsUtf8-append (ending r) (10 ∷ []) (IsUtf8-from_ascii (ending r) (quiet_ascii (ending r) end_quiet)) feed_utf8

  head_parts : head_text name r ≡ opening ++ (name ++ (ending r ++ 10 ∷ []))
  unfolding head_text
  head_parts = five opening name (codes " ") (release_text r) (codes "\n")

  -- the heading is UTF-8
  pub head_utf8 : IsUtf8 (head_text name r)
  head_utf8 = subst IsUtf8 (sym head_parts) (IsUtf8-append opening (name ++ (ending r ++ 10 ∷ [])) (IsUtf8-from_ascii opening opening_ascii) (IsUtf8-append name (ending r ++ 10 ∷ []) utf8 ending_utf8))

  -- the characters of the second line behind its two slashes
  abbrev second_chars : List ℕ
  second_chars = second_line ++ (chars name ++ ending r)

  ending_chars : chars (ending r ++ 10 ∷ []) ≡ ending r ++ 10 ∷ []
  ending_chars =
      chars-append (ending r) (10 ∷ []) (IsUtf8-from_ascii (ending r) (quiet_ascii (ending r) end_quiet))
      ∙ ap (λ (l : List ℕ). l ++ chars (10 ∷ [])) (chars-IsAscii (ending r) (quiet_ascii (ending r) end_quiet))
      ∙ ap (λ (l : List ℕ). ending r ++ l) (chars-IsAscii (10 ∷ []) quiet_ascii_feed)

  head_chars : chars (head_text name r) ≡ (comment first_line ++ 10 ∷ []) ++ (comment second_chars ++ 10 ∷ [])
  head_chars =
      ap chars head_parts
      ∙ chars-append opening (name ++ (ending r ++ 10 ∷ [])) (IsUtf8-from_ascii opening opening_ascii)
      ∙ ap (λ (l : List ℕ). l ++ chars (name ++ (ending r ++ 10 ∷ []))) (chars-IsAscii opening opening_ascii)
      ∙ ap (λ (l : List ℕ). opening ++ l) (chars-append name (ending r ++ 10 ∷ []) utf8 ∙ ap (λ (l : List ℕ). chars name ++ l) ending_chars)
      ∙ lines (comment first_line ++ 10 ∷ []) (comment second_line) (chars name) (ending r) (10 ∷ [])

  second_quiet : breaks second_chars ≡ false
  second_quiet = breaks_append second_line (chars name ++ ending r) refl (breaks_append (chars name) (ending r) (name_quiet name utf8 feeds) (quiet_breaks (ending r) end_quiet))

  -- the heading is white space: what is cut behind it is cut with it
  pub heading_is_white : (rest : List ℕ) (s : Position) (tokens : List Token) → CutFrom (beyond (chars (head_text name r)) s) rest tokens → CutFrom s (chars (head_text name r) ++ rest) tokens
  heading_is_white rest s tokens cut =
      let first = comment first_line ++ 10 ∷ [] in
      let second = comment second_chars ++ 10 ∷ [] in
      let at_end : CutFrom (beyond second (beyond first s)) rest tokens = subst (λ (p : Position). CutFrom p rest tokens) (ap (λ (l : List ℕ). beyond l s) head_chars ∙ beyond_append first second s) cut in
      let one = comment_cut second_chars rest (beyond first s) tokens second_quiet at_end in
      let two = comment_cut first_line (comment second_chars ++ 10 ∷ rest) s tokens refl one in
      subst (λ (l : List ℕ). CutFrom s l tokens) (both_lines (comment first_line) (comment second_chars) rest ∙ ap (λ (l : List ℕ). l ++ rest) (sym head_chars)) two
