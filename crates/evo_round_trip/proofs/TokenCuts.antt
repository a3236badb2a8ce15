-- The tokens into which written tokens are cut.
use Rattle.std.proofs.Common.{◌≡◌, ℕ, ◌+◌, ◌-◌, ◌≤◌, ◌<◌, Bool, true, false, cond, List, [], ◌∷◌, ◌++◌, take, drop, length, refl, sym, ◌∙◌, ap, subst, append_assoc, le_refl, le_trans, arith}
use Rattle.std.specs.Prelude.{◌||◌, ◌==◌, nat_lt}
use Rattle.std.specs.Str.{chars}
use Rattle.std.proofs.lemmas.Bool.{and_parts, or_parts, lt-ltb, le-ltb}
use Rattle.std.proofs.lemmas.List.{take_at, drop_at, length-append, append-nil}
use Rattle.std.proofs.lemmas.Str.{encodes-chars}
use Rattle.evo_base.specs.declared.place.Place.{Place}
use Rattle.evo_base.specs.declared.token.TokenKind.{TokenKind}
use Rattle.evo_base.specs.declared.token.Token.{Token}
use Rattle.evo_lex.specs.declared.spot.Position.{Position}
use Rattle.evo_lex.specs.declared.front.Front.TheVariants as front
use Rattle.evo_lex.specs.Characters.{is_white}
use Rattle.evo_lex.specs.Front.{front_of, white_of}
use Rattle.evo_lex.specs.Tokenization.{CutFrom, after_char, behind, beyond, token_between}
use Rattle.evo_lex.specs.Tokenization.CutFrom.{ended, white, token}
use Rattle.evo_lex.proofs.Spots.{bytes}
use Rattle.evo_tree.specs.Pieces.{text_of}
use Rattle.evo_round_trip.proofs.Written.{Written, IsToken, Sound, joined, is_blank, is_gap, breaks}
use Rattle.evo_round_trip.proofs.WrittenTexts.{blank_is, gap_chars, gap_bytes, all_chars, ends}
use Rattle.evo_round_trip.proofs.FirstCharacters.{at_front, token_at}
use Rattle.evo_round_trip.proofs.NoFeeds.{no_feed}

-- ---- white space

-- a blank is a front that is white
pub blank_front : (c : ℕ) (rest : List ℕ) → is_blank c ≡ true → front_of (c ∷ rest) ≡ at_front front.White 1
unfolding front_of white_of
blank_front c rest e = let is = blank_is (λ (d : ℕ). is_white d ≡ true) c e refl refl in rw is refl

-- a cut begins with any white space before it
pub gap_cut : (gap rest : List ℕ) (s : Position) (tokens : List Token) → is_gap gap ≡ true → CutFrom (beyond gap s) rest tokens → CutFrom s (gap ++ rest) tokens
gap_cut [] rest s tokens e cut = cut
gap_cut (c ∷ gap) rest s tokens e cut =
    let both = and_parts (is_blank c) (is_gap gap) e in
    white {n = 1} (blank_front c (gap ++ rest) both.0) (gap_cut gap rest (behind c s) tokens both.1 cut)

-- a cut begins with a token before it
token_cut : (k : TokenKind) (cs rest : List ℕ) (s : Position) (tokens : List Token) → front_of (cs ++ rest) ≡ at_front (front.Token k) (length cs) → CutFrom (beyond cs s) rest tokens
    → CutFrom s (cs ++ rest) (token_between k s (beyond cs s) ∷ tokens)
token_cut k cs rest s tokens e cut =
    let front = take_at cs rest (length cs) refl in
    let behind = drop_at cs rest (length cs) refl in
    let on = subst (λ (l : List ℕ). CutFrom (beyond l s) (drop (length cs) (cs ++ rest)) tokens) (sym front) (subst (λ (l : List ℕ). CutFrom (beyond cs s) l tokens) (sym behind) cut) in
    subst (λ (l : List ℕ). CutFrom s (cs ++ rest) (token_between k s (beyond l s) ∷ tokens)) front (token e on)

-- ---- lines

at_line : (c : ℕ) (p : Place) (b : Bool) → (c == 10) ≡ b → (after_char c p).line ≡ cond b (p.line + 1) p.line
at_line c p true e = rw e refl
at_line c p false e = rw e refl

line_step : (c : ℕ) (p : Place) (b : Bool) → (c == 10) ≡ b → p.line ≤ (after_char c p).line
line_step c p true e = let f = at_line c p true e in omega arith
line_step c p false e = let f = at_line c p false e in omega arith

line_least : (cs : List ℕ) (s : Position) → s.place.line ≤ (beyond cs s).place.line
line_least [] s = le_refl s.place.line
line_least (c ∷ cs) s = le_trans (line_step c s.place (c == 10) refl) (line_least cs (behind c s))

-- characters with no line feed stand on one line
pub line_over : (cs : List ℕ) (s : Position) → breaks cs ≡ false → (beyond cs s).place.line ≡ s.place.line
line_over [] s e = refl
line_over (c ∷ cs) s e = let both = or_parts (c == 10) (breaks cs) e in line_over cs (behind c s) both.1 ∙ at_line c s.place false both.0

line_below : (cs : List ℕ) (s : Position) → breaks cs ≡ true → s.place.line < (beyond cs s).place.line
line_below [] s e = absurd cc
line_below (c ∷ cs) s e = go (c == 10) refl e (line_below cs (behind c s))
  where
    go : (b : Bool) → (c == 10) ≡ b → (b || breaks cs) ≡ true → (breaks cs ≡ true → (behind c s).place.line < (beyond cs (behind c s)).place.line) → s.place.line < (beyond cs (behind c s)).place.line
    go true is e rest = let f = at_line c s.place true is in let g = line_least cs (behind c s) in omega arith
    go false is e rest = let f = at_line c s.place false is in let g = rest e in omega arith

-- what stands behind characters is on a later line exactly where a line feed is among them
pub line_is : (cs : List ℕ) (s : Position) → nat_lt s.place.line (beyond cs s).place.line ≡ breaks cs
line_is cs s = go (breaks cs) refl
  where
    go : (b : Bool) → breaks cs ≡ b → nat_lt s.place.line (beyond cs s).place.line ≡ breaks cs
    go true e = lt-ltb s.place.line (beyond cs s).place.line (line_below cs s e) ∙ sym e
    go false e = le-ltb s.place.line (beyond cs s).place.line (let f = line_over cs s e in omega arith) ∙ sym e

-- ---- tokens

-- the token is the written one, which is written behind so many bytes on this line
pub record IsCut (whole : List ℕ) (at line : ℕ) (w : Written) (u : Token) : Type 0 where
  pub kind : u.kind ≡ w.kind
  pub text : text_of whole u ≡ w.text
  pub start : u.start ≡ at + length w.gap
  pub below : nat_lt line u.place.line ≡ breaks w.gap

-- the tokens are the written ones, one behind the other
abbrev pub AreCut : List ℕ → ℕ → ℕ → List Token → List Written → Type 0
AreCut text at line [] [] = Unit {0}
AreCut text at line [] (w ∷ ws) = ⊥
AreCut text at line (u ∷ us) [] = ⊥
AreCut text at line (u ∷ us) (w ∷ ws) = IsCut text at line w u × AreCut text (u.start + u.len) u.place.line us ws

module _ (pre : List ℕ) (w : Written) (ws : List Written) (tail : List ℕ) (is : IsToken w) (s : Position) where
  abbrev at_text : Position
  at_text = beyond w.gap s

  abbrev at_end : Position
  at_end = beyond (chars w.text) at_text

  abbrev the_token : Token
  the_token = token_between w.kind at_text at_end

  text_at : at_text.at ≡ s.at + length w.gap
  text_at = bytes w.gap s ∙ ap (λ (l : List ℕ). s.at + length l) (gap_bytes w.gap is.gap)

  end_at : at_end.at ≡ at_text.at + length w.text
  end_at = bytes (chars w.text) at_text ∙ ap (λ (l : List ℕ). at_text.at + length l) (encodes-chars w.text is.utf8)

  before_text : pre ++ (joined (w ∷ ws) ++ tail) ≡ (pre ++ w.gap) ++ (w.text ++ (joined ws ++ tail))
  before_text = simp append_assoc

  behind_text : pre ++ (joined (w ∷ ws) ++ tail) ≡ (pre ++ (w.gap ++ w.text)) ++ (joined ws ++ tail)
  behind_text = simp append_assoc

  module _ (n : length pre ≡ s.at) where
    its_text : text_of (pre ++ (joined (w ∷ ws) ++ tail)) the_token ≡ w.text
    its_text =
        let rest = w.text ++ (joined ws ++ tail) in
        let long : length (pre ++ w.gap) ≡ at_text.at = let a = length-append pre w.gap in let b = text_at in omega arith in
        let size : length w.text ≡ at_end.at - at_text.at = let a = end_at in omega arith in
        ap (λ (l : List ℕ). take (at_end.at - at_text.at) (drop at_text.at l)) before_text
        ∙ ap (λ (l : List ℕ). take (at_end.at - at_text.at) l) (drop_at (pre ++ w.gap) rest at_text.at long)
        ∙ take_at w.text (joined ws ++ tail) (at_end.at - at_text.at) size

    its_cut : IsCut (pre ++ (joined (w ∷ ws) ++ tail)) s.at s.place.line w the_token
    its_cut = record { kind = refl; text = its_text; start = text_at; below = line_is w.gap s }

    long_behind : length (pre ++ (w.gap ++ w.text)) ≡ at_end.at
    long_behind = let a = length-append pre (w.gap ++ w.text) in let b = length-append w.gap w.text in let c = text_at in let d = end_at in omega arith

    on : (us : List Token) → breaks (chars w.text) ≡ false → AreCut ((pre ++ (w.gap ++ w.text)) ++ (joined ws ++ tail)) at_end.at at_end.place.line us ws
        → AreCut (pre ++ (joined (w ∷ ws) ++ tail)) s.at s.place.line (the_token ∷ us) (w ∷ ws)
    on us quiet rest =
        let whole = subst (λ (l : List ℕ). AreCut l at_end.at at_end.place.line us ws) (sym behind_text) rest in
        let end : at_end.at ≡ the_token.start + the_token.len = let a = end_at in omega arith in
        let line : at_end.place.line ≡ the_token.place.line = line_over (chars w.text) at_text quiet in
        let there = subst (λ (n : ℕ). AreCut (pre ++ (joined (w ∷ ws) ++ tail)) n at_end.place.line us ws) end whole in
        (its_cut, subst (λ (n : ℕ). AreCut (pre ++ (joined (w ∷ ws) ++ tail)) (the_token.start + the_token.len) n us ws) line there)

-- written tokens are cut as they are written
pub tokens_cut : (ws : List Written) → Sound ws → (tail : List ℕ) → is_gap tail ≡ true → (s : Position)
    → (tokens : List Token) × CutFrom s (chars (joined ws ++ tail)) tokens × ((pre : List ℕ) → length pre ≡ s.at → AreCut (pre ++ (joined ws ++ tail)) s.at s.place.line tokens ws)
tokens_cut [] sound tail e s =
    let cut = gap_cut tail [] s [] e ended in
    ([], subst (λ (cs : List ℕ). CutFrom s cs []) (append-nil tail ∙ sym (gap_chars tail e)) cut, λ pre n. tt)
tokens_cut (w ∷ ws) sound tail e s =
    let is = sound.0 in
    let text = beyond w.gap s in
    let rest = chars (joined ws ++ tail) in
    let more = tokens_cut ws sound.2 tail e (beyond (chars w.text) text) in
    let front = is.front rest (ends w ws tail sound.1 sound.2 e) in
    let cut = gap_cut w.gap (chars w.text ++ rest) s (token_between w.kind text (beyond (chars w.text) text) ∷ more.0) is.gap (token_cut w.kind (chars w.text) rest text more.0 front more.1) in
    let quiet = no_feed (chars w.text ++ rest) w.kind (length (chars w.text)) (token_at (chars w.text ++ rest) w.kind (length (chars w.text)) front).first in
    let quiet' = subst (λ (cs : List ℕ). breaks cs ≡ false) (take_at (chars w.text) rest (length (chars w.text)) refl) quiet in (
      token_between w.kind text (beyond (chars w.text) text) ∷ more.0,
      subst (λ (cs : List ℕ). CutFrom s cs (token_between w.kind text (beyond (chars w.text) text) ∷ more.0)) (sym (all_chars w ws tail is)) cut,
      λ pre n. on pre w ws tail is s n more.0 quiet' (more.2 (pre ++ (w.gap ++ w.text)) (long_behind pre w ws tail is s n)),
    )
