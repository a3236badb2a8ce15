-- What the pieces of any text have: names are names, and no two signs stand directly behind each other.
use Rattle.std.proofs.Common.{◌≡◌, ℕ, zero, suc, ◌+◌, ◌<◌, ◌≤◌, Bool, true, false, cond, List, [], ◌∷◌, ◌++◌, take, drop, length, Option, Some, None, refl, sym, ◌∙◌, ap, subst, inl, inr, ◌⊎◌, arith}
use Rattle.std.specs.Prelude.{◌&&◌, ◌||◌, ◌==◌, slice_index}
use Rattle.std.specs.Char.{encode_utf8}
use Rattle.std.specs.Str.{encode_utf8_all}
use Rattle.std.proofs.lemmas.Bool.{and_parts, or_cases, false_from_ne_true, lt-ltb}
use Rattle.std.proofs.lemmas.List.{take-append-drop}
use Rattle.std.proofs.lemmas.Str.{encodes_same, encodes-chars, scalars-chars, len_utf8_bounds}
use lib.Utf8.{scalars}
use Rattle.evo_base.specs.declared.token.TokenKind.{TokenKind}
use Rattle.evo_base.specs.declared.token.TokenKind.TheVariants as kind
use Rattle.evo_base.specs.declared.token.Token.{Token}
use Rattle.evo_combinators.specs.Laws.{first}
use Rattle.evo_lex.specs.declared.spot.Position.{Position}
use Rattle.evo_lex.specs.declared.class.Class.TheVariants as class
use Rattle.evo_lex.specs.declared.front.Front.{Front}
use Rattle.evo_lex.specs.declared.front.Front.TheVariants as front
use Rattle.evo_lex.specs.Characters.{is_white, is_operator, run_of}
use Rattle.evo_lex.specs.Front.{front_of, white_of, white_or, first_of, starts, comment_from, operator_run, operator_of, is_operator_word}
use Rattle.evo_lex.specs.Tokenization.{Tokenization, CutFrom, behind, beyond, token_between}
use Rattle.evo_lex.specs.Tokenization.CutFrom.{ended, white, token}
use Rattle.evo_lex.specs.Sides.{is_apart, is_closing, is_separator, white_left, white_right}
use Rattle.evo_lex.proofs.Spots.{forward}
use Rattle.evo_tree.specs.declared.terminal.Terminal.{Terminal}
use Rattle.evo_tree.specs.declared.terminal.Role.{Role}
use Rattle.evo_tree.specs.Terminals.{terminal_of, number_of}
use Rattle.evo_tree.specs.Pieces.{piece, pieces, pieces_from, text_of, role_number, is_integer_kind}
use Rattle.evo_round_trip.proofs.Matching.{IsName, IsGenuine, FromText, Parted, Unnumbered, is_sign, is_attached}
use Rattle.evo_round_trip.proofs.UnnumberedPieces.{no_integer}
use Rattle.evo_round_trip.proofs.FirstCharacters.{at_front, token_at, operator_is}
use Rattle.evo_round_trip.proofs.NoFeeds.{when_some}
use Rattle.evo_round_trip.proofs.SideRoles.{role_with}
use Rattle.evo_round_trip.proofs.TerminalTexts.{minus_text, not_text, self_text, name_kind}
use Rattle.evo_round_trip.proofs.GenuineNames.{token_text, text_on, at_on, scalars_drop, name_is}

-- ---- white space has characters

comment_long : (text : List ℕ) (n depth m : ℕ) → comment_from n depth text ≡ Some m → n ≤ m
comment_long [] n depth m e = absurd cc
comment_long (c ∷ []) n depth m e = absurd cc
comment_long (c ∷ d ∷ text) n zero m e = go (comment_long text (n + 2) 1 m) (comment_long (d ∷ text) (n + 1) 0 m) (c == 42 && d == 47) (c == 47 && d == 42) e
  where
    go : (comment_from (n + 2) 1 text ≡ Some m → n + 2 ≤ m) → (comment_from (n + 1) 0 (d ∷ text) ≡ Some m → n + 1 ≤ m) → (a b : Bool)
        → cond a (Some (n + 2)) (cond b (comment_from (n + 2) 1 text) (comment_from (n + 1) 0 (d ∷ text))) ≡ Some m → n ≤ m
    go two one true b e = let f = (when_some true (n + 2) m e).1 in omega arith
    go two one false true e = let f = two e in omega arith
    go two one false false e = let f = one e in omega arith
comment_long (c ∷ d ∷ text) n (suc depth) m e = go (comment_long text (n + 2) depth m) (comment_long text (n + 2) (suc (suc depth)) m) (comment_long (d ∷ text) (n + 1) (suc depth) m) (c == 42 && d == 47) (c == 47 && d == 42) e
  where
    go : (comment_from (n + 2) depth text ≡ Some m → n + 2 ≤ m) → (comment_from (n + 2) (suc (suc depth)) text ≡ Some m → n + 2 ≤ m) → (comment_from (n + 1) (suc depth) (d ∷ text) ≡ Some m → n + 1 ≤ m) → (a b : Bool)
        → cond a (comment_from (n + 2) depth text) (cond b (comment_from (n + 2) (suc (suc depth)) text) (comment_from (n + 1) (suc depth) (d ∷ text))) ≡ Some m → n ≤ m
    go up two one true b e = let f = up e in omega arith
    go up two one false true e = let f = two e in omega arith
    go up two one false false e = let f = one e in omega arith

white_size : (text : List ℕ) (n : ℕ) → white_of text ≡ Some n → 0 < n
unfolding white_of
white_size text n e = go (is_white (slice_index text 0)) (starts 47 47 text) (starts 47 42 text) e
  where
    go : (a b c : Bool) → cond a (Some 1) (cond b (Some (2 + run_of class.OfLine (drop 2 text))) (cond c (comment_from 2 0 (drop 2 text)) None)) ≡ Some n → 0 < n
    go true b c e = let f = (when_some true 1 n e).1 in omega arith
    go false true c e = let f = (when_some true (2 + run_of class.OfLine (drop 2 text)) n e).1 in omega arith
    go false false true e = let f = comment_long (drop 2 text) 2 0 n e in omega arith
    go false false false e = absurd cc

abbrev of_white : Front → ℕ → Option ℕ
of_white front.White n = Some n
of_white (front.Token k) n = None

abbrev white_part : Option (Front × ℕ) → Option ℕ
white_part None = None
white_part (Some p) = of_white p.0 p.1

white_front : (blank : Option ℕ) (other : Option (TokenKind × ℕ)) (n : ℕ) → white_or blank other ≡ at_front front.White n → blank ≡ Some n
white_front (Some m) other n e = ap white_part e
white_front None None n e = absurd cc
white_front None (Some (k, m)) n e = absurd (let f = ap white_part e in cc)

-- a spot behind white space is a later one
white_moves : (text : List ℕ) (n : ℕ) (s : Position) → front_of text ≡ at_front front.White n → s.at < (beyond (take n text) s).at
unfolding front_of
white_moves [] n s e = absurd cc
white_moves (c ∷ text) zero s e = absurd (let f = white_size (c ∷ text) zero (white_front (white_of (c ∷ text)) (first_of (c ∷ text)) zero e) in omega arith)
white_moves (c ∷ text) (suc n) s e = let one = (len_utf8_bounds c).0 in let on = forward (take n text) (behind c s) in omega arith

-- ---- what a cut begins with

-- the first token stands later, or right here
abbrev Begins : Position → List ℕ → List Token → Type 0
Begins s cs [] = Unit {0}
Begins s cs (u ∷ us) = (s.at < u.start) ⊎ ((n : ℕ) × (front_of cs ≡ at_front (front.Token u.kind) n) × (u ≡ token_between u.kind s (beyond (take n cs) s)))

later : (s s' : Position) (cs cs' : List ℕ) (us : List Token) → s.at < s'.at → Begins s' cs' us → Begins s cs us
later s s' cs cs' [] lt b = tt
later s s' cs cs' (u ∷ us) lt (inl more) = inl (omega arith)
later s s' cs cs' (u ∷ us) lt (inr here) = inl (let e = ap (λ (v : Token). v.start) here.2 in omega arith)

begins : {s : Position} {cs : List ℕ} {us : List Token} → CutFrom s cs us → Begins s cs us
begins ended = tt
begins {s} {cs} (white {n} {tokens} e rest) = later s (beyond (take n cs) s) cs (drop n cs) tokens (white_moves cs n s e) (begins rest)
begins (token {n} e rest) = inr (n, e, refl)

-- ---- signs

abbrev IsSign : ℕ → Type 0
IsSign c = (c ≡ 45) ⊎ (c ≡ 33)

one_char : (cs : List ℕ) (c : ℕ) → encode_utf8_all cs ≡ encode_utf8_all (c ∷ []) → cs ≡ c ∷ []
one_char cs c e = encodes_same cs (c ∷ []) e

-- two signs are longer than one
two_signs : (a b n : ℕ) (rest : List ℕ) → IsSign a → IsSign b → operator_run (a ∷ b ∷ rest) ≡ n → take n (a ∷ b ∷ rest) ≡ a ∷ [] → ⊥
two_signs a b n rest sa sb run front = short n (long sa sb run) front
  where
    runs : (a b : ℕ) → operator_run (a ∷ b ∷ rest) ≡ 1 + (1 + operator_run rest) → operator_run (a ∷ b ∷ rest) ≡ n → 2 ≤ n
    runs a b e run = omega arith

    long : IsSign a → IsSign b → operator_run (a ∷ b ∷ rest) ≡ n → 2 ≤ n
    long (inl ea) (inl eb) run = runs 45 45 refl (ap (λ (x : ℕ). operator_run (x ∷ 45 ∷ rest)) (sym ea) ∙ ap (λ (x : ℕ). operator_run (a ∷ x ∷ rest)) (sym eb) ∙ run)
    long (inl ea) (inr eb) run = runs 45 33 refl (ap (λ (x : ℕ). operator_run (x ∷ 33 ∷ rest)) (sym ea) ∙ ap (λ (x : ℕ). operator_run (a ∷ x ∷ rest)) (sym eb) ∙ run)
    long (inr ea) (inl eb) run = runs 33 45 refl (ap (λ (x : ℕ). operator_run (x ∷ 45 ∷ rest)) (sym ea) ∙ ap (λ (x : ℕ). operator_run (a ∷ x ∷ rest)) (sym eb) ∙ run)
    long (inr ea) (inr eb) run = runs 33 33 refl (ap (λ (x : ℕ). operator_run (x ∷ 33 ∷ rest)) (sym ea) ∙ ap (λ (x : ℕ). operator_run (a ∷ x ∷ rest)) (sym eb) ∙ run)

    short : (m : ℕ) → 2 ≤ m → take m (a ∷ b ∷ rest) ≡ a ∷ [] → ⊥
    short zero le e = absurd (omega arith)
    short (suc zero) le e = absurd (omega arith)
    short (suc (suc m)) le e = absurd cc

sign_operator : (c : ℕ) → IsSign c → is_operator c ≡ true
sign_operator c (inl e) = ap is_operator e
sign_operator c (inr e) = ap is_operator e

operator_length : (text : List ℕ) (n : ℕ) → operator_of text ≡ Some n → operator_run text ≡ n
unfolding operator_of
operator_length text n e = (when_some (is_operator_word (take (operator_run text) text)) (operator_run text) n e).1

-- a sign at the front of a text, and one at the front of what is behind it: they would be one operator
no_two : (cs : List ℕ) (k : TokenKind) (n m a b : ℕ) → front_of cs ≡ at_front (front.Token k) n → take n cs ≡ a ∷ [] → take m (drop n cs) ≡ b ∷ [] → IsSign a → IsSign b → ⊥
no_two cs k n m a b e one two sa sb =
    let rest = drop m (drop n cs) in
    let parts : a ∷ b ∷ rest ≡ cs = ap (λ (l : List ℕ). a ∷ (l ++ rest)) (sym two) ∙ ap (λ (l : List ℕ). a ∷ l) (take-append-drop m (drop n cs)) ∙ ap (λ (l : List ℕ). l ++ drop n cs) (sym one) ∙ take-append-drop n cs in
    let begins : is_operator (slice_index cs 0) ≡ true = subst (λ (l : List ℕ). is_operator (slice_index l 0) ≡ true) parts (sign_operator a sa) in
    let run = operator_length cs n (operator_is cs k n begins (token_at cs k n e).first).1 in
    two_signs a b n rest sa sb (ap operator_run parts ∙ run) (ap (take n) parts ∙ one)

-- the text of a sign
sign_text : (k : TokenKind) (text : List ℕ) → ((number_of (terminal_of k text) == 40) || (number_of (terminal_of k text) == 57)) ≡ true → (c : ℕ) × (IsSign c) × (text ≡ encode_utf8_all (c ∷ []))
unfolding encode_utf8
sign_text k text e = elim (or_cases (number_of (terminal_of k text) == 40) (number_of (terminal_of k text) == 57) e) [
  | inl m ↦ (45, inl refl, minus_text k text m)
  | inr x ↦ (33, inr refl, not_text k text x)
]

-- a sign directly before its operand has no white space on its right
abbrev is_direct : Role → Bool
is_direct r = role_number r == 1 || role_number r == 2

direct_right : (left right : Bool) (k : Terminal) (integer : Bool) → is_direct (role_with left right k integer) ≡ true → right ≡ false
direct_right left false k i e = refl
direct_right true true k i e = absurd cc
direct_right false true k i e = absurd cc

apart_no : (a b c : Bool) → (a || b || c) ≡ false → a ≡ true → ⊥
apart_no true b c e f = absurd cc
apart_no false b c e f = absurd cc

-- nothing stands between a sign that is attached and the next token
not_apart : (text : List ℕ) (before : Option Token) (u next : Token) → is_attached (piece text before u (Some next)) ≡ true → u.start + u.len < next.start → ⊥
not_apart text before u next e lt =
    let p = piece text before u (Some next) in
    let direct = (and_parts (is_sign p) (is_direct p.role) e).1 in
    let right = direct_right (white_left before u) (white_right u (Some next)) p.terminal (is_integer_kind next.kind) direct in
    apart_no (is_apart u next) (is_closing next.kind) (is_separator next.kind) right (lt-ltb (u.start + u.len) next.start lt)

module _ (text : List ℕ) where
  is_genuine : (before behind : Option Token) (u : Token) (cs : List ℕ) (n : ℕ) → scalars cs ≡ true → front_of cs ≡ at_front (front.Token u.kind) n → text_of text u ≡ encode_utf8_all (take n cs) → IsGenuine (piece text before u behind)
  is_genuine before behind u cs n s e same = record {
    name = λ i.
        let k = name_kind u.kind (text_of text u) (ap (λ (x : Terminal). number_of x == 0) i) in
        let front = subst (λ (j : TokenKind). front_of cs ≡ at_front (front.Token j) n) k e in
        subst IsName (sym same) (name_is cs n s (token_at cs kind.Identifier n front).first);
    self_type = λ i. self_text u.kind (text_of text u) (ap (λ (x : Terminal). number_of x == 26) i);
  }

  parted : (pre cs : List ℕ) (s : Position) (n : ℕ) (k : TokenKind) (before : Option Token) (us : List Token) → text ≡ pre ++ encode_utf8_all cs → length pre ≡ s.at → front_of cs ≡ at_front (front.Token k) n
      → Begins (beyond (take n cs) s) (drop n cs) us
      → Parted (piece text before (token_between k s (beyond (take n cs) s)) (first us)) (pieces_from text (Some (token_between k s (beyond (take n cs) s))) us)
  parted pre cs s n k before [] whole at e b = tt
  parted pre cs s n k before (v ∷ us) whole at e (inl lt) = λ attached.
      let u = token_between k s (beyond (take n cs) s) in
      let on = forward (take n cs) s in
      absurd (not_apart text before u v attached (omega arith))
  parted pre cs s n k before (v ∷ us) whole at e (inr here) = λ attached.
      let u = token_between k s (beyond (take n cs) s) in
      let p = piece text before u (Some v) in
      let q = piece text (Some u) v (first us) in
      let its = sign_text k (text_of text u) (and_parts (is_sign p) (is_direct p.role) attached).0 in
      let one = one_char (take n cs) its.0 (sym (token_text text pre cs s n k whole at) ∙ its.2) in
      let next : text_of text v ≡ encode_utf8_all (take here.0 (drop n cs)) =
      ap (text_of text) here.2 ∙ token_text text (pre ++ encode_utf8_all (take n cs)) (drop n cs) (beyond (take n cs) s) here.0 v.kind (text_on text pre cs n whole) (at_on pre cs s n at) in
      false_from_ne_true (is_sign q) (λ sign.
      let other = sign_text v.kind (text_of text v) sign in
      let two = one_char (take here.0 (drop n cs)) other.0 (sym next ∙ other.2) in
      no_two cs k n here.0 its.0 other.0 e one two its.1 other.1)

  unnumbered : (before : Option Token) (u : Token) (us : List Token) → Unnumbered (piece text before u (first us)) (pieces_from text (Some u) us)
  unnumbered before u [] = tt
  unnumbered before u (v ∷ us) = no_integer text before (first us) u v

  genuine_from : {s : Position} {cs : List ℕ} {us : List Token} → CutFrom s cs us → (pre : List ℕ) (before : Option Token) → text ≡ pre ++ encode_utf8_all cs → length pre ≡ s.at → scalars cs ≡ true → FromText (pieces_from text before us)
  genuine_from ended pre before whole at ok = tt
  genuine_from {s} {cs} (white {n} e rest) pre before whole at ok = genuine_from rest (pre ++ encode_utf8_all (take n cs)) before (text_on text pre cs n whole) (at_on pre cs s n at) (scalars_drop n cs ok)
  genuine_from {s} {cs} (token {n} {k} {tokens} e rest) pre before whole at ok =
      let u = token_between k s (beyond (take n cs) s) in (
        is_genuine before (first tokens) u cs n ok e (token_text text pre cs s n k whole at),
        (parted pre cs s n k before tokens whole at e (begins rest), unnumbered before u tokens),
        genuine_from rest (pre ++ encode_utf8_all (take n cs)) (Some u) (text_on text pre cs n whole) (at_on pre cs s n at) (scalars_drop n cs ok),
      )

-- the pieces of any text that is cut
pub genuine : (text : List ℕ) (tokens : List Token) → Tokenization text tokens → FromText (pieces text tokens)
genuine text tokens is = genuine_from text is.cut [] None (sym (encodes-chars text is.utf8)) refl (scalars-chars text is.utf8)
