-- No token has a line feed.
use Rattle.std.proofs.Common.{◌≡◌, ℕ, zero, suc, ◌+◌, Bool, true, false, cond, List, [], ◌∷◌, ◌++◌, take, drop, get_or, Option, Some, None, refl, sym, ◌∙◌, ap, subst, arith}
use Rattle.std.specs.Prelude.{◌&&◌, ◌||◌, ◌==◌, slice_index, nat_lt, nat_le, not, ◌^◌}
use Rattle.std.specs.List.{prefix_len}
use Rattle.std.specs.Option.{option_and_then}
use Rattle.std.proofs.lemmas.Bool.{eqb-true, false_from_ne_true, or_from, or_parts, and_parts}
use Rattle.std.proofs.lemmas.List.{get_or-drop}
use Rattle.unicode_ident.specs.Ident.{is_xid_continue}
use Rattle.unicode_ident.proofs.IdentLemmas.{is_xid_continue-ascii}
use Rattle.evo_base.specs.declared.token.TokenKind.{TokenKind}
use Rattle.evo_lex.specs.declared.class.Base.{Base}
use Rattle.evo_lex.specs.declared.class.Base.TheVariants as base
use Rattle.evo_lex.specs.declared.class.Class.{Class}
use Rattle.evo_lex.specs.declared.class.Class.TheVariants as class
use Rattle.evo_lex.specs.Characters.{begins_identifier, is_operator, is_digit, is_of, run_of, value_of}
use Rattle.evo_lex.specs.Front.{when, starts, run_behind, is_number, base_of, prefix_of, digits_of, integer_of, is_escape, is_scalar, is_scalar_text, escape_of, string_from, string_of, begins_comment, operator_run, operator_of, is_operator_word, mark_of}
use Rattle.evo_round_trip.proofs.Written.{breaks}
use Rattle.evo_round_trip.proofs.FirstCharacters.{First, other_from}
use Rattle.evo_round_trip.proofs.FirstCharacters.First.{word, integer, string, operator, mark}

-- a character that passes a test is no line feed, where that does not
not_feed : (p : ℕ → Bool) → p 10 ≡ false → (c : ℕ) → p c ≡ true → (c == 10) ≡ false
not_feed p without c passes = false_from_ne_true (c == 10) (λ e. absurd (let f = subst (λ (d : ℕ). p d ≡ true) (eqb-true c 10 e) passes in cc))

pub take_nil : (n : ℕ) → take n (let none : List ℕ = [] in none) ≡ []
take_nil zero = refl
take_nil (suc n) = refl

pub take_one : (n c : ℕ) (cs : List ℕ) → take (1 + n) (c ∷ cs) ≡ c ∷ take n cs
take_one n c cs = let e : 1 + n ≡ suc n = omega arith in ap (λ (k : ℕ). take k (c ∷ cs)) e

-- a list begins with so many, and then so many
take_two : (a b : ℕ) (cs : List ℕ) → take (a + b) cs ≡ take a cs ++ take b (drop a cs)
take_two zero b cs = let e : 0 + b ≡ b = omega arith in ap (λ (k : ℕ). take k cs) e
take_two (suc a) b [] = take_nil (suc a + b) ∙ sym (take_nil b)
take_two (suc a) b (c ∷ cs) = let e : suc a + b ≡ suc (a + b) = omega arith in ap (λ (k : ℕ). take k (c ∷ cs)) e ∙ ap (λ (l : List ℕ). c ∷ l) (take_two a b cs)

pub breaks_append : (xs ys : List ℕ) → breaks xs ≡ false → breaks ys ≡ false → breaks (xs ++ ys) ≡ false
breaks_append [] ys e f = f
breaks_append (x ∷ xs) ys e f = let both = or_parts (x == 10) (breaks xs) e in or_from (x == 10) (breaks (xs ++ ys)) both.0 (breaks_append xs ys both.1 f)

one_more : (n c : ℕ) (cs : List ℕ) → (c == 10) ≡ false → breaks (take n cs) ≡ false → breaks (take (1 + n) (c ∷ cs)) ≡ false
one_more n c cs e f = ap breaks (take_one n c cs) ∙ or_from (c == 10) (breaks (take n cs)) e f

-- a run of characters that pass a test
run_quiet : (p : ℕ → Bool) → p 10 ≡ false → (cs : List ℕ) → breaks (take (prefix_len p cs) cs) ≡ false
run_quiet p without [] = refl
run_quiet p without (c ∷ cs) = go (run_quiet p without cs) (p c) refl
  where
    go : breaks (take (prefix_len p cs) cs) ≡ false → (b : Bool) → p c ≡ b → breaks (take (cond b (1 + prefix_len p cs) 0) (c ∷ cs)) ≡ false
    go rest true e = one_more (prefix_len p cs) c cs (not_feed p without c e) rest
    go rest false e = refl

behind_quiet : (k : Class) → is_of k 10 ≡ false → (text : List ℕ) → (slice_index text 0 == 10) ≡ false → breaks (take (run_behind k text) text) ≡ false
behind_quiet k without [] e = ap breaks (take_nil (run_behind k []))
behind_quiet k without (c ∷ cs) e = one_more (run_of k cs) c cs e (run_quiet (is_of k) without cs)

pub when_some : (b : Bool) (a n : ℕ) → when b a ≡ Some n → (b ≡ true) × (a ≡ n)
when_some true a n e = (refl, cc)
when_some false a n e = absurd cc

-- ---- integers

spaced_feed : (b : Base) → is_of (class.Spaced b) 10 ≡ false
spaced_feed base.Binary = refl
spaced_feed base.Octal = refl
spaced_feed base.Decimal = refl
spaced_feed base.Hexadecimal = refl

digit_feed : (b : Base) → is_digit b 10 ≡ false
digit_feed base.Binary = refl
digit_feed base.Octal = refl
digit_feed base.Decimal = refl
digit_feed base.Hexadecimal = refl

-- two characters that are none
starts_quiet : (a b : ℕ) → (a == 10) ≡ false → (b == 10) ≡ false → (text : List ℕ) → starts a b text ≡ true → breaks (take 2 text) ≡ false
starts_quiet a b ea eb [] s = refl
starts_quiet a b ea eb (c ∷ []) s =
    let both = and_parts (c == a) (slice_index (c ∷ []) 1 == b) s in
    or_from (c == 10) false (ap (λ (d : ℕ). d == 10) (eqb-true c a both.0) ∙ ea) refl
starts_quiet a b ea eb (c ∷ d ∷ text) s =
    let both = and_parts (c == a) (d == b) s in
    or_from (c == 10) (d == 10 || false) (ap (λ (x : ℕ). x == 10) (eqb-true c a both.0) ∙ ea) (or_from (d == 10) false (ap (λ (x : ℕ). x == 10) (eqb-true d b both.1) ∙ eb) refl)

prefix_quiet : (text : List ℕ) → breaks (take (prefix_of (base_of text)) text) ≡ false
prefix_quiet text = go (starts 48 120 text) refl (starts 48 111 text) refl (starts 48 98 text) refl
  where
    go : (a : Bool) → starts 48 120 text ≡ a → (b : Bool) → starts 48 111 text ≡ b → (c : Bool) → starts 48 98 text ≡ c
        → breaks (take (prefix_of (cond a base.Hexadecimal (cond b base.Octal (cond c base.Binary base.Decimal)))) text) ≡ false
    go true ea b eb c ec = starts_quiet 48 120 refl refl text ea
    go false ea true eb c ec = starts_quiet 48 111 refl refl text eb
    go false ea false eb true ec = starts_quiet 48 98 refl refl text ec
    go false ea false eb false ec = refl

digits_quiet : (b : Base) (text more : List ℕ) (n : ℕ) → more ≡ drop (prefix_of b) text → breaks (take (prefix_of b) text) ≡ false → digits_of b more ≡ Some n → breaks (take n text) ≡ false
digits_quiet b text more n more-is p e =
    let is = when_some (is_number b (run_behind (class.Spaced b) more) more) (prefix_of b + run_behind (class.Spaced b) more) n e in
    let m = run_behind (class.Spaced b) more in
    let small = nat_le (value_of b (take m more)) (2 ^ 63) in
    let digit = (and_parts (is_digit b (slice_index more 0)) small (and_parts (is_digit b (slice_index more 0) && small) (not (is_xid_continue (slice_index more m))) is.0).0).0 in
    let quiet = behind_quiet (class.Spaced b) (spaced_feed b) more (not_feed (is_digit b) (digit_feed b) (slice_index more 0) digit) in
    let quiet' : breaks (take (run_behind (class.Spaced b) more) (drop (prefix_of b) text)) ≡ false = subst (λ (l : List ℕ). breaks (take (run_behind (class.Spaced b) more) l) ≡ false) more-is quiet in
    ap (λ (k : ℕ). breaks (take k text)) (sym is.1) ∙ ap breaks (take_two (prefix_of b) (run_behind (class.Spaced b) more) text) ∙ breaks_append (take (prefix_of b) text) _ p quiet'

integer_quiet : (text : List ℕ) (n : ℕ) → integer_of text ≡ Some n → breaks (take n text) ≡ false
unfolding integer_of
integer_quiet text n e = digits_quiet (base_of text) text (drop (prefix_of (base_of text)) text) n refl (prefix_quiet text) e

-- ---- strings

scalar_quiet : (r : ℕ) (rest : List ℕ) → breaks (take r rest) ≡ false → is_scalar_text r rest ≡ true → breaks (take (r + 1) rest) ≡ false
scalar_quiet r rest quiet e =
    let many = nat_lt 0 r && nat_le r 8 in
    let value = is_scalar (value_of base.Hexadecimal (take r rest)) in
    let ends : (slice_index rest r == 125) ≡ true = (and_parts many (slice_index rest r == 125) (and_parts (many && slice_index rest r == 125) value e).0).1 in
    let at : get_or (drop r rest) 0 0 ≡ 125 = get_or-drop r rest 0 0 ∙ (let f : r + 0 ≡ r = omega arith in ap (λ (k : ℕ). get_or rest k 0) f) ∙ eqb-true (slice_index rest r) 125 ends in
    ap breaks (take_two r 1 rest) ∙ breaks_append (take r rest) (take 1 (drop r rest)) quiet (last (drop r rest) at)
  where
    last : (l : List ℕ) → get_or l 0 0 ≡ 125 → breaks (take 1 l) ≡ false
    last [] is = refl
    last (x ∷ l) is = or_from (x == 10) false (ap (λ (d : ℕ). d == 10) is) refl

-- an escape
escape_quiet : (text : List ℕ) (n : ℕ) → escape_of text ≡ Some n → breaks (take n text) ≡ false
unfolding escape_of
escape_quiet [] n e = ap breaks (take_nil n)
escape_quiet (c ∷ []) n e = go (is_escape c) refl e
  where
    go : (a : Bool) → is_escape c ≡ a → cond a (Some 1) (cond (starts 117 123 (c ∷ [])) (when (is_scalar_text 0 []) 3) None) ≡ Some n → breaks (take n (c ∷ [])) ≡ false
    go true ea e = ap (λ (k : ℕ). breaks (take k (c ∷ []))) (sym (when_some true 1 n e).1) ∙ or_from (c == 10) false (not_feed is_escape refl c ea) refl
    go false ea e = absurd (none (c == 117) e)
      where
        none : (b : Bool) → cond (b && false) (when (is_scalar_text 0 []) 3) None ≡ Some n → ⊥
        none true e = absurd cc
        none false e = absurd cc
escape_quiet (c ∷ d ∷ rest) n e = go (is_escape c) refl (starts 117 123 (c ∷ d ∷ rest)) refl e
  where
    go : (a : Bool) → is_escape c ≡ a → (b : Bool) → starts 117 123 (c ∷ d ∷ rest) ≡ b
        → cond a (Some 1) (cond b (when (is_scalar_text (run_of (class.Digits base.Hexadecimal) rest) rest) (run_of (class.Digits base.Hexadecimal) rest + 3)) None) ≡ Some n → breaks (take n (c ∷ d ∷ rest)) ≡ false
    go true ea b eb e = ap (λ (k : ℕ). breaks (take k (c ∷ d ∷ rest))) (sym (when_some true 1 n e).1) ∙ or_from (c == 10) false (not_feed is_escape refl c ea) refl
    go false ea true eb e =
        let r = run_of (class.Digits base.Hexadecimal) rest in
        let is = when_some (is_scalar_text r rest) (r + 3) n e in
        let quiet = scalar_quiet r rest (run_quiet (is_of (class.Digits base.Hexadecimal)) refl rest) is.0 in
        let long : n ≡ 2 + (r + 1) = let f = is.1 in omega arith in
        ap (λ (k : ℕ). breaks (take k (c ∷ d ∷ rest))) long ∙ ap breaks (take_two 2 (r + 1) (c ∷ d ∷ rest)) ∙ breaks_append (c ∷ d ∷ []) (take (r + 1) rest) (starts_quiet 117 123 refl refl (c ∷ d ∷ rest) eb) quiet
    go false ea false eb e = absurd cc

-- of a text behind so many characters, no character has a line feed up to this one
abbrev QuietTo : List ℕ → ℕ → ℕ → Type 0
QuietTo text k m = (j : ℕ) × (m ≡ k + j) × (breaks (take j text) ≡ false)

string_quiet : (text : List ℕ) (k skip m : ℕ) → breaks (take skip text) ≡ false → string_from k skip text ≡ Some m → QuietTo text k m
string_quiet [] k skip m quiet e = absurd cc
string_quiet (c ∷ text) k (suc skip) m quiet e =
    let both = or_parts (c == 10) (breaks (take skip text)) quiet in
    let rest = string_quiet text (k + 1) skip m both.1 e in
    let f = rest.1 in
    (1 + rest.0, omega arith, one_more rest.0 c text both.0 rest.2)
string_quiet (c ∷ text) k zero m quiet e =
    go (λ s q f. string_quiet text (k + 1) s m q f) (c == 34) refl (c == 10) refl (c == 92) refl e
  where
    more : (c == 10) ≡ false → QuietTo text (k + 1) m → QuietTo (c ∷ text) k m
    more eb rest = let f = rest.1 in (1 + rest.0, omega arith, one_more rest.0 c text eb rest.2)

    escaped : (o : Option ℕ) → escape_of text ≡ o → ((s : ℕ) → breaks (take s text) ≡ false → string_from (k + 1) s text ≡ Some m → QuietTo text (k + 1) m) → option_and_then (λ j. string_from (k + 1) j text) o ≡ Some m → QuietTo text (k + 1) m
    escaped None eo rest e = absurd cc
    escaped (Some s) eo rest e = rest s (escape_quiet text s eo) e

    go : ((s : ℕ) → breaks (take s text) ≡ false → string_from (k + 1) s text ≡ Some m → QuietTo text (k + 1) m) → (a : Bool) → (c == 34) ≡ a → (b : Bool) → (c == 10) ≡ b → (d : Bool) → (c == 92) ≡ d
        → cond a (Some (k + 1)) (cond b None (cond d (option_and_then (λ j. string_from (k + 1) j text) (escape_of text)) (string_from (k + 1) 0 text))) ≡ Some m
        → QuietTo (c ∷ text) k m
    go rest true ea b eb d ed e = (1, sym (when_some true (k + 1) m e).1, or_from (c == 10) false (ap (λ (x : ℕ). x == 10) (eqb-true c 34 ea)) refl)
    go rest false ea true eb d ed e = absurd cc
    go rest false ea false eb true ed e = more eb (escaped (escape_of text) refl rest e)
    go rest false ea false eb false ed e = more eb (rest 0 refl e)

quoted_quiet : (text : List ℕ) (n : ℕ) → (slice_index text 0 == 34) ≡ true → string_of text ≡ Some n → breaks (take n text) ≡ false
unfolding string_of
quoted_quiet [] n q e = ap breaks (take_nil n)
quoted_quiet (c ∷ text) n q e = go (slice_index (c ∷ text) 1 == 34 && slice_index (c ∷ text) 2 == 34) e
  where
    go : (b : Bool) → cond b None (string_from 1 0 text) ≡ Some n → breaks (take n (c ∷ text)) ≡ false
    go true e = absurd cc
    go false e =
        let rest = string_quiet text 1 0 n refl e in
        ap (λ (k : ℕ). breaks (take k (c ∷ text))) rest.1 ∙ one_more rest.0 c text (ap (λ (x : ℕ). x == 10) (eqb-true c 34 q)) rest.2

-- ---- operators and marks

operators_quiet : (text : List ℕ) → breaks (take (operator_run text) text) ≡ false
operators_quiet [] = refl
operators_quiet (c ∷ text) = go (operators_quiet text) (is_operator c && not (begins_comment (c ∷ text))) refl
  where
    go : breaks (take (operator_run text) text) ≡ false → (b : Bool) → (is_operator c && not (begins_comment (c ∷ text))) ≡ b → breaks (take (cond b (1 + operator_run text) 0) (c ∷ text)) ≡ false
    go rest true e = one_more (operator_run text) c text (not_feed is_operator refl c (and_parts (is_operator c) (not (begins_comment (c ∷ text))) e).0) rest
    go rest false e = refl

operator_quiet : (text : List ℕ) (n : ℕ) → operator_of text ≡ Some n → breaks (take n text) ≡ false
unfolding operator_of
operator_quiet text n e = ap (λ (k : ℕ). breaks (take k text)) (sym (when_some (is_operator_word (take (operator_run text) text)) (operator_run text) n e).1) ∙ operators_quiet text

mark_quiet : (text : List ℕ) (k : TokenKind) → mark_of (slice_index text 0) ≡ Some k → breaks (take 1 text) ≡ false
mark_quiet [] k e = refl
mark_quiet (c ∷ text) k e = or_from (c == 10) false (false_from_ne_true (c == 10) (λ f. absurd (let g = subst (λ (x : ℕ). mark_of x ≡ Some k) (eqb-true c 10 f) e in cc))) refl

-- ---- any token

begins_feed : begins_identifier 10 ≡ false
begins_feed = (other_from 10 (omega arith) refl).begins

goes_on_feed : is_xid_continue 10 ≡ false
goes_on_feed = is_xid_continue-ascii 10 (omega arith)

-- a token has no line feed
pub no_feed : (text : List ℕ) (k : TokenKind) (n : ℕ) → First text k n → breaks (take n text) ≡ false
no_feed text k n (word b e l) = ap (λ (m : ℕ). breaks (take m text)) (sym l) ∙ behind_quiet class.Continuing goes_on_feed text (not_feed begins_identifier begins_feed (slice_index text 0) b)
no_feed text k n (integer d e i) = integer_quiet text n i
no_feed text k n (string q e s) = quoted_quiet text n q s
no_feed text k n (operator o e s) = operator_quiet text n s
no_feed text k n (mark m l) = ap (λ (j : ℕ). breaks (take j text)) (sym l) ∙ mark_quiet text k m
