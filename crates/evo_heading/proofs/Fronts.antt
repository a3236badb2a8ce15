-- What is taken off the front of a text.
use Rattle.std.proofs.Common.{◌≡◌, ℕ, ◌+◌, Bool, true, false, List, [], ◌∷◌, ◌++◌, take, drop, length, Option, Some, None, Bor, refl, sym, ◌∙◌, ap, subst, inl, inr, ◌⊎◌, arith}
use Rattle.std.specs.Option.{MatchOption}
use Rattle.std.specs.List.{prefix_len}
use Rattle.std.specs.Str.{bytes_eq}
use Rattle.std.proofs.lemmas.Slice.Eq.{bytes_eq-Decides}
use Rattle.std.proofs.lemmas.Bool.{cases_lt}
use Rattle.std.proofs.lemmas.List.{take-append-drop, take_at, drop_at, append_cancel_left}
use Rattle.std.proofs.lemmas.List.Sums.{prefix_len-drop_no, prefix_len-drop_all, prefix_len_stops}
use Rattle.evo_lex.proofs.Bytes.{unequal}
use Rattle.evo_tree.specs.Modules.{IsLineEnd}
use Rattle.evo_heading.specs.Heading.{Rest, IsEnded, IsOpened}

-- ---- a front that is known

-- a front that was taken off
pub stripped : (front text rest : List ℕ) → bytes_eq (take (length front) text) front ≡ true → rest ≡ drop (length front) text → text ≡ front ++ rest
stripped front text rest is e =
    let front-is = (bytes_eq-Decides (take (length front) text) front).0 is in
    sym (take-append-drop (length front) text) ∙ ap (λ (l : List ℕ). l ++ drop (length front) text) front-is ∙ ap (λ (l : List ℕ). front ++ l) (sym e)

-- a front that is not there
pub not_stripped : (front text rest : List ℕ) → bytes_eq (take (length front) text) front ≡ false → text ≡ front ++ rest → ⊥
not_stripped front text rest differ e = unequal (take (length front) text) front differ (ap (λ (l : List ℕ). take (length front) l) e ∙ take_at front rest (length front) refl)

-- what `strip_prefix` answers
pub strip : (front text : List ℕ) (r : Option (Bor (List ℕ)))
    → MatchOption r (bytes_eq (take (length front) text) front ≡ false) (λ x. (bytes_eq (take (length front) text) front ≡ true) × (x.now ≡ drop (length front) text) × (length x.now + length front ≡ length text))
    → Rest (λ rest. text ≡ front ++ rest) r
strip front text None differ = λ rest e. not_stripped front text rest differ e
strip front text (Some x) is = stripped front text x.now is.0 is.1

-- ---- the front that passes a test

module _ (p : ℕ → Bool) where
  -- each byte passes
  abbrev pub Pass : List ℕ → Type 0
  Pass [] = Unit {0}
  Pass (x ∷ xs) = (p x ≡ true) × Pass xs

  pub pass-append : (xs ys : List ℕ) → Pass xs → Pass ys → Pass (xs ++ ys)
  pass-append [] ys all more = more
  pass-append (x ∷ xs) ys all more = (all.0, pass-append xs ys all.1 more)

  -- bytes that pass are the front before those that don't
  front_len : (xs ys : List ℕ) → Pass xs → prefix_len p ys ≡ 0 → prefix_len p (xs ++ ys) ≡ length xs
  front_len [] ys all none = none
  front_len (x ∷ xs) ys all none = rw all.0 (let r = front_len xs ys all.1 none in omega arith)

  stops : (xs : List ℕ) → prefix_len p (drop (prefix_len p xs) xs) ≡ 0
  stops xs = elim (cases_lt (prefix_len p xs) (length xs)) [
    | inl lt ↦ prefix_len-drop_no p xs (prefix_len p xs) 0 lt (prefix_len_stops p xs 0 lt)
    | inr le ↦ prefix_len-drop_all p xs (prefix_len p xs) le
  ]

  -- a text is cut behind all that passes
  module _ (text front rest : List ℕ) (n : ℕ) (n-is : n ≡ prefix_len p text) (front-is : front ≡ take n text) (rest-is : rest ≡ drop n text) where
    pub whole_is : text ≡ front ++ rest
    whole_is = sym (ap (λ (l : List ℕ). l ++ rest) front-is ∙ ap (λ (l : List ℕ). take n text ++ l) rest-is ∙ take-append-drop n text)

    pub rest_stops : prefix_len p rest ≡ 0
    rest_stops = subst (λ (l : List ℕ). prefix_len p l ≡ 0) (sym (rest-is ∙ ap (λ (k : ℕ). drop k text) n-is)) (stops text)

    module _ (xs ys : List ℕ) (all : Pass xs) (none : prefix_len p ys ≡ 0) (e : text ≡ xs ++ ys) where
      ends : n ≡ length xs
      ends = n-is ∙ ap (prefix_len p) e ∙ front_len xs ys all none

      pub front_is : front ≡ xs
      front_is = front-is ∙ ap (λ (k : ℕ). take k text) ends ∙ ap (λ (l : List ℕ). take (length xs) l) e ∙ take_at xs ys (length xs) refl

      pub rest_is : rest ≡ ys
      rest_is = rest-is ∙ ap (λ (k : ℕ). drop k text) ends ∙ ap (λ (l : List ℕ). drop (length xs) l) e ∙ drop_at xs ys (length xs) refl

  -- a text is cut so in one way
  pub cut_once : (xs ys us vs : List ℕ) → Pass xs → prefix_len p ys ≡ 0 → Pass us → prefix_len p vs ≡ 0 → xs ++ ys ≡ us ++ vs → (xs ≡ us) × (ys ≡ vs)
  cut_once xs ys us vs all none all' none' e =
      let n : length xs ≡ length us = sym (front_len xs ys all none) ∙ ap (prefix_len p) e ∙ front_len us vs all' none' in
      let front : xs ≡ us = sym (take_at xs ys (length xs) refl) ∙ ap (λ (k : ℕ). take k (xs ++ ys)) n ∙ ap (λ (l : List ℕ). take (length us) l) e ∙ take_at us vs (length us) refl in
      let rest : ys ≡ vs = sym (drop_at xs ys (length xs) refl) ∙ ap (λ (k : ℕ). drop k (xs ++ ys)) n ∙ ap (λ (l : List ℕ). drop (length us) l) e ∙ drop_at us vs (length us) refl in
      (front, rest)

-- ---- lines' ends

pub line_feed : (text rest : List ℕ) → text ≡ (10 ∷ []) ++ rest → IsEnded text rest
line_feed text rest e = record { end = 10 ∷ []; ends = inl refl; whole = e }

-- which of the two ends it is
which : (text end rest : List ℕ) → IsLineEnd end → text ≡ end ++ rest → (text ≡ 10 ∷ rest) ⊎ (text ≡ 13 ∷ 10 ∷ rest)
which text end rest (inl is) e = inl (e ∙ ap (λ (l : List ℕ). l ++ rest) is)
which text end rest (inr is) e = inr (e ∙ ap (λ (l : List ℕ). l ++ rest) is)

which_end : (text rest : List ℕ) → IsEnded text rest → (text ≡ 10 ∷ rest) ⊎ (text ≡ 13 ∷ 10 ∷ rest)
which_end text rest is = which text is.end rest is.ends is.whole

no_end : (text : List ℕ) → ((rest : List ℕ) → text ≡ (10 ∷ []) ++ rest → ⊥) → ((rest : List ℕ) → text ≡ (13 ∷ 10 ∷ []) ++ rest → ⊥) → (rest : List ℕ) → (text ≡ 10 ∷ rest) ⊎ (text ≡ 13 ∷ 10 ∷ rest) → ⊥
no_end text feed return rest (inl e) = feed rest e
no_end text feed return rest (inr e) = return rest e

-- the end of a line that does not begin with a line feed
pub line_end : (text : List ℕ) (r : Option (Bor (List ℕ))) → ((rest : List ℕ) → text ≡ (10 ∷ []) ++ rest → ⊥) → Rest (λ rest. text ≡ (13 ∷ 10 ∷ []) ++ rest) r → Rest (IsEnded text) r
line_end text None feed return = λ rest is. no_end text feed return rest (which_end text rest is)
line_end text (Some x) feed e = record { end = 13 ∷ 10 ∷ []; ends = inr refl; whole = e }

same_rest : (text r s : List ℕ) → (text ≡ 10 ∷ r) ⊎ (text ≡ 13 ∷ 10 ∷ r) → (text ≡ 10 ∷ s) ⊎ (text ≡ 13 ∷ 10 ∷ s) → r ≡ s
same_rest text r s (inl e) (inl f) = cc
same_rest text r s (inl e) (inr f) = cc
same_rest text r s (inr e) (inl f) = cc
same_rest text r s (inr e) (inr f) = cc

-- one rest stands behind a line's end
pub ended_once : (text r s : List ℕ) → IsEnded text r → IsEnded text s → r ≡ s
ended_once text r s of_r of_s = same_rest text r s (which_end text r of_r) (which_end text s of_s)

-- ---- the first line, and the words that begin the second

module _ (line words text : List ℕ) where
  pub behind_line : (a rest : List ℕ) → text ≡ line ++ a → IsOpened line words text rest → IsEnded a (words ++ rest)
  behind_line a rest e is = subst (λ (l : List ℕ). IsEnded l (words ++ rest)) (append_cancel_left line is.behind a (sym is.whole ∙ e)) is.ended

  pub opened : (a b : List ℕ) → text ≡ line ++ a → IsEnded a b → (r : Option (Bor (List ℕ))) → Rest (λ rest. b ≡ words ++ rest) r → Rest (IsOpened line words text) r
  opened a b e is None none = λ rest opens. none rest (ended_once a b (words ++ rest) is (behind_line a rest e opens))
  opened a b e is (Some x) second = record { behind = a; whole = e; ended = subst (IsEnded a) second is }

  pub opened_once : (r s : List ℕ) → IsOpened line words text r → IsOpened line words text s → r ≡ s
  opened_once r s of_r of_s = append_cancel_left words r s (ended_once of_s.behind (words ++ r) (words ++ s) (behind_line of_s.behind r of_s.whole of_r) of_s.ended)
