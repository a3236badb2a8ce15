-- What an answer of code says of a judgement, a step at a time. Code that walks as the judgement does needs no equation of its walk.
use Rattle.std.proofs.Common.{List, [], ◌∷◌, ◌++◌, Result, Ok, Err, inl, inr}
use Rattle.evo_judging.specs.Judge.{Judge, follows, EachOf, each}
use Rattle.evo_judging.specs.Right.{Judged}
use Rattle.evo_judging.proofs.Judges.{here_fails, later_fails}

-- an answer for the items that are left, behind what is found
abbrev pub behind : {F A : Type 0} → List A → Result (List A) F → Result (List A) F
behind found (Ok rest) = Ok (found ++ rest)
behind found (Err f) = Err f

-- one more item, and what it is found to be
pub one_further : {X A : Type 0} (H : X → A → Type 0) (x : X) (a : A) (done : List X) (found : List A) → EachOf H done found → H x a → EachOf H (done ++ x ∷ []) (found ++ a ∷ [])
one_further H x a [] [] h k = (k, tt)
one_further H x a [] (b ∷ found) h k = absurd h
one_further H x a (y ∷ done) [] h k = absurd h
one_further H x a (y ∷ done) (b ∷ found) h k = (h.0, one_further H x a done found h.1 k)

module _ {I O F : Type 0} (N : I → F → Type 0) where
  -- a fault of what is looked at first is one of the whole
  pub first_fault : {A B : Type 0} (J : Judge I O F A) (K : A → Judge I O F B) (f : F) → Judged N J (Err f) → Judged N (follows J K) (Err f)
  first_fault J K f (inl n) = inl (inl n)
  first_fault J K f (inr n) = inr (n.0, inl n.1, n.2)

  item_fault : {X A : Type 0} (K : X → Judge I O F A) (x : X) (xs : List X) (f : F) → Judged N (each K xs) (Err f) → Judged N (each K (x ∷ xs)) (Err f)
  item_fault K x xs f n = later_fails N (λ o. Unit {0}) K x xs f n

  -- what answers the items that are left answers all of them
  pub rest_judged : {X A : Type 0} (K : X → Judge I O F A) (done rest : List X) (found : List A) (r : Result (List A) F) → EachOf (λ x. (K x).holds) done found → Judged N (each K rest) r → Judged N (each K (done ++ rest)) (behind found r)
  rest_judged K [] rest [] (Ok as') h g = g
  rest_judged K [] rest [] (Err f) h g = g
  rest_judged K [] rest (a ∷ found) r h g = absurd h
  rest_judged K (x ∷ done) rest [] r h g = absurd h
  rest_judged K (x ∷ done) rest (a ∷ found) (Ok as') h g = (h.0, rest_judged K done rest found (Ok as') h.1 g)
  rest_judged K (x ∷ done) rest (a ∷ found) (Err f) h g = item_fault K x (done ++ rest) f (rest_judged K done rest found (Err f) h.1 g)

  -- an item that is at fault
  pub at_fault : {X A : Type 0} (K : X → Judge I O F A) (x : X) (xs : List X) (f : F) → Judged N (K x) (Err f) → Judged N (each K (x ∷ xs)) (Err f)
  at_fault K x xs f n = here_fails N (λ o. Unit {0}) K x xs f n
