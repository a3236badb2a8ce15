-- A loop's next item, and distinct names that are put into a table one by one.
use Rattle.std.proofs.Common.{◌≡◌, ℕ, zero, suc, ◌+◌, ◌<◌, Bool, true, false, List, [], ◌∷◌, ◌++◌, length, drop, get_or, Option, Some, None, refl, sym, ap, ◌∙◌, subst, append_assoc, add-one, drop-cons, arith}
use Rattle.std.specs.Prelude.{IsSome, slice_get}
use Rattle.evo_base.specs.Names.{position_of, AreDistinct, Inserts}
use Rattle.evo_base.proofs.Names.{slice_get-position_of, position_of-within}

-- a loop's next item
pub cut : {A : Type 0} (xs : List A) (i : ℕ) (x : A) → i < length xs → x ≡ get_or xs i x → drop i xs ≡ x ∷ drop (i + 1) xs
cut xs i x lt is =
    let first : drop i xs ≡ get_or xs i x ∷ drop (i + 1) xs = rw add-one (drop-cons xs i x lt) in
    first ∙ ap (λ y. y ∷ drop (i + 1) xs) (sym is)

get-front : (xs ys : List (List ℕ)) (i : ℕ) (x : List ℕ) → slice_get xs i ≡ Some x → slice_get (xs ++ ys) i ≡ Some x
get-front [] ys i x e = absurd cc
get-front (y ∷ xs) ys zero x e = e
get-front (y ∷ xs) ys (suc i) x e = get-front xs ys i x e

get-next : (xs ys : List (List ℕ)) (x : List ℕ) → slice_get (xs ++ x ∷ ys) (length xs) ≡ Some x
get-next [] ys x = refl
get-next (y ∷ xs) ys x = get-next xs ys x

-- a name that is there and stands again is there twice
pub not_distinct : (before : List (List ℕ)) (name : List ℕ) (rest : List (List ℕ)) → IsSome (position_of name before) → AreDistinct (before ++ name ∷ rest) → ⊥
not_distinct before name rest some distinct = at (position_of name before) refl some
  where
    at : (p : Option ℕ) → position_of name before ≡ p → IsSome p → ⊥
    at None e h = absurd cc
    at (Some i) e h =
        let here = get-front before (name ∷ rest) i name (slice_get-position_of name before i e) in
        let same : i ≡ length before = distinct i (length before) name here (get-next before rest name) in
        let lt : i < length before = position_of-within name before i e in
        absurd (omega arith)

-- the next of distinct names is new
pub inserted : (all old new : List (List ℕ)) (name : List ℕ) (rest : List (List ℕ)) (added : Bool) → AreDistinct all → all ≡ old ++ name ∷ rest → Inserts old new name added → all ≡ new ++ rest
inserted all old new name rest true distinct e h = e ∙ sym (append_assoc old (name ∷ []) rest) ∙ ap (λ (l : List (List ℕ)). l ++ rest) (sym h.1)
inserted all old new name rest false distinct e h = absurd (not_distinct old name rest h.0 (subst AreDistinct e distinct))
