-- The first of a list that passes a test.
use Rattle.std.proofs.Common.{◌≡◌, List, [], ◌∷◌, ◌++◌, map, filter, Bool, true, false, ◌&&◌, Some, None, if◌then◌else◌, refl}
use Rattle.std.specs.Option.{option_or}
use Rattle.evo_names.specs.Heads.{first_some, first_that}

pub first_append : {A : Type 0} (p : A → Bool) (xs ys : List A) → first_that p (xs ++ ys) ≡ option_or (first_that p xs) (first_that p ys)
first_append p [] ys = refl
first_append p (x ∷ xs) ys = by (p x) (first_append p xs ys)
  where
    by : (b : Bool) → first_that p (xs ++ ys) ≡ option_or (first_that p xs) (first_that p ys) → (if b then Some x else first_that p (xs ++ ys)) ≡ option_or (if b then Some x else first_that p xs) (first_that p ys)
    by true e = refl
    by false e = e

-- of a part of a list
pub first_filter : {A : Type 0} (p q r : A → Bool) → ((x : A) → (q x && p x) ≡ r x) → (xs : List A) → first_that p (filter q xs) ≡ first_that r xs
first_filter p q r same [] = refl
first_filter p q r same (x ∷ xs) = by (q x) (p x) refl (same x) (first_filter p q r same xs)
  where
    by : (b c : Bool) → p x ≡ c → (b && c) ≡ r x → first_that p (filter q xs) ≡ first_that r xs → first_that p (if b then x ∷ filter q xs else filter q xs) ≡ (if r x then Some x else first_that r xs)
    by true true at is e = rw (at, ← is) refl
    by true false at is e = rw (at, ← is) e
    by false c at is e = rw (← is) e

-- where nothing passes
pub first_none : {A : Type 0} (p : A → Bool) → ((x : A) → p x ≡ false) → (xs : List A) → first_that p xs ≡ None
first_none p none [] = refl
first_none p none (x ∷ xs) = let here = none x in rw here (first_none p none xs)

pub first_map : {A B : Type 0} (p : B → Bool) (f : A → B) (xs : List A) → first_that p (map f xs) ≡ first_some (λ x. if p (f x) then Some (f x) else None) xs
first_map p f [] = refl
first_map p f (x ∷ xs) = by (p (f x)) (first_map p f xs)
  where
    by : (b : Bool) → first_that p (map f xs) ≡ first_some (λ x. if p (f x) then Some (f x) else None) xs → (if b then Some (f x) else first_that p (map f xs)) ≡ option_or (if b then Some (f x) else None) (first_some (λ x. if p (f x) then Some (f x) else None) xs)
    by true e = refl
    by false e = e
