-- What stands at a place of a list.
use Rattle.std.proofs.Common.{◌≡◌, ℕ, zero, suc, ◌<◌, List, [], ◌∷◌, ◌++◌, length, take, Some, slice_get, ◌⊎◌, inl, inr, refl, ap, arith}

pub at_front : {A : Type 0} (xs ys : List A) (i : ℕ) (x : A) → slice_get xs i ≡ Some x → slice_get (xs ++ ys) i ≡ Some x
at_front [] ys i x e = absurd (cc e)
at_front (z ∷ zs) ys zero x e = e
at_front (z ∷ zs) ys (suc i) x e = at_front zs ys i x e

pub at_end : {A : Type 0} (xs : List A) (x : A) → slice_get (xs ++ x ∷ []) (length xs) ≡ Some x
at_end [] x = refl
at_end (z ∷ zs) x = at_end zs x

pub at_last : {A : Type 0} (xs : List A) (x y : A) (i : ℕ) → slice_get (xs ++ x ∷ []) i ≡ Some y → (slice_get xs i ≡ Some y) ⊎ ((i ≡ length xs) × (x ≡ y))
at_last [] x y zero e = inr (refl, cc e)
at_last [] x y (suc i) e = absurd (cc e)
at_last (z ∷ zs) x y zero e = inl e
at_last (z ∷ zs) x y (suc i) e = elim (at_last zs x y i e) [ inl a ↦ inl a | inr b ↦ inr (ap suc b.0, b.1) ]

pub take_at : {A : Type 0} (xs : List A) (i : ℕ) (x : A) → slice_get xs i ≡ Some x → take (suc i) xs ≡ take i xs ++ x ∷ []
take_at [] i x e = absurd (cc e)
take_at (z ∷ zs) zero x e = ap (λ y. y ∷ []) (cc e)
take_at (z ∷ zs) (suc i) x e = ap (λ l. z ∷ l) (take_at zs i x e)

pub take_all : {A : Type 0} (xs : List A) → take (length xs) xs ≡ xs
take_all [] = refl
take_all (z ∷ zs) = ap (λ l. z ∷ l) (take_all zs)

pub below_length : {A : Type 0} (xs : List A) (i : ℕ) (x : A) → slice_get xs i ≡ Some x → i < length xs
below_length [] i x e = absurd (cc e)
below_length (y ∷ ys) zero x e = omega arith
below_length (y ∷ ys) (suc i) x e = let l = below_length ys i x e in omega arith

pub at_place : {A : Type 0} (xs : List A) (i : ℕ) → i < length xs → (x : A) × (slice_get xs i ≡ Some x)
at_place [] i inside = absurd (omega arith)
at_place (x ∷ xs) zero inside = (x, refl)
at_place (x ∷ xs) (suc i) inside = at_place xs i (omega arith)
