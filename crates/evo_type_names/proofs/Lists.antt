-- What is left of a list.
use Rattle.std.proofs.Common.{◌≡◌, ℕ, zero, suc, ◌+◌, ◌<◌, ◌≤◌, ◌⊎◌, inl, inr, List, [], ◌∷◌, drop, get_or, slice_get, Some, Bool, true, false, length, refl, sym, ap, subst, ◌∙◌, arith}

pub drop_next : {A : Type 0} (xs : List A) (i : ℕ) (d : A) → i < length xs → drop i xs ≡ get_or xs i d ∷ drop (i + 1) xs
drop_next [] i d lt = absurd (omega (arith, lt))
drop_next (x ∷ xs) zero d lt = refl
drop_next (x ∷ xs) (suc i) d lt =
    let less : i < length xs = omega arith in
    let e : suc i + 1 ≡ suc (i + 1) = omega arith in
    drop_next xs i d less ∙ ap (λ k. get_or xs i d ∷ drop k (x ∷ xs)) (same e)
  where
    same : {a b : ℕ} → a ≡ b → b ≡ a
    same e = cc

pub drop_none : {A : Type 0} (xs : List A) (i : ℕ) → length xs ≤ i → drop i xs ≡ []
drop_none [] zero le = refl
drop_none [] (suc i) le = refl
drop_none (x ∷ xs) zero le = absurd (omega (arith, le))
drop_none (x ∷ xs) (suc i) le = let less : length xs ≤ i = omega arith in drop_none xs i less

-- ---- what none of a list has

pub at_item : {A : Type 0} (xs : List A) (i : ℕ) (x : A) → i < length xs → x ≡ get_or xs i x → slice_get xs i ≡ Some x
at_item [] i x lt e = absurd (omega arith)
at_item (y ∷ ys) zero x lt e = ap (λ z. Some z) (sym e)
at_item (y ∷ ys) (suc i) x lt e = at_item ys i x (omega arith) e

pub at_within : {A : Type 0} (xs : List A) (i : ℕ) (x : A) → slice_get xs i ≡ Some x → i < length xs
at_within [] i x e = absurd cc
at_within (y ∷ ys) zero x e = omega arith
at_within (y ∷ ys) (suc i) x e = let lt = at_within ys i x e in omega (arith, lt)

-- none of the first so many has it
abbrev pub NoneBefore : {A : Type 0} → (A → Type 0) → List A → ℕ → Type 0
NoneBefore {A} P xs n = (j : ℕ) (x : A) → j < n → slice_get xs j ≡ Some x → P x → ⊥

pub none_at_start : {A : Type 0} (P : A → Type 0) (xs : List A) → NoneBefore P xs 0
none_at_start P xs j x lt at p = absurd (omega (arith, lt))

pub less_or_same : (j n : ℕ) → j < n + 1 → (j < n) ⊎ (j ≡ n)
less_or_same zero zero lt = inr refl
less_or_same zero (suc n) lt = inl (omega arith)
less_or_same (suc j) zero lt = absurd (omega (arith, lt))
less_or_same (suc j) (suc n) lt = by (less_or_same j n (omega (arith, lt)))
  where
    by : (j < n) ⊎ (j ≡ n) → (suc j < suc n) ⊎ (suc j ≡ suc n)
    by (inl l) = inl (omega (arith, l))
    by (inr e) = inr (ap suc e)

some_same : {A : Type 0} {x y : A} → Some x ≡ Some y → x ≡ y
some_same e = cc

pub none_next : {A : Type 0} (P : A → Type 0) (xs : List A) (n : ℕ) (x : A) → slice_get xs n ≡ Some x → (P x → ⊥) → NoneBefore P xs n → NoneBefore P xs (n + 1)
none_next P xs n x at out none j y lt here p = by (less_or_same j n lt)
  where
    by : (j < n) ⊎ (j ≡ n) → ⊥
    by (inl l) = none j y l here p
    by (inr e) = out (subst P (some_same (sym here ∙ ap (slice_get xs) e ∙ at)) p)

pub none_in_all : {A : Type 0} (P : A → Type 0) (xs : List A) (n : ℕ) → length xs ≤ n → NoneBefore P xs n → (j : ℕ) (x : A) → slice_get xs j ≡ Some x → P x → ⊥
none_in_all P xs n past none j x at p = let lt = at_within xs j x at in none j x (omega (arith, lt, past)) at p

pub not_both : (b : Bool) → b ≡ false → b ≡ true → ⊥
not_both b e f = absurd cc
