-- Where an item of joined lists stands.
use Rattle.std.proofs.Common.{◌≡◌, ℕ, zero, suc, ◌+◌, ◌<◌, ◌≤◌, List, [], ◌∷◌, ◌++◌, length, flat_map, Option, Some, None, slice_get, refl, sym, ap, subst, ◌∙◌, ◌⊎◌, inl, inr, arith}
use Rattle.evo_names.specs.Listed.{list_of}
use Rattle.evo_names.specs.Faults.{Before}

-- ---- two lists

pub below : {A : Type 0} (xs : List A) (n : ℕ) (y : A) → slice_get xs n ≡ Some y → n < length xs
below [] n y e = absurd cc
below (x ∷ xs) zero y e = omega arith
below (x ∷ xs) (suc n) y e = let r : n < length xs = below xs n y e in omega arith

pub at_left : {A : Type 0} (xs ys : List A) (n : ℕ) (y : A) → slice_get xs n ≡ Some y → slice_get (xs ++ ys) n ≡ Some y
at_left [] ys n y e = absurd cc
at_left (x ∷ xs) ys zero y e = e
at_left (x ∷ xs) ys (suc n) y e = at_left xs ys n y e

pub at_right : {A : Type 0} (xs ys : List A) (n : ℕ) (y : A) → slice_get ys n ≡ Some y → slice_get (xs ++ ys) (length xs + n) ≡ Some y
at_right [] ys n y e = let z : 0 + n ≡ n = omega arith in subst (λ m. slice_get ys m ≡ Some y) (sym z) e
at_right (x ∷ xs) ys n y e = let z : suc (length xs) + n ≡ suc (length xs + n) = omega arith in subst (λ m. slice_get (x ∷ (xs ++ ys)) m ≡ Some y) (sym z) (at_right xs ys n y e)

pub record Behind {A : Type 0} (xs ys : List A) (n : ℕ) (y : A) : Type 0 where
  pub number : ℕ
  pub there : slice_get ys number ≡ Some y
  pub sum : n ≡ length xs + number

next_behind : {A : Type 0} (x : A) (xs ys : List A) (n : ℕ) (y : A) → (slice_get xs n ≡ Some y) ⊎ Behind xs ys n y → (slice_get (x ∷ xs) (suc n) ≡ Some y) ⊎ Behind (x ∷ xs) ys (suc n) y
next_behind x xs ys n y (inl h) = inl h
next_behind x xs ys n y (inr b) = let s = b.sum in inr (record { number = b.number; there = b.there; sum = omega arith })

pub split : {A : Type 0} (xs ys : List A) (n : ℕ) (y : A) → slice_get (xs ++ ys) n ≡ Some y → (slice_get xs n ≡ Some y) ⊎ Behind xs ys n y
split [] ys n y e = inr (record { number = n; there = e; sum = omega arith })
split (x ∷ xs) ys zero y e = inl e
split (x ∷ xs) ys (suc n) y e = next_behind x xs ys n y (split xs ys n y e)

-- ---- joined lists

-- where the part of this number begins
abbrev pub start : {A B : Type 0} → (A → List B) → List A → ℕ → ℕ
start f xs zero = 0
start f [] (suc d) = 0
start f (x ∷ xs) (suc d) = length (f x) + start f xs d

pub record Spread {A B : Type 0} (f : A → List B) (xs : List A) (n : ℕ) (y : B) : Type 0 where
  pub outer : ℕ
  pub inner : ℕ
  pub item : A
  pub at : slice_get xs outer ≡ Some item
  pub here : slice_get (f item) inner ≡ Some y
  pub sum : n ≡ start f xs outer + inner

spread_by : {A B : Type 0} (f : A → List B) (x : A) (xs : List A) (n : ℕ) (y : B) → ((m : ℕ) → slice_get (flat_map f xs) m ≡ Some y → Spread f xs m y) → (slice_get (f x) n ≡ Some y) ⊎ Behind (f x) (flat_map f xs) n y → Spread f (x ∷ xs) n y
spread_by f x xs n y rest (inl h) = record { outer = 0; inner = n; item = x; at = refl; here = h; sum = omega arith }
spread_by f x xs n y rest (inr b) =
    let r = rest b.number b.there in
    let one : n ≡ length (f x) + b.number = b.sum in
    let two : b.number ≡ start f xs r.outer + r.inner = r.sum in
    record { outer = suc r.outer; inner = r.inner; item = r.item; at = r.at; here = r.here; sum = omega arith }

pub spread : {A B : Type 0} (f : A → List B) (xs : List A) (n : ℕ) (y : B) → slice_get (flat_map f xs) n ≡ Some y → Spread f xs n y
spread f [] n y e = absurd cc
spread f (x ∷ xs) n y e = spread_by f x xs n y (λ m g. spread f xs m y g) (split (f x) (flat_map f xs) n y e)

pub gather : {A B : Type 0} (f : A → List B) (xs : List A) (d : ℕ) (x : A) (i : ℕ) (y : B) → slice_get xs d ≡ Some x → slice_get (f x) i ≡ Some y → slice_get (flat_map f xs) (start f xs d + i) ≡ Some y
gather f [] d x i y at here = absurd cc
gather f (z ∷ zs) zero x i y at here =
    let same : z ≡ x = cc in
    let e : 0 + i ≡ i = omega arith in
    subst (λ m. slice_get (f z ++ flat_map f zs) m ≡ Some y) (sym e) (at_left (f z) (flat_map f zs) i y (ap (λ v. slice_get (f v) i) same ∙ here))
gather f (z ∷ zs) (suc d) x i y at here =
    let e : length (f z) + start f zs d + i ≡ length (f z) + (start f zs d + i) = omega arith in
    subst (λ m. slice_get (f z ++ flat_map f zs) m ≡ Some y) (sym e) (at_right (f z) (flat_map f zs) (start f zs d + i) y (gather f zs d x i y at here))

-- a part ends before a later one begins
pub ordered : {A B : Type 0} (f : A → List B) (xs : List A) (d e : ℕ) (x : A) → d < e → slice_get xs d ≡ Some x → start f xs d + length (f x) ≤ start f xs e
ordered f [] d e x less at = absurd cc
ordered f (z ∷ zs) d zero x less at = absurd (omega arith)
ordered f (z ∷ zs) zero (suc e) x less at =
    let same : z ≡ x = cc in
    let l : length (f z) ≡ length (f x) = ap (λ v. length (f v)) same in
    omega arith
ordered f (z ∷ zs) (suc d) (suc e) x less at =
    let r : start f zs d + length (f x) ≤ start f zs e = ordered f zs d e x (omega arith) at in
    omega arith

compare_next : (d e : ℕ) → (d < e) ⊎ ((d ≡ e) ⊎ (e < d)) → (suc d < suc e) ⊎ ((suc d ≡ suc e) ⊎ (suc e < suc d))
compare_next d e (inl l) = inl (omega arith)
compare_next d e (inr (inl s)) = inr (inl (ap suc s))
compare_next d e (inr (inr g)) = inr (inr (omega arith))

compare : (d e : ℕ) → (d < e) ⊎ ((d ≡ e) ⊎ (e < d))
compare zero zero = inr (inl refl)
compare zero (suc e) = inl (omega arith)
compare (suc d) zero = inr (inr (omega arith))
compare (suc d) (suc e) = compare_next d e (compare d e)

-- what stands earlier in the whole stands in an earlier part, or earlier in one
pub order_to : {A B : Type 0} (f : A → List B) (xs : List A) (d i e j : ℕ) (z : A) → slice_get xs e ≡ Some z → j < length (f z) → start f xs d + i < start f xs e + j → Before d i e j
order_to f xs d i e j z at within less = by (compare d e)
  where
    by : (d < e) ⊎ ((d ≡ e) ⊎ (e < d)) → Before d i e j
    by (inl l) = inl l
    by (inr (inl s)) = let same : start f xs d ≡ start f xs e = ap (start f xs) s in inr (s, omega arith)
    by (inr (inr g)) = let r : start f xs e + length (f z) ≤ start f xs d = ordered f xs e d z g at in absurd (omega arith)

pub order_from : {A B : Type 0} (f : A → List B) (xs : List A) (d i e j : ℕ) (x : A) → slice_get xs d ≡ Some x → i < length (f x) → Before d i e j → start f xs d + i < start f xs e + j
order_from f xs d i e j x at within (inl l) = let r : start f xs d + length (f x) ≤ start f xs e = ordered f xs d e x l at in omega arith
order_from f xs d i e j x at within (inr (s, l)) = let same : start f xs d ≡ start f xs e = ap (start f xs) s in omega arith

-- ---- an option as a list

pub listed : {A : Type 0} (o : Option A) (n : ℕ) (y : A) → slice_get (list_of o) n ≡ Some y → (n ≡ 0) × (o ≡ Some y)
listed None n y e = absurd cc
listed (Some x) zero y e = (refl, e)
listed (Some x) (suc n) y e = absurd cc

pub listed_at : {A : Type 0} (o : Option A) (y : A) → o ≡ Some y → slice_get (list_of o) 0 ≡ Some y
listed_at o y e = ap (λ x. slice_get (list_of x) 0) e
