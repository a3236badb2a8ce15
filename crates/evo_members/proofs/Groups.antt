-- What is sought among all declarations is sought in a group of numbers.
use Rattle.std.proofs.Common.{◌≡◌, ℕ, zero, suc, ◌+◌, ◌<◌, drop, get_or, length, List, [], ◌∷◌, ◌++◌, map, flat_map, filter, Option, Some, None, slice_get, Bool, true, false, refl, sym, ap, ap₂, ◌∙◌, arith, if◌then◌else◌}
use Rattle.std.specs.Option.{option_or, option_map_or}
use Rattle.std.specs.Str.{bytes_eq}
use Rattle.evo_names.specs.Listed.{Text}
use Rattle.evo_names.specs.Heads.{first_some, first_that}
use Rattle.evo_declarations.specs.Groups.{numbers_from, numbers_of}

-- ---- the list of a group

module _ {A B : Type 0} (f : A → List B) (key : A → Text) (n : Text) (only : (x : A) → bytes_eq n (key x) ≡ false → f x ≡ []) where
  at_first : (b : Bool) (x : A) (xs : List A) (i : ℕ) (g : ℕ → List B) → bytes_eq n (key x) ≡ b → g i ≡ f x → flat_map f xs ≡ flat_map g (numbers_from (i + 1) n (map key xs)) → f x ++ flat_map f xs ≡ flat_map g (if b then i ∷ numbers_from (i + 1) n (map key xs) else numbers_from (i + 1) n (map key xs))
  at_first true x xs i g is here rest = ap₂ (λ (a b : List B). a ++ b) (sym here) rest
  at_first false x xs i g is here rest = ap (λ (l : List B). l ++ flat_map f xs) (only x is) ∙ rest

  from : (i : ℕ) (xs : List A) (g : ℕ → List B) → ((j : ℕ) → g (i + j) ≡ option_map_or f (slice_get xs j) []) → flat_map f xs ≡ flat_map g (numbers_from i n (map key xs))
  from i [] g at = refl
  from i (x ∷ xs) g at =
      let here : i + 0 ≡ i = omega arith in
      let next = λ (j : ℕ). (let e : i + 1 + j ≡ i + suc j = omega arith in ap g e ∙ at (suc j)) in
      at_first (bytes_eq n (key x)) x xs i g refl (ap g (sym here) ∙ at 0) (from (i + 1) xs g next)

  pub flat_by_group : (xs : List A) → flat_map f xs ≡ flat_map (λ i. option_map_or f (slice_get xs i) []) (numbers_of n (map key xs))
  flat_by_group xs = from 0 xs (λ i. option_map_or f (slice_get xs i) []) (λ j. (let e : 0 + j ≡ j = omega arith in ap (λ i. option_map_or f (slice_get xs i) []) e))

-- ---- those that pass a test

flat_test : {A B : Type 0} (f : A → List B) (p : A → Bool) (x : A) (xs : List A) (b : Bool) → p x ≡ b → flat_map f (filter p xs) ≡ flat_map (λ y. if p y then f y else []) xs → flat_map f (if b then x ∷ filter p xs else filter p xs) ≡ (if b then f x else []) ++ flat_map (λ y. if p y then f y else []) xs
flat_test f p x xs true is rest = ap (λ l. f x ++ l) rest
flat_test f p x xs false is rest = rest

pub flat_filter : {A B : Type 0} (f : A → List B) (p : A → Bool) (xs : List A) → flat_map f (filter p xs) ≡ flat_map (λ x. if p x then f x else []) xs
flat_filter f p [] = refl
flat_filter f p (x ∷ xs) = flat_test f p x xs (p x) refl (flat_filter f p xs)

first_test : {A B : Type 0} (f : A → Option B) (p : A → Bool) (x : A) (xs : List A) (b : Bool) → p x ≡ b → first_some f (filter p xs) ≡ first_some (λ y. if p y then f y else None) xs → first_some f (if b then x ∷ filter p xs else filter p xs) ≡ option_or (if b then f x else None) (first_some (λ y. if p y then f y else None) xs)
first_test f p x xs true is rest = ap (option_or (f x)) rest
first_test f p x xs false is rest = rest

pub first_filter : {A B : Type 0} (f : A → Option B) (p : A → Bool) (xs : List A) → first_some f (filter p xs) ≡ first_some (λ x. if p x then f x else None) xs
first_filter f p [] = refl
first_filter f p (x ∷ xs) = first_test f p x xs (p x) refl (first_filter f p xs)

that_test : {A : Type 0} (p : A → Bool) (x : A) (xs : List A) (b : Bool) → p x ≡ b → first_that p xs ≡ first_some (λ y. if p y then Some y else None) xs → (if b then Some x else first_that p xs) ≡ option_or (if b then Some x else None) (first_some (λ y. if p y then Some y else None) xs)
that_test p x xs true is rest = refl
that_test p x xs false is rest = rest

pub that_some : {A : Type 0} (p : A → Bool) (xs : List A) → first_that p xs ≡ first_some (λ x. if p x then Some x else None) xs
that_some p [] = refl
that_some p (x ∷ xs) = that_test p x xs (p x) refl (that_some p xs)

or_assoc : {B : Type 0} (o p q : Option B) → option_or (option_or o p) q ≡ option_or o (option_or p q)
or_assoc (Some x) p q = refl
or_assoc None p q = refl

pub first_append : {A B : Type 0} (f : A → Option B) (xs ys : List A) → first_some f (xs ++ ys) ≡ option_or (first_some f xs) (first_some f ys)
first_append f [] ys = refl
first_append f (x ∷ xs) ys = ap (option_or (f x)) (first_append f xs ys) ∙ sym (or_assoc (f x) (first_some f xs) (first_some f ys))

same_first_at : {A B : Type 0} {f g : A → Option B} → ((x : A) → f x ≡ g x) → (x : A) (xs : List A) → first_some f xs ≡ first_some g xs → option_or (f x) (first_some f xs) ≡ option_or (g x) (first_some g xs)
same_first_at same x xs rest = ap₂ option_or (same x) rest

pub same_first : {A B : Type 0} {f g : A → Option B} → ((x : A) → f x ≡ g x) → (xs : List A) → first_some f xs ≡ first_some g xs
same_first same [] = refl
same_first same (x ∷ xs) = same_first_at same x xs (same_first same xs)

pub same_flat : {A B : Type 0} {f g : A → List B} → ((x : A) → f x ≡ g x) → (xs : List A) → flat_map f xs ≡ flat_map g xs
same_flat same [] = refl
same_flat same (x ∷ xs) = ap₂ (λ (a b : List _). a ++ b) (same x) (same_flat same xs)

-- ---- the first of what is left

pub first_here : {B : Type 0} (g : ℕ → Option B) (numbers : List ℕ) (i : ℕ) (x : B) → i < length numbers → g (get_or numbers i 0) ≡ Some x → first_some g (drop i numbers) ≡ Some x
first_here g [] i x lt e = absurd (omega (arith, lt))
first_here g (n ∷ ns) zero x lt e = ap (λ o. option_or o (first_some g ns)) e
first_here g (n ∷ ns) (suc i) x lt e = let less : i < length ns = omega arith in first_here g ns i x less e
