-- Lists that are empty.
use Rattle.std.proofs.Common.{◌≡◌, ◌↔◌, Bool, true, false, not, ◌||◌, List, [], ◌∷◌, ◌++◌, map, filter, IsTrue, refl, sym, subst, if◌then◌else◌}
use Rattle.std.specs.List.{list_any}

pub left_nil : {A : Type 0} (xs ys : List A) → xs ++ ys ≡ [] → xs ≡ []
left_nil [] ys e = refl
left_nil (x ∷ xs) ys e = cc

pub right_nil : {A : Type 0} (xs ys : List A) → xs ++ ys ≡ [] → ys ≡ []
right_nil [] ys e = e
right_nil (x ∷ xs) ys e = cc

-- nothing is made of a list of which nothing passes
pub none_passes : {A B : Type 0} (f : A → B) (p : A → Bool) (xs : List A) → IsTrue (not (list_any p xs)) ↔ (map f (filter p xs) ≡ [])
none_passes f p [] = (λ e. refl, λ e. refl)
none_passes f p (x ∷ xs) = by (p x) (none_passes f p xs)
  where
    by : (b : Bool) → IsTrue (not (list_any p xs)) ↔ (map f (filter p xs) ≡ []) → IsTrue (not (b || list_any p xs)) ↔ (map f (if b then x ∷ filter p xs else filter p xs) ≡ [])
    by true h = (λ e. cc, λ e. cc)
    by false h = h

pub none_passes_by : {A B : Type 0} (f : A → B) (p : A → Bool) (xs : List A) (r : Bool) → r ≡ list_any p xs → IsTrue (not r) ↔ (map f (filter p xs) ≡ [])
none_passes_by f p xs r e = subst (λ b. IsTrue (not b) ↔ (map f (filter p xs) ≡ [])) (sym e) (none_passes f p xs)
