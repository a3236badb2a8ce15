-- What the parts of an object's code and needs are together.
use Rattle.std.proofs.Common.{◌≡◌, ℕ, zero, suc, ◌+◌, Bool, true, false, List, [], ◌∷◌, ◌++◌, map, drop, Option, Some, None, refl, ◌∙◌, ap, arith}
use Rattle.std.specs.Prelude.{slice_get, if◌then◌else◌, filter, not}
use Rattle.evo_first_form.specs.declared.Declaration.{Declaration}
use Rattle.evo_first_form.specs.declared.Term.{Term}
use Rattle.evo_first_form.specs.Copies.{is_copied}
use Rattle.evo_code.specs.declared.object.Function.{Function}
use Rattle.evo_code.specs.declared.object.Import.{Import}
use Rattle.evo_first_code.specs.Objects.{symbol_of, function_import, needed, with_copy}

module _ (library : List ℕ) (ds : List Declaration) where
  pub needed-append : (xs ys : List (List ℕ)) → needed library ds (xs ++ ys) ≡ needed library ds xs ++ needed library ds ys
  needed-append [] ys = refl
  needed-append (x ∷ xs) ys = by (is_copied ds x) (needed-append xs ys)
    where
      by : (b : Bool) → needed library ds (xs ++ ys) ≡ needed library ds xs ++ needed library ds ys → map (λ (m : List ℕ). function_import (symbol_of library m)) (if not b then x ∷ filter (λ m. not (is_copied ds m)) (xs ++ ys) else filter (λ m. not (is_copied ds m)) (xs ++ ys))
          ≡ map (λ (m : List ℕ). function_import (symbol_of library m)) (if not b then x ∷ filter (λ m. not (is_copied ds m)) xs else filter (λ m. not (is_copied ds m)) xs) ++ needed library ds ys
      by true more = more
      by false more = ap (λ (l : List Import). function_import (symbol_of library x) ∷ l) more

  pub copy-first : (name : List ℕ) (o : Option Term) (rest : List Function) → with_copy library ds name o rest ≡ with_copy library ds name o [] ++ rest
  copy-first name None rest = refl
  copy-first name (Some term) rest = refl

-- the next name of a list
pub next_name : (names : List (List ℕ)) (i : ℕ) (name : List ℕ) → slice_get names i ≡ Some name → drop i names ≡ name ∷ drop (i + 1) names
next_name [] i name e = absurd cc
next_name (x ∷ xs) zero name e = let same : x ≡ name = cc in ap (λ (n : List ℕ). n ∷ xs) same
next_name (x ∷ xs) (suc i) name e =
    let place : suc (i + 1) ≡ suc i + 1 = omega arith in
    next_name xs i name e ∙ ap (λ (n : ℕ). name ∷ drop n (x ∷ xs)) place

-- behind the last name there is none
pub none_left : (names : List (List ℕ)) (i : ℕ) → slice_get names i ≡ None → drop i names ≡ []
none_left [] zero e = refl
none_left [] (suc i) e = refl
none_left (x ∷ xs) zero e = absurd cc
none_left (x ∷ xs) (suc i) e = none_left xs i e
