-- What is sought by a text is sought in the group of that text.
use Rattle.std.proofs.Common.{◌≡◌, ℕ, zero, suc, ◌+◌, List, [], ◌∷◌, map, Option, Some, None, slice_get, Bool, true, false, refl, sym, ap, ap₂, subst, ◌∙◌, arith, if◌then◌else◌}
use Rattle.std.specs.Option.{option_or, option_and_then}
use Rattle.std.specs.Str.{bytes_eq}
use Rattle.evo_names.specs.Listed.{Text}
use Rattle.evo_names.specs.Heads.{first_some}
use Rattle.evo_declarations.specs.Groups.{numbers_from, numbers_of}

module _ {A B : Type 0} (f : A → Option B) (key : A → Text) (n : Text) (only : (x : A) → bytes_eq n (key x) ≡ false → f x ≡ None) where
  at_first : (b : Bool) (x : A) (xs : List A) (i : ℕ) (g : ℕ → Option B) → bytes_eq n (key x) ≡ b → g i ≡ f x → first_some f xs ≡ first_some g (numbers_from (i + 1) n (map key xs)) → option_or (f x) (first_some f xs) ≡ first_some g (if b then i ∷ numbers_from (i + 1) n (map key xs) else numbers_from (i + 1) n (map key xs))
  at_first true x xs i g is here rest = ap₂ option_or (sym here) rest
  at_first false x xs i g is here rest = ap (λ o. option_or o (first_some f xs)) (only x is) ∙ rest

  from : (i : ℕ) (xs : List A) (g : ℕ → Option B) → ((j : ℕ) → g (i + j) ≡ option_and_then f (slice_get xs j)) → first_some f xs ≡ first_some g (numbers_from i n (map key xs))
  from i [] g at = refl
  from i (x ∷ xs) g at =
      let here : i + 0 ≡ i = omega arith in
      let next = λ (j : ℕ). (let e : i + 1 + j ≡ i + suc j = omega arith in ap g e ∙ at (suc j)) in
      at_first (bytes_eq n (key x)) x xs i g refl (ap g (sym here) ∙ at 0) (from (i + 1) xs g next)

  pub by_group : (xs : List A) → first_some f xs ≡ first_some (λ i. option_and_then f (slice_get xs i)) (numbers_of n (map key xs))
  by_group xs = from 0 xs (λ i. option_and_then f (slice_get xs i)) (λ j. (let e : 0 + j ≡ j = omega arith in ap (λ i. option_and_then f (slice_get xs i)) e))
