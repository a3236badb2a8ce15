-- Names that are free.
use Rattle.std.proofs.Common.{◌≡◌, ℕ, true, false, List, [], ◌∷◌, ◌++◌, sym, ◌∙◌}
use Rattle.evo_first_form.specs.Accepted.{AreFree, is_taken}

free-back : (library : List ℕ) (xs ys : List (List ℕ)) → AreFree library (xs ++ ys) → AreFree library ys
free-back library [] ys p = p
free-back library (x ∷ xs) ys p = free-back library xs ys p.1

pub free-push : (library : List ℕ) (xs : List (List ℕ)) (name : List ℕ) → AreFree library xs → is_taken library name ≡ false → AreFree library (xs ++ name ∷ [])
free-push library [] name p q = (q, tt)
free-push library (x ∷ xs) name p q = (p.0, free-push library xs name p.1 q)

-- a name that is taken stands among no free names
pub not_free : (library : List ℕ) (before : List (List ℕ)) (name : List ℕ) (rest : List (List ℕ)) → is_taken library name ≡ true → AreFree library (before ++ name ∷ rest) → ⊥
not_free library before name rest taken free = absurd (let k = sym taken ∙ (free-back library before (name ∷ rest) free).0 in cc)
