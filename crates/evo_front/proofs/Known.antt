-- Which calls of a list are known.
use Rattle.std.proofs.Common.{ℕ, List, [], ◌∷◌, ◌++◌}
use Rattle.evo_first_form.specs.Accepted.{AreKnown}

module _ (functions : List (List ℕ)) where
  pub known-both : (xs ys : List (List ℕ)) → AreKnown functions xs → AreKnown functions ys → AreKnown functions (xs ++ ys)
  known-both [] ys p q = q
  known-both (x ∷ xs) ys p q = (p.0, known-both xs ys p.1 q)

  pub known-front : (xs ys : List (List ℕ)) → AreKnown functions (xs ++ ys) → AreKnown functions xs
  known-front [] ys p = tt
  known-front (x ∷ xs) ys p = (p.0, known-front xs ys p.1)

  pub known-back : (xs ys : List (List ℕ)) → AreKnown functions (xs ++ ys) → AreKnown functions ys
  known-back [] ys p = p
  known-back (x ∷ xs) ys p = known-back xs ys p.1
