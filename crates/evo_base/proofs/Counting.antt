-- Distinct names that are all among other names are no more than those.
use Rattle.std.proofs.Common.{◌≡◌, ℕ, zero, suc, ◌<◌, ◌≤◌, List, [], ◌∷◌, length, slice_get, Option, Some, None, IsSome, refl, sym, ap, subst, ◌∙◌, arith}
use Rattle.indexmap.proofs.IndexTableLemmas.Probe.{pigeonhole, Into, OneToOne}
use Rattle.evo_base.specs.Names.{position_of, AreDistinct}
use Rattle.evo_base.proofs.Names.{slice_get-position_of, position_of-within}

get_at : (xs : List (List ℕ)) (i : ℕ) → i < length xs → (x : List ℕ) × (slice_get xs i ≡ Some x)
get_at [] i lt = absurd (omega arith)
get_at (x ∷ xs) zero lt = (x, refl)
get_at (x ∷ xs) (suc i) lt = get_at xs i (omega arith)

abbrev value : Option ℕ → ℕ
value None = 0
value (Some i) = i

known : (o : Option ℕ) → IsSome o → o ≡ Some (value o)
known None h = absurd cc
known (Some i) h = refl

module _ (xs names : List (List ℕ)) (distinct : AreDistinct xs) (among : (i : ℕ) (x : List ℕ) → slice_get xs i ≡ Some x → IsSome (position_of x names)) where
  abbrev placed : Option (List ℕ) → Option ℕ
  placed None = None
  placed (Some x) = position_of x names

  abbrev place : ℕ → ℕ
  place i = value (placed (slice_get xs i))

  -- where the name at a place stands among the others
  placed_at : (i : ℕ) (x : List ℕ) → slice_get xs i ≡ Some x → position_of x names ≡ Some (place i)
  placed_at i x e = known (position_of x names) (among i x e) ∙ ap (λ (o : Option (List ℕ)). Some (value (placed o))) (sym e)

  into : Into place (length xs) (length names)
  into i lt = let p = get_at xs i lt in position_of-within p.0 names (place i) (placed_at i p.0 p.1)

  one : OneToOne place (length xs)
  one i j p q same =
      let a = get_at xs i p in
      let b = get_at xs j q in
      let here : slice_get names (place j) ≡ Some a.0 = subst (λ (k : ℕ). slice_get names k ≡ Some a.0) same (slice_get-position_of a.0 names (place i) (placed_at i a.0 a.1)) in
      let there : slice_get names (place j) ≡ Some b.0 = slice_get-position_of b.0 names (place j) (placed_at j b.0 b.1) in
      let equal : a.0 ≡ b.0 = let e : Some a.0 ≡ Some b.0 = sym here ∙ there in cc in
      distinct i j a.0 a.1 (b.1 ∙ ap Some (sym equal))

  pub no_more : length xs ≤ length names
  no_more = pigeonhole (length xs) (length names) place into one
