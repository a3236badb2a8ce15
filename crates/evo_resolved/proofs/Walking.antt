-- A walk over the declarations that have a text, from the last one to the first.
use Rattle.std.proofs.Common.{◌≡◌, ◌≢◌, ◌⊎◌, inl, inr, ℕ, zero, suc, ◌+◌, ◌<◌, ◌≤◌, List, length, get_or, Option, Some, None, slice_get, Bool, IsTrue, ◌↔◌, true, false, sym, ap, subst, arith}
use Rattle.std.proofs.lemmas.Bool.Decides.{eqb_tells}
use Rattle.std.proofs.lemmas.Option.{slice_get_within}
use Rattle.std.proofs.Math.Dec.{eqb}
use Rattle.evo_resolved.proofs.Indexing.{get_of}
use Rattle.evo_resolved.specs.declared.keyed.KeyIndex.{KeyIndex}
use Rattle.evo_base.specs.declared.key.Key.{Key}
use Rattle.evo_resolved.specs.Found.{Sought, IsFound}
use Rattle.evo_resolved.specs.Indexed.{bucket, IsLatest, Indexed}

-- how many declarations are left at most
abbrev pub position : Option ℕ → ℕ
position None = 0
position (Some i) = i + 1

pub below : (a b : ℕ) → (a < b) ⊎ (b ≤ a)
below zero zero = inr (omega arith)
below zero (suc b) = inl (omega arith)
below (suc a) zero = inr (omega arith)
below (suc a) (suc b) = by (below a b)
  where
    by : (a < b) ⊎ (b ≤ a) → (suc a < suc b) ⊎ (suc b ≤ suc a)
    by (inl p) = inl (omega arith)
    by (inr p) = inr (omega arith)

-- of the first `bound` declarations, those from here on have not the text or are none of those that are sought; the walk goes on at the last one before
pub record Walked {A : Type 0} (own : A → Key) (text : List ℕ) (spots : List A) (bound : ℕ) (sought : A → Type 0) (at : Option ℕ) : Type 0 where
  pub rest : ℕ
  pub within : rest ≤ bound
  pub latest : IsLatest own text spots rest at
  pub none : (j : ℕ) (s : A) → rest ≤ j → j < bound → slice_get spots j ≡ Some s → sought s → ⊥

module _ (A : Type 0) (own : A → Key) (text : List ℕ) (spots : List A) (bound : ℕ) (sought : A → Type 0) (has : (s : A) → sought s → bucket (own s) ≡ text) where
  -- a declaration that is none of those is passed
  pub walk_goes : (i : ℕ) (s : A) (o : Option ℕ) → Walked own text spots bound sought (Some i) → slice_get spots i ≡ Some s → (sought s → ⊥) → IsLatest own text spots i o → Walked own text spots bound sought o
  walk_goes i s o w at not before = record { rest = i; within = (let a = w.latest.0 in let b = w.within in omega arith); latest = before; none = λ j z le less e is. by j z le less e is (eqb_tells j i) }
    where
      by : (j : ℕ) (z : A) → i ≤ j → j < bound → slice_get spots j ≡ Some z → sought z → ((eqb j i ≡ true) × (j ≡ i)) ⊎ ((eqb j i ≡ false) × (j ≢ i)) → ⊥
      by j z le less e is (inl p) =
          let here : slice_get spots i ≡ Some z = subst (λ (k : ℕ). slice_get spots k ≡ Some z) p.1 e in
          let same : s ≡ z = cc in
          not (subst sought (sym same) is)
      by j z le less e is (inr p) = far (below j w.rest)
        where
          far : (j < w.rest) ⊎ (w.rest ≤ j) → ⊥
          far (inl below) = let other = p.1 in w.latest.2 j z (omega arith) below e (has z is)
          far (inr above) = w.none j z above less e is

  -- the walk comes nearer to its end
  pub walk_nearer : (i : ℕ) (o : Option ℕ) → IsLatest own text spots i o → position o < position (Some i)
  walk_nearer i None h = omega arith
  walk_nearer i (Some j) h = let a = h.0 in omega arith

  -- one step of a walk
  pub walk_step : (ix : KeyIndex) → Indexed own spots (length spots) ix → bound ≤ length spots → (at : Option ℕ) (i : ℕ) (s : A) (o : Option ℕ) → at ≡ Some i → Walked own text spots bound sought at → s ≡ get_or spots i s → (sought s → ⊥) → slice_get ix.previous.items i ≡ Some o
      → Walked own text spots bound sought o × (position o < position at)
  walk_step ix indexed le at i s o is w e not before =
      let here = subst (Walked own text spots bound sought) is w in
      let below = here.latest.0 in
      let within = here.within in
      let found : slice_get spots i ≡ Some s = get_of spots i s s (omega arith) e in
      let latest : IsLatest own text spots i o = subst (λ (t : List ℕ). IsLatest own t spots i o) (here.latest.1 s found) (indexed.previous i s o found before) in
      (walk_goes i s o here found not latest, subst (λ (a : Option ℕ). position o < position a) (sym is) (walk_nearer i o latest))

  -- nothing is left
  pub walk_ends : Walked own text spots bound sought None → (j : ℕ) (s : A) → j < bound → slice_get spots j ≡ Some s → sought s → ⊥
  walk_ends w j s less e is = by (below j w.rest)
    where
      by : (j < w.rest) ⊎ (w.rest ≤ j) → ⊥
      by (inl under) = w.latest j s under e (has s is)
      by (inr above) = w.none j s above less e is

-- a test that fails
pub not_so : {P : Type 0} (b : Bool) → b ≡ false → (IsTrue b ↔ P) → P → ⊥
not_so true e says p = absurd cc
not_so false e says p = let t = says.1 p in absurd cc

pub sought_bucket : {A : Type 0} (own : A → Key) (is_named : A → Bool) (key : Key) (x : A) → Sought own is_named key x → bucket (own x) ≡ bucket key
sought_bucket own is_named key x h = ap bucket h.1

pub no_found : {A : Type 0} (own : A → Key) (is_named : A → Bool) (items : List A) (key : Key) (at : Option ℕ) → Walked own (bucket key) items (length items) (Sought own is_named key) at → at ≡ None → (x : A) → IsFound own is_named items key x → ⊥
no_found {A} own is_named items key at w is x found =
    walk_ends A own (bucket key) items (length items) (Sought own is_named key) (sought_bucket own is_named key) (subst (Walked own (bucket key) items (length items) (Sought own is_named key)) is w) found.number x (slice_get_within items found.number x found.at) found.at found.sought
