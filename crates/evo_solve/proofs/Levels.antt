-- Rounds find how far each place is, and a round that changes nothing shows what can't be reached.
use Rattle.std.proofs.Common.{◌≡◌, ℕ, zero, suc, ◌+◌, ◌*◌, ◌/◌, ◌%◌, ◌<◌, ◌≤◌, List, [], ◌∷◌, ◌++◌, length, get_or, set, Option, Some, None, slice_get, Bool, true, false, MatchBool, ◌==◌, ◌⊎◌, inl, inr, refl, sym, ◌∙◌, ap, subst, arith, add-one, eq-eqb, append_assoc}
use Rattle.std.proofs.lemmas.Bool.{eqb-true}
use Rattle.std.proofs.lemmas.List.{get_or-set_same, get_or-set_other, length-set, append-nil}
use Rattle.std.proofs.lemmas.Nat.{mul-add-lt, div-mul-add, mod-mul-add, row-Below, mod_below, div-add-mod'}
use Rattle.evo_base.specs.declared.key.Key.{Key}
use Rattle.evo_names.specs.Listed.{Text}
use Rattle.evo_solve.specs.declared.classes.Classes.{Classes}
use Rattle.evo_solve.specs.declared.declarations.Subtable.{Subtable}
use Rattle.evo_solve.specs.declared.declarations.Protocol.{Protocol}
use Rattle.evo_solve.specs.declared.distance.Step.{Step}
use Rattle.evo_solve.specs.Universe.{InRange}
use Rattle.evo_solve.specs.Ways.{Lex}
use Rattle.evo_solve.specs.Search.{subtables_by, subtables_of, MovesBy, Moves, Arrives, value, at, NearBy, Near, IsNearest, IsPlace, Exact, Level, Rounded, nones, StartAt, StartsIn, Early, Chosen, Followed}
use Rattle.evo_solve.proofs.Lists.{below_length}
use Rattle.evo_solve.proofs.Growing.{before_or_at}
use Rattle.evo_solve.proofs.Walking.{child_one}

-- ---- options

some_or : {A : Type 0} (o : Option A) → ((x : A) × (o ≡ Some x)) ⊎ (o ≡ None)
some_or None = inr refl
some_or (Some x) = inl (x, refl)

past_none : (xs : List (Option ℕ)) (i d : ℕ) → get_or xs i None ≡ Some d → i < length xs
past_none [] i d e = absurd (cc e)
past_none (x ∷ xs) zero d e = omega arith
past_none (x ∷ xs) (suc i) d e = let l = past_none xs i d e in omega arith

-- ---- how many have no distance

nones_set : (xs : List (Option ℕ)) (i d : ℕ) → i < length xs → get_or xs i None ≡ None → suc (nones (set xs i (Some d))) ≡ nones xs
nones_set [] i d less e = absurd (omega arith)
nones_set (None ∷ xs) zero d less e = refl
nones_set (Some x ∷ xs) zero d less e = absurd (cc e)
nones_set (None ∷ xs) (suc i) d less e = ap suc (nones_set xs i d (omega arith) e)
nones_set (Some x ∷ xs) (suc i) d less e = nones_set xs i d (omega arith) e

pub nones_fall : (xs new : List (Option ℕ)) (i d : ℕ) → i < length xs → get_or xs i None ≡ None → new ≡ set xs i (Some d) → nones new < nones xs
nones_fall xs new i d less e is = let a = nones_set xs i d less e in let b = ap nones is in omega arith

pub still_fewer : (b : Bool) (start now new : List (Option ℕ)) → MatchBool b (nones now < nones start) (now ≡ start) → nones new < nones now → nones new < nones start
still_fewer true start now new a less = omega arith
still_fewer false start now new a less = let e = ap nones a in omega arith

module _ (g : Classes) (ps : List Protocol) where
  place_of : (c q : ℕ) → IsPlace g ps c q → ((c * length ps + q) / length ps ≡ c) × ((c * length ps + q) % length ps ≡ q)
  place_of c q p = (div-mul-add c (length ps) q p.1, mod-mul-add c (length ps) q p.1)

  pub place_in : (distances : List (Option ℕ)) → length distances ≡ length ps * length g.nodes.items → (c q : ℕ) → IsPlace g ps c q → c * length ps + q < length distances
  place_in distances size c q p = subst (λ n. c * length ps + q < n) (sym size) (mul-add-lt c (length ps) q (length g.nodes.items) p.0 p.1)

  subtables_in : (q j : ℕ) (step : Subtable) → slice_get (subtables_of ps q) j ≡ Some step → q < length ps
  subtables_in q j step e = go (slice_get ps q) refl e
    where
      go : (o : Option Protocol) → slice_get ps q ≡ o → slice_get (subtables_by o) j ≡ Some step → q < length ps
      go None f e = absurd (cc e)
      go (Some p) f e = below_length ps q p f

  module _ (range : InRange g.nodes.items g.reps.items) where
    pub moves_in : (c d : ℕ) (step : Subtable) → c < length g.nodes.items → Moves g c d step → d < length g.nodes.items
    moves_in c d step inside move = go step.associated move
      where
        go : (o : Option Text) → MovesBy g.nodes.items g.reps.items c d o → d < length g.nodes.items
        go None e = subst (λ z. z < length g.nodes.items) e inside
        go (Some n) h = subst (λ z. z < length g.nodes.items) h.6 (range.inside h.0 (below_length g.nodes.items h.0 h.1 h.3))

    -- a step leads to one class
    pub moves_one : (c d e : ℕ) (step : Subtable) → Moves g c d step → Moves g c e step → d ≡ e
    moves_one c d e step a b = go step.associated a b
      where
        go : (o : Option Text) → MovesBy g.nodes.items g.reps.items c d o → MovesBy g.nodes.items g.reps.items c e o → d ≡ e
        go None a b = sym a ∙ b
        go (Some n) a b = child_one g.nodes.items g.reps.items range.size range.grown range.linked c n d e a b

    -- what is said of a step is said of the one at its number
    pub near_here : (distances : List (Option ℕ)) (c q far j : ℕ) (step : Subtable) → slice_get (subtables_of ps q) j ≡ Some step → ((d : ℕ) → Moves g c d step → step.protocol < length ps → at distances (length ps) d step.protocol ≡ Some far → ⊥) → NearBy g ps distances c q far j → ⊥
    near_here distances c q far j step here not near =
        let same : near.0 ≡ step = (let a = near.2 in cc (a, here)) in
        not near.1 (subst (λ z. Moves g c near.1 z) same near.3) (subst (λ (z : Subtable). z.protocol < length ps) same near.4) (subst (λ (z : Subtable). at distances (length ps) near.1 z.protocol ≡ Some far) same near.5)

    near_place : (distances : List (Option ℕ)) (c q far : ℕ) → c < length g.nodes.items → (n : Near g ps distances c q far) → IsPlace g ps n.2 n.1.protocol
    near_place distances c q far inside n = (moves_in c n.2 n.1 inside n.4, n.5)

    module _ (t m : ℕ) (in_m : m < length ps) where
      arrives_in : (js : List ℕ) (ks : List Key) (c q : ℕ) → Arrives g ps t m js ks c q → q < length ps
      arrives_in [] [] c q a = subst (λ z. z < length ps) (sym a.1) in_m
      arrives_in [] (k ∷ ks) c q a = absurd a
      arrives_in (j ∷ js) [] c q a = absurd a
      arrives_in (j ∷ js) (k ∷ ks) c q a = subtables_in q j a.0 a.2

      -- a place that has a distance has a way of that length
      way_of : (distances : List (Option ℕ)) → Exact g ps t m distances → (d c q : ℕ) → IsPlace g ps c q → at distances (length ps) c q ≡ Some d → (js : List ℕ) × (ks : List Key) × Arrives g ps t m js ks c q × (length js ≡ d)
      way_of distances exact zero c q p e = ([], [], exact.zero c q p e, refl)
      way_of distances exact (suc d) c q p e =
          let n = exact.down c q d p e in
          let w = way_of distances exact d n.2 n.1.protocol (near_place distances c q d p.0 n) n.6 in
          (n.0 ∷ w.0, n.1.name ∷ w.1, (n.1, n.2, n.3, n.4, refl, w.2), ap suc w.3)

      -- a step to a place that is less far off
      shorter_way : (distances : List (Option ℕ)) → Exact g ps t m distances → (c q j d : ℕ) → IsPlace g ps c q → NearBy g ps distances c q d j → (js : List ℕ) × (ks : List Key) × Arrives g ps t m js ks c q × (length js ≡ suc d)
      shorter_way distances exact c q j d p n =
          let w = way_of distances exact d n.1 n.0.protocol (moves_in c n.1 n.0 p.0 n.3, n.4) n.5 in
          (j ∷ w.0, n.0.name ∷ w.1, (n.0, n.1, n.2, n.3, refl, w.2), ap suc w.3)

      -- ---- a round

      pub rounded_none : (far : ℕ) (old : List (Option ℕ)) → Rounded g ps far old old 0
      rounded_none far old = record {
        size = refl;
        kept = λ s d e. e;
        made = λ s d e. inl e;
        done = λ s less e n. absurd (omega arith);
      }

      near_old : (far : ℕ) (old new : List (Option ℕ)) (n c q : ℕ) → Rounded g ps far old new n → Near g ps new c q far → Near g ps old c q far
      near_old far old new n c q r near =
          let here : at old (length ps) near.2 near.1.protocol ≡ Some far = elim (r.made (near.2 * length ps + near.1.protocol) far near.6) [ inl e ↦ e | inr e ↦ absurd (let f = e.0 in omega arith) ] in
          (near.0, near.1, near.2, near.3, near.4, near.5, here)

      near_new : (far : ℕ) (old new : List (Option ℕ)) (n c q : ℕ) → Rounded g ps far old new n → Near g ps old c q far → Near g ps new c q far
      near_new far old new n c q r near = (near.0, near.1, near.2, near.3, near.4, near.5, r.kept (near.2 * length ps + near.1.protocol) far near.6)

      pub rounded_skip : (far : ℕ) (old new : List (Option ℕ)) (n : ℕ) → Rounded g ps far old new n → ((value new n ≡ None) × Near g ps new (n / length ps) (n % length ps) far → ⊥) → Rounded g ps far old new (n + 1)
      rounded_skip far old new n r not = record {
        size = r.size;
        kept = r.kept;
        made = r.made;
        done = λ s less e near. elim (before_or_at s n less) [ inl l ↦ r.done s l e near | inr i ↦ not (subst (λ z. value new z ≡ None) i e, near_new far old new n (n / length ps) (n % length ps) r (subst (λ z. Near g ps old (z / length ps) (z % length ps) far) i near)) ];
      }

      pub rounded_make : (far : ℕ) (old cur new : List (Option ℕ)) (n : ℕ) → Rounded g ps far old cur n → n < length cur → value cur n ≡ None → Near g ps cur (n / length ps) (n % length ps) far → new ≡ set cur n (Some (far + 1)) → Rounded g ps far old new (n + 1)
      rounded_make far old cur new n r inside none near is = record {
        size = ap length is ∙ length-set cur n (Some (far + 1)) ∙ r.size;
        kept = λ s d e. keep s d (r.kept s d e) (s == n) refl;
        made = λ s d e. make s d e (s == n) refl;
        done = λ s less e near. finish s e near (before_or_at s n less) (s == n) refl;
      }
        where
          here : value new n ≡ Some (suc far)
          here = ap (λ l. value l n) is ∙ get_or-set_same cur n (Some (far + 1)) None inside ∙ ap Some (omega arith)

          there : (s : ℕ) → (s == n) ≡ false → value new s ≡ value cur s
          there s f =
              let differ : s ≡ n → ⊥ = λ e. absurd (let h : (n == n) ≡ false = subst (λ z. (z == n) ≡ false) e f in cc (h, eq-eqb n n refl)) in
              ap (λ l. value l s) is ∙ get_or-set_other cur n s (Some (far + 1)) None differ

          keep : (s d : ℕ) → value cur s ≡ Some d → (b : Bool) → (s == n) ≡ b → value new s ≡ Some d
          keep s d e true f = absurd (let a = subst (λ z. value cur z ≡ Some d) (eqb-true s n f) e in cc (a, none))
          keep s d e false f = there s f ∙ e

          make : (s d : ℕ) → value new s ≡ Some d → (b : Bool) → (s == n) ≡ b → (value old s ≡ Some d) ⊎ ((d ≡ suc far) × Near g ps old (s / length ps) (s % length ps) far)
          make s d e true f =
              let i = eqb-true s n f in
              let a : value new n ≡ Some d = subst (λ z. value new z ≡ Some d) i e in
              let is_d : d ≡ suc far = cc (a, here) in
              inr (is_d, subst (λ z. Near g ps old (z / length ps) (z % length ps) far) (sym i) (near_old far old cur n (n / length ps) (n % length ps) r near))
          make s d e false f = r.made s d (sym (there s f) ∙ e)

          finish : (s : ℕ) → value new s ≡ None → Near g ps old (s / length ps) (s % length ps) far → (s < n) ⊎ (s ≡ n) → (b : Bool) → (s == n) ≡ b → ⊥
          finish s e near (inl l) true f = let i = eqb-true s n f in absurd (omega arith)
          finish s e near (inl l) false f = r.done s l (sym (there s f) ∙ e) near
          finish s e near (inr i) b f = absurd (let a = subst (λ z. value new z ≡ None) i e in cc (a, here))

      -- ---- levels

      module _ (far : ℕ) (old new : List (Option ℕ)) (level : Level g ps t m far old) (r : Rounded g ps far old new (length old)) where
        made_at : (c q d : ℕ) → IsPlace g ps c q → at new (length ps) c q ≡ Some d → (at old (length ps) c q ≡ Some d) ⊎ ((d ≡ suc far) × Near g ps old c q far)
        made_at c q d p e = elim (r.made (c * length ps + q) d e) [
          | inl a ↦ inl a
          | inr b ↦ let w = place_of c q p in inr (b.0, subst (λ z. Near g ps old z q far) w.0 (subst (λ z. Near g ps old ((c * length ps + q) / length ps) z far) w.1 b.1))
        ]

        done_at : (c q : ℕ) → IsPlace g ps c q → at new (length ps) c q ≡ None → Near g ps old c q far → ⊥
        done_at c q p e near =
            let w = place_of c q p in
            r.done (c * length ps + q) (place_in old level.size c q p) e (subst (λ z. Near g ps old z ((c * length ps + q) % length ps) far) (sym w.0) (subst (λ z. Near g ps old c z far) (sym w.1) near))

        down_new : (c q d : ℕ) → IsPlace g ps c q → at new (length ps) c q ≡ Some (suc d) → Near g ps new c q d
        down_new c q d p e = elim (made_at c q (suc d) p e) [
          | inl a ↦ later (level.exact.down c q d p a)
          | inr b ↦ subst (Near g ps new c q) (let f = b.0 in omega arith) (near_new far old new (length old) c q r b.1)
        ]
          where
            later : Near g ps old c q d → Near g ps new c q d
            later n = (n.0, n.1, n.2, n.3, n.4, n.5, r.kept (n.2 * length ps + n.1.protocol) d n.6)

        least_new : (c q d : ℕ) (js : List ℕ) (ks : List Key) → IsPlace g ps c q → at new (length ps) c q ≡ Some d → Arrives g ps t m js ks c q → d ≤ length js
        least_new c q d js ks p e a = elim (some_or (at old (length ps) c q)) [
          | inl o ↦ let k = r.kept (c * length ps + q) o.0 o.1 in let i : o.0 ≡ d = cc (k, e) in let l = level.exact.least c q o.0 js ks p o.1 a in omega arith
          | inr n ↦ elim (made_at c q d p e) [ inl b ↦ absurd (cc (b, n)) | inr b ↦ let l = level.missing c q js ks p n a in let f = b.0 in omega arith ]
        ]

        old_none : (c q : ℕ) → at new (length ps) c q ≡ None → at old (length ps) c q ≡ None
        old_none c q e = elim (some_or (at old (length ps) c q)) [ inl o ↦ absurd (let k = r.kept (c * length ps + q) o.0 o.1 in cc (k, e)) | inr n ↦ n ]

        -- where no neighbour is that far, no way is that short
        not_now : (c q : ℕ) → IsPlace g ps c q → at old (length ps) c q ≡ None → (Near g ps old c q far → ⊥) → (js : List ℕ) (ks : List Key) → Arrives g ps t m js ks c q → suc far < length js
        not_now c q p none not [] [] a = absurd (let l = level.missing c q [] [] p none a in omega arith)
        not_now c q p none not [] (k ∷ ks) a = absurd a
        not_now c q p none not (j ∷ js) [] a = absurd a
        not_now c q p none not (j ∷ js) (k ∷ ks) a = go (some_or (at old (length ps) a.1 a.0.protocol))
          where
            next : IsPlace g ps a.1 a.0.protocol
            next = (moves_in c a.1 a.0 p.0 a.3, arrives_in js ks a.1 a.0.protocol a.5)

            go : ((d : ℕ) × (at old (length ps) a.1 a.0.protocol ≡ Some d)) ⊎ (at old (length ps) a.1 a.0.protocol ≡ None) → suc far < suc (length js)
            go (inr n) = let l = level.missing a.1 a.0.protocol js ks next n a.5 in omega arith
            go (inl o) =
                let low = level.exact.least a.1 a.0.protocol o.0 js ks next o.1 a.5 in
                let high = level.bound a.1 a.0.protocol o.0 next o.1 in
                let here = λ (e : o.0 ≡ far). not (j, a.0, a.1, a.2, a.3, next.1, o.1 ∙ ap Some e) in
                let w = shorter_way old level.exact c q j o.0 p (a.0, a.1, a.2, a.3, next.1, o.1) in
                let short = level.missing c q w.0 w.1 p none w.2 in
                let long = w.3 in
                absurd (here (omega arith))

        pub next_level : Level g ps t m (far + 1) new
        next_level = rw add-one (record {
          size = r.size ∙ level.size;
          exact = record {
            zero = λ c q p e. elim (made_at c q 0 p e) [ inl a ↦ level.exact.zero c q p a | inr b ↦ absurd (let f = b.0 in omega arith) ];
            down = down_new;
            least = least_new;
          };
          missing = λ c q js ks p e a. not_now c q p (old_none c q e) (done_at c q p e) js ks a;
          bound = λ c q d p e. elim (made_at c q d p e) [ inl a ↦ (let b = level.bound c q d p a in omega arith) | inr b ↦ (let f = b.0 in omega arith) ];
        })

      -- where a round changes nothing, a place without a distance has no way
      pub no_way : (far : ℕ) (old : List (Option ℕ)) → Level g ps t m far old → Rounded g ps far old old (length old) → (c q : ℕ) → IsPlace g ps c q → at old (length ps) c q ≡ None → (js : List ℕ) (ks : List Key) → Arrives g ps t m js ks c q → ⊥
      no_way far old level r c q p none [] [] a = let l = level.missing c q [] [] p none a in omega arith
      no_way far old level r c q p none [] (k ∷ ks) a = a
      no_way far old level r c q p none (j ∷ js) [] a = a
      no_way far old level r c q p none (j ∷ js) (k ∷ ks) a = go (some_or (at old (length ps) a.1 a.0.protocol)) (λ n. no_way far old level r a.1 a.0.protocol next n js ks a.5)
        where
          next : IsPlace g ps a.1 a.0.protocol
          next = (moves_in c a.1 a.0 p.0 a.3, arrives_in js ks a.1 a.0.protocol a.5)

          go : ((d : ℕ) × (at old (length ps) a.1 a.0.protocol ≡ Some d)) ⊎ (at old (length ps) a.1 a.0.protocol ≡ None) → (at old (length ps) a.1 a.0.protocol ≡ None → ⊥) → ⊥
          go (inr n) more = more n
          go (inl o) more =
              let high = level.bound a.1 a.0.protocol o.0 next o.1 in
              let here = λ (e : o.0 ≡ far). done_at far old old level r c q p none (j, a.0, a.1, a.2, a.3, next.1, o.1 ∙ ap Some e) in
              let w = shorter_way old level.exact c q j o.0 p (a.0, a.1, a.2, a.3, next.1, o.1) in
              let short = level.missing c q w.0 w.1 p none w.2 in
              let long = w.3 in
              here (omega arith)

      -- ---- the first way

      -- ---- searching

      pub start_in : (distances : List (Option ℕ)) → length distances ≡ length ps * length g.nodes.items → (s : ℕ) → s < length distances → 0 < length ps → IsPlace g ps (s / length ps) (s % length ps)
      start_in distances size s less some = ((row-Below s (length ps) (length ps) (length g.nodes.items) (subst (λ n. s < n) size less) (omega arith)).1, mod_below s (length ps) some)

      start_value : (distances : List (Option ℕ)) (s : ℕ) → at distances (length ps) (s / length ps) (s % length ps) ≡ value distances s
      start_value distances s = ap (value distances) (div-add-mod' s (length ps))

      pub early_none : (starts : List (Option ℕ)) → Early g ps t m starts 0
      early_none starts i s js ks start a = omega arith

      pub early_more : (starts distances : List (Option ℕ)) (far : ℕ) → 0 < length ps → StartsIn starts distances → Level g ps t m far distances → ((i s : ℕ) → StartAt starts i s → value distances s ≡ None) → Early g ps t m starts (far + 1)
      early_more starts distances far some inside level none i s js ks start a =
          let l = level.missing (s / length ps) (s % length ps) js ks (start_in distances level.size s (inside i s start) some) (start_value distances s ∙ none i s start) a in
          omega arith

      pub nowhere : (starts distances : List (Option ℕ)) (far : ℕ) → 0 < length ps → StartsIn starts distances → Level g ps t m far distances → Rounded g ps far distances distances (length distances) → ((i s : ℕ) → StartAt starts i s → value distances s ≡ None) → (i s : ℕ) (js : List ℕ) (ks : List Key) → StartAt starts i s → Arrives g ps t m js ks (s / length ps) (s % length ps) → ⊥
      nowhere starts distances far some inside level r none i s js ks start a = no_way far distances level r (s / length ps) (s % length ps) (start_in distances level.size s (inside i s start) some) (start_value distances s ∙ none i s start) js ks a

      less_or : (x y : ℕ) → (x < y) ⊎ (y ≤ x)
      less_or x zero = inr (omega arith)
      less_or zero (suc y) = inl (omega arith)
      less_or (suc x) (suc y) = elim (less_or x y) [ inl h ↦ inl (omega arith) | inr h ↦ inr (omega arith) ]

      pub chosen_from : (starts distances : List (Option ℕ)) (far i s d : ℕ) → 0 < length ps → StartsIn starts distances → Level g ps t m far distances → Early g ps t m starts far → StartAt starts i s → value distances s ≡ Some d → ((j u : ℕ) → j < i → StartAt starts j u → value distances u ≡ None) → Chosen g ps t m starts distances i
      chosen_from starts distances far i s d some inside level early start known before = record {
        place = s;
        far = d;
        start = start;
        is_far = known;
        first = λ j u js ks at_j a. go j u js ks at_j a (less_or d (length js)) (less_or j i);
      }
        where
          high : d ≤ far
          high = level.bound (s / length ps) (s % length ps) d (start_in distances level.size s (inside i s start) some) (start_value distances s ∙ known)

          go : (j u : ℕ) (js : List ℕ) (ks : List Key) → StartAt starts j u → Arrives g ps t m js ks (u / length ps) (u % length ps) → (d < length js) ⊎ (length js ≤ d) → (j < i) ⊎ (i ≤ j) → (d < length js) ⊎ ((d ≡ length js) × (i ≤ j))
          go j u js ks at_j a (inl l) other = inl l
          go j u js ks at_j a (inr l) (inr k) = let e = early j u js ks at_j a in let h = high in inr (omega arith, k)
          go j u js ks at_j a (inr l) (inl k) =
              let e = early j u js ks at_j a in
              let h = high in
              let far_off = level.missing (u / length ps) (u % length ps) js ks (start_in distances level.size u (inside j u at_j) some) (start_value distances u ∙ before j u k at_j) a in
              absurd (omega arith)

      -- ---- the first way

      pub followed_end : (distances : List (Option ℕ)) → Exact g ps t m distances → (c q : ℕ) → IsPlace g ps c q → at distances (length ps) c q ≡ Some 0 → (old : List Key) → Followed g ps t m c q 0 old old
      followed_end distances exact c q p e old = ([], [], sym (append-nil old), exact.zero c q p e, refl, λ other names a l. tt)

      near_level : (distances : List (Option ℕ)) (far : ℕ) → Level g ps t m far distances → (c q d : ℕ) → IsPlace g ps c q → at distances (length ps) c q ≡ Some (suc d) → (j : ℕ) (js : List ℕ) (ks : List Key) (step : Subtable) (e : ℕ) → slice_get (subtables_of ps q) j ≡ Some step → Moves g c e step → Arrives g ps t m js ks e step.protocol → length js ≡ d → NearBy g ps distances c q d j
      near_level distances far level c q d p is j js ks step e at_j move a size = (step, e, at_j, move, next.1, go (some_or (at distances (length ps) e step.protocol)))
        where
          next : IsPlace g ps e step.protocol
          next = (moves_in c e step p.0 move, arrives_in js ks e step.protocol a)

          go : ((x : ℕ) × (at distances (length ps) e step.protocol ≡ Some x)) ⊎ (at distances (length ps) e step.protocol ≡ None) → at distances (length ps) e step.protocol ≡ Some d
          go (inr n) = absurd (let l = level.missing e step.protocol js ks next n a in let b = level.bound c q (suc d) p is in omega arith)
          go (inl o) =
              let low = level.exact.least e step.protocol o.0 js ks next o.1 a in
              let w = shorter_way distances level.exact c q j o.0 p (step, e, at_j, move, next.1, o.1) in
              let short = level.exact.least c q (suc d) w.0 w.1 p is w.2 in
              let long = w.3 in
              o.1 ∙ ap Some (omega arith)

      data Compared (x y : ℕ) : Type 0 where
        before_it : x < y → Compared x y
        at_it : x ≡ y → Compared x y
        behind_it : y < x → Compared x y

      compared : (x y : ℕ) → Compared x y
      compared zero zero = at_it refl
      compared zero (suc y) = before_it (omega arith)
      compared (suc x) zero = behind_it (omega arith)
      compared (suc x) (suc y) = elim (compared x y) [ before_it h ↦ before_it (omega arith) | at_it h ↦ at_it (ap suc h) | behind_it h ↦ behind_it (omega arith) ]

      pub followed_more : (distances : List (Option ℕ)) (far : ℕ) → Level g ps t m far distances → (c q d : ℕ) → IsPlace g ps c q → at distances (length ps) c q ≡ Some (suc d) → (s : Step) → (n : IsNearest g ps distances c q d s) → (old mid new : List Key) (k : Key) → k ≡ n.subtable.name → mid ≡ old ++ k ∷ [] → Followed g ps t m s.class s.protocol d mid new → Followed g ps t m c q (suc d) old new
      followed_more distances far level c q d p is s n old mid new k is_k is_mid rest = (
        s.number ∷ rest.0,
        k ∷ rest.1,
        rest.2 ∙ ap (λ l. l ++ rest.1) is_mid ∙ append_assoc old (k ∷ []) rest.1,
        (n.subtable, s.class, n.there, n.moves, is_k, subst (λ z. Arrives g ps t m rest.0 rest.1 s.class z) n.leads rest.3),
        ap suc rest.4,
        first,
      )
        where
          first : (other : List ℕ) (names : List Key) → Arrives g ps t m other names c q → length other ≡ suc d → Lex (s.number ∷ rest.0) other
          first [] names a size = absurd (omega arith)
          first (j ∷ js) [] a size = absurd a
          first (j ∷ js) (x ∷ xs) a size = go (compared s.number j)
            where
              short : length js ≡ d
              short = omega arith

              near : NearBy g ps distances c q d j
              near = near_level distances far level c q d p is j js xs a.0 a.1 a.2 a.3 a.5 short

              go : Compared s.number j → (s.number < j) ⊎ ((s.number ≡ j) × Lex rest.0 js)
              go (before_it h) = inl h
              go (behind_it h) = absurd (n.first j h near)
              go (at_it h) =
                  let step : a.0 ≡ n.subtable = (let b = subst (λ z. slice_get (subtables_of ps q) z ≡ Some a.0) (sym h) a.2 in let e = n.there in cc (b, e)) in
                  let class : a.1 ≡ s.class = moves_one c a.1 s.class n.subtable (subst (λ z. Moves g c a.1 z) step a.3) n.moves in
                  let arrives : Arrives g ps t m js xs s.class s.protocol = subst (λ z. Arrives g ps t m js xs z s.protocol) class (subst (λ z. Arrives g ps t m js xs a.1 z) (ap (λ (z : Subtable). z.protocol) step ∙ sym n.leads) a.5) in
                  inr (h, rest.5 js xs arrives short)
