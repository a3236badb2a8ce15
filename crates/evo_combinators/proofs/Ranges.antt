-- Ranges of a list.
use Rattle.std.proofs.Common.{◌≡◌, ℕ, zero, suc, ◌+◌, ◌-◌, ◌<◌, ◌≤◌, List, [], ◌∷◌, ◌++◌, length, take, drop, Some, refl, sym, ◌∙◌, ap, arith, length-append, length-drop, append_assoc, zero-add, suc-add}
use Rattle.std.specs.Prelude.{slice_range}
use Rattle.std.proofs.lemmas.List.{take-append-le, take_all, take-append-drop, drop-drop}
use Rattle.evo_combinators.specs.Laws.{first}

pub drop_first : {A : Type 0} (ps : List A) (i : ℕ) (p : A) → first (drop i ps) ≡ Some p → drop i ps ≡ p ∷ drop (suc i) ps
drop_first [] zero p e = absurd (cc)
drop_first (x ∷ xs) zero p e = let same : x ≡ p = cc in ap (λ y. y ∷ xs) same
drop_first [] (suc i) p e = absurd (cc)
drop_first (x ∷ xs) (suc i) p e = drop_first xs i p e

pub first_within : {A : Type 0} (ps : List A) (i : ℕ) (p : A) → first (drop i ps) ≡ Some p → i < length ps
first_within ps i p e = omega (arith, ap length (drop_first ps i p e), length-drop i ps, length-drop (suc i) ps)

pub first_there : {A : Type 0} (ps : List A) (i : ℕ) → i < length ps → (p : A) × (first (drop i ps) ≡ Some p)
first_there [] i less = absurd (omega arith)
first_there (x ∷ xs) zero less = (x, refl)
first_there (x ∷ xs) (suc i) less = first_there xs i (omega arith)

-- a range, and what stands behind it
pub range_behind : {A : Type 0} (ps : List A) (at i : ℕ) → at ≤ i → drop at ps ≡ slice_range ps at i ++ drop i ps
range_behind ps at i le =
    let whole = sym (take-append-drop (i - at) (drop at ps)) in
    let rest : drop (i - at) (drop at ps) ≡ drop i ps = drop-drop (i - at) at ps ∙ ap (λ n. drop n ps) (let e : at + (i - at) ≡ i = omega arith in e) in
    whole ∙ ap (λ r. take (i - at) (drop at ps) ++ r) rest

-- one more
pub range_next : {A : Type 0} (ps : List A) (at i : ℕ) (p : A) → at ≤ i → first (drop i ps) ≡ Some p → slice_range ps at (i + 1) ≡ slice_range ps at i ++ p ∷ []
range_next ps at i p le is =
    let less = first_within ps i p is in
    let whole : drop at ps ≡ (slice_range ps at i ++ p ∷ []) ++ drop (suc i) ps = range_behind ps at i le ∙ ap (λ r. slice_range ps at i ++ r) (drop_first ps i p is) ∙ sym (append_assoc (slice_range ps at i) (p ∷ []) (drop (suc i) ps)) in
    let size : length (slice_range ps at i ++ p ∷ []) ≡ i + 1 - at = omega (arith, ap length whole, length-append (slice_range ps at i ++ p ∷ []) (drop (suc i) ps), length-drop at ps, length-drop (suc i) ps) in
    ap (take (i + 1 - at)) whole ∙ take-append-le (i + 1 - at) (slice_range ps at i ++ p ∷ []) (drop (suc i) ps) (omega arith) ∙ take_all (i + 1 - at) (slice_range ps at i ++ p ∷ []) (omega arith)

take_none : {A : Type 0} (m : ℕ) → ◌≡◌ {A = List A} [] (take m [])
take_none zero = refl
take_none (suc m) = refl

take_plus : {A : Type 0} (n m : ℕ) (xs : List A) → take (n + m) xs ≡ take n xs ++ take m (drop n xs)
take_plus zero m xs = ap (λ k. take k xs) (zero-add m)
take_plus (suc n) m [] = ap (λ k. take k []) (suc-add n m) ∙ take_none m
take_plus (suc n) m (x ∷ xs) = ap (λ k. take k (x ∷ xs)) (suc-add n m) ∙ ap (λ r. x ∷ r) (take_plus n m xs)

-- a longer range begins with a shorter one
pub range_longer : {A : Type 0} (ps : List A) (at i j : ℕ) → at ≤ i → i ≤ j → slice_range ps at j ≡ slice_range ps at i ++ slice_range ps i j
range_longer ps at i j le le' =
    let whole = range_behind ps at i le in
    let size : j - at ≡ (i - at) + (j - i) = omega arith in
    ap (λ n. take n (drop at ps)) size ∙ take_plus (i - at) (j - i) (drop at ps)
    ∙ ap (λ r. take (i - at) (drop at ps) ++ take (j - i) r) (drop-drop (i - at) at ps ∙ ap (λ n. drop n ps) (let e : at + (i - at) ≡ i = omega arith in e))

module _ {A : Type 0} (ps us rest : List A) (at : ℕ) (cut : drop at ps ≡ us ++ rest) (le : at ≤ length ps) where
  pub slice_end : length ps - length rest ≡ at + length us
  slice_end = omega (arith, ap length cut, length-append us rest, length-drop at ps)

  pub left_within : length rest ≤ length ps
  left_within = omega (arith, ap length cut, length-append us rest, length-drop at ps)

  front_is : (n : ℕ) (vs more : List A) → us ++ rest ≡ vs ++ more → n ≡ at + length vs → slice_range ps at n ≡ vs
  front_is n vs more e is =
      let count : n - at ≡ length vs = omega arith in
      ap (λ k. take k (drop at ps)) count ∙ ap (take (length vs)) (cut ∙ e) ∙ take-append-le (length vs) vs more (omega arith) ∙ take_all (length vs) vs (omega arith)

  pub slice_front : slice_range ps at (length ps - length rest) ≡ us
  slice_front = front_is (length ps - length rest) us rest refl slice_end

  -- with the next one too
  pub slice_next : (g : A) → first rest ≡ Some g → slice_range ps at (length ps - length rest + 1) ≡ us ++ g ∷ []
  slice_next g is = go rest is slice_end cut
    where
      go : (r : List A) → first r ≡ Some g → length ps - length rest ≡ at + length us → drop at ps ≡ us ++ r → slice_range ps at (length ps - length rest + 1) ≡ us ++ g ∷ []
      go [] none e c = absurd (cc)
      go (h ∷ r) some e c =
          let same : h ≡ g = cc in
          let whole : drop at ps ≡ (us ++ g ∷ []) ++ r = c ∙ ap (λ x. us ++ x ∷ r) same ∙ sym (append_assoc us (g ∷ []) r) in
          let count : length ps - length rest + 1 - at ≡ length (us ++ g ∷ []) = omega (arith, length-append us (g ∷ [])) in
          ap (λ k. take k (drop at ps)) count ∙ ap (take (length (us ++ g ∷ []))) whole
          ∙ take-append-le (length (us ++ g ∷ [])) (us ++ g ∷ []) r (omega arith) ∙ take_all (length (us ++ g ∷ [])) (us ++ g ∷ []) (omega arith)

  pub some_left : length ps - length rest < length ps → (g : A) × (first rest ≡ Some g)
  some_left less = go rest refl
    where
      go : (r : List A) → r ≡ rest → (g : A) × (first rest ≡ Some g)
      go [] e = absurd (omega (arith, ap length e))
      go (g ∷ r) e = (g, ap first (sym e))
