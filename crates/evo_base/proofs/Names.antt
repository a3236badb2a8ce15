-- Places of names in a list of names.
use Rattle.std.proofs.Common.{if◌then◌else◌, ◌≡◌, ◌≢◌, ℕ, suc, ◌+◌, ◌<◌, Bool, true, false, cond, ◌||◌, ◌⊎◌, inl, inr, ⊎_elim, List, [], ◌∷◌, ◌++◌, map, length, slice_get, Option, Some, None, IsSome, is_some, refl, sym, ap, subst, ◌∙◌, arith, rules, zero}
use Rattle.std.specs.Option.{option_map}
use Rattle.std.specs.List.{list_any, position_from}
use Rattle.std.specs.Str.{bytes_eq}
use Rattle.std.proofs.lemmas.List.{map-append}
use Rattle.std.proofs.lemmas.Option.{slice_get_within}
use Rattle.std.proofs.lemmas.Slice.Eq.{bytes_eq-Decides}
use Rattle.evo_base.specs.Names.{position_of, AreDistinct}

-- what a position says
abbrev At : List ℕ → List (List ℕ) → Option ℕ → Type 0
At n xs None = (i : ℕ) → slice_get xs i ≡ Some n → ⊥
At n xs (Some i) = slice_get xs i ≡ Some n

elsewhere : (n x : List ℕ) (xs : List (List ℕ)) → bytes_eq n x ≡ false → ((i : ℕ) → slice_get xs i ≡ Some n → ⊥) → (i : ℕ) → slice_get (x ∷ xs) i ≡ Some n → ⊥
elsewhere n x xs not h zero e =
    let same : n ≡ x = cc in
    let yes : bytes_eq n x ≡ true = (bytes_eq-Decides n x).1 same in
    cc
elsewhere n x xs not h (suc i) e = h i e

later : (n x : List ℕ) (xs : List (List ℕ)) → bytes_eq n x ≡ false → (o : Option ℕ) → At n xs o → At n (x ∷ xs) (option_map suc o)
later n x xs not None h = elsewhere n x xs not h
later n x xs not (Some i) h = h

at_position : (n : List ℕ) (xs : List (List ℕ)) → At n xs (position_of n xs)
at_position n [] = λ i e. absurd cc
at_position n (x ∷ xs) =
    let by : (b : Bool) → bytes_eq n x ≡ b → At n (x ∷ xs) (cond b (Some 0) (option_map suc (position_of n xs)))
    = elim [
      | true ↦ λ is. ap Some (sym ((bytes_eq-Decides n x).0 is))
      | false ↦ λ not. later n x xs not (position_of n xs) (at_position n xs)
    ] in
    by (bytes_eq n x) refl

-- a name stands at its position
pub slice_get-position_of : (n : List ℕ) (xs : List (List ℕ)) (i : ℕ) → position_of n xs ≡ Some i → slice_get xs i ≡ Some n
slice_get-position_of n xs i e = subst (At n xs) e (at_position n xs)

-- a position is within the list
pub position_of-within : (n : List ℕ) (xs : List (List ℕ)) (i : ℕ) → position_of n xs ≡ Some i → i < length xs
position_of-within n xs i e = slice_get_within xs i n (slice_get-position_of n xs i e)

-- a name without a position stands at no place
pub position_of-None : (n : List ℕ) (xs : List (List ℕ)) → position_of n xs ≡ None → (i : ℕ) → slice_get xs i ≡ Some n → ⊥
position_of-None n xs e = subst (At n xs) e (at_position n xs)

-- where no name comes twice, each one's position is its place
pub position_of-distinct : (n : List ℕ) (xs : List (List ℕ)) (i : ℕ) → AreDistinct xs → slice_get xs i ≡ Some n → position_of n xs ≡ Some i
position_of-distinct n xs i distinct e = by (position_of n xs) refl
  where
    by : (o : Option ℕ) → position_of n xs ≡ o → position_of n xs ≡ Some i
    by None is = absurd (position_of-None n xs is i e)
    by (Some k) is = is ∙ ap Some (distinct k i n (slice_get-position_of n xs k is) e)

-- the position in the first list, or else that in the second, which stands k places behind
abbrev or_later : Option ℕ → ℕ → Option ℕ → Option ℕ
or_later None k o = option_map (λ (j : ℕ). k + j) o
or_later (Some i) k o = Some i

or_later-zero : (o : Option ℕ) → o ≡ or_later None 0 o
or_later-zero None = refl
or_later-zero (Some i) = ap Some (omega arith)

or_later-suc : (p : Option ℕ) (k : ℕ) (o : Option ℕ) → option_map suc (or_later p k o) ≡ or_later (option_map suc p) (suc k) o
or_later-suc None k None = refl
or_later-suc None k (Some j) = ap Some (omega arith)
or_later-suc (Some i) k o = refl

position_of-append : (n : List ℕ) (xs ys : List (List ℕ)) → position_of n (xs ++ ys) ≡ or_later (position_of n xs) (length xs) (position_of n ys)
position_of-append n [] ys = or_later-zero (position_of n ys)
position_of-append n (x ∷ xs) ys =
    let by : (b : Bool) → cond b (Some 0) (option_map suc (position_of n (xs ++ ys))) ≡ or_later (cond b (Some 0) (option_map suc (position_of n xs))) (suc (length xs)) (position_of n ys)
    = elim [
      | true ↦ refl
      | false ↦ ap (option_map suc) (position_of-append n xs ys) ∙ or_later-suc (position_of n xs) (length xs) (position_of n ys)
    ] in
    by (bytes_eq n x)

-- names that are put behind leave the positions of those that are there
pub position_of-append-Some : (n : List ℕ) (xs ys : List (List ℕ)) (i : ℕ) → position_of n xs ≡ Some i → position_of n (xs ++ ys) ≡ Some i
position_of-append-Some n xs ys i e = position_of-append n xs ys ∙ ap (λ (p : Option ℕ). or_later p (length xs) (position_of n ys)) e

-- a name that is not in the first list has the position of the second, which stands behind
pub position_of-append-None : (n : List ℕ) (xs ys : List (List ℕ)) → position_of n xs ≡ None → position_of n (xs ++ ys) ≡ option_map (λ (j : ℕ). length xs + j) (position_of n ys)
position_of-append-None n xs ys e = position_of-append n xs ys ∙ ap (λ (p : Option ℕ). or_later p (length xs) (position_of n ys)) e

-- a new name that is put at the end has the last place
pub position_of-push-new : (n : List ℕ) (xs : List (List ℕ)) → position_of n xs ≡ None → position_of n (xs ++ n ∷ []) ≡ Some (length xs)
position_of-push-new n xs e =
    let is : bytes_eq n n ≡ true = (bytes_eq-Decides n n).1 refl in
    let own : position_of n (n ∷ []) ≡ Some 0 = rw is refl in
    position_of-append-None n xs (n ∷ []) e ∙ ap (option_map (λ (j : ℕ). length xs + j)) own ∙ ap Some (omega arith)

-- a name that is put at the end gives no other name a position
pub position_of-push-other : (n m : List ℕ) (xs : List (List ℕ)) → m ≢ n → position_of n xs ≡ None → position_of n (xs ++ m ∷ []) ≡ None
position_of-push-other n m xs ne e = position_of-append-None n xs (m ∷ []) e ∙ ap (option_map (λ (j : ℕ). length xs + j)) (by (bytes_eq n m) refl)
  where
    by : (b : Bool) → bytes_eq n m ≡ b → cond {A = Option ℕ} b (Some 0) None ≡ None
    by true is = absurd (ne (sym ((bytes_eq-Decides n m).0 is)))
    by false is = refl

push_cases : (n : List ℕ) (xs : List (List ℕ)) (i : ℕ) (m : List ℕ) → slice_get (xs ++ n ∷ []) i ≡ Some m → (slice_get xs i ≡ Some m) ⊎ ((i ≡ length xs) × (n ≡ m))
push_cases n [] zero m e = inr (refl, cc)
push_cases n [] (suc i) m e = absurd cc
push_cases n (x ∷ xs) zero m e = inl e
push_cases n (x ∷ xs) (suc i) m e = ⊎_elim (λ is. inl is) (λ p. inr (omega (arith, p.0), p.1)) (push_cases n xs i m e)

-- a list without names has no two that are equal
pub AreDistinct-empty : AreDistinct []
AreDistinct-empty i j n e f = absurd cc

-- no two names are equal after a new one is put at the end
pub AreDistinct-push : (n : List ℕ) (xs : List (List ℕ)) → AreDistinct xs → position_of n xs ≡ None → AreDistinct (xs ++ n ∷ [])
AreDistinct-push n xs distinct new i j m e f = ⊎_elim (λ a. ⊎_elim (λ b. distinct i j m a b) (λ b. absurd (missing i a b.1)) (push_cases n xs j m f)) (λ a. ⊎_elim (λ b. absurd (missing j b a.1)) (λ b. a.0 ∙ sym b.0) (push_cases n xs j m f)) (push_cases n xs i m e)
  where
    missing : (k : ℕ) → slice_get xs k ≡ Some m → n ≡ m → ⊥
    missing k at is = position_of-None n xs new k (at ∙ ap Some (sym is))

-- Positions among keys that hold a name each.
module _ {K : Type 0} (v : K → List ℕ) (n : List ℕ) where
  shifted : (o : Option ℕ) (j : ℕ) → option_map (λ (i : ℕ). j + 1 + i) o ≡ option_map (λ (i : ℕ). j + i) (option_map suc o)
  shifted None j = refl
  shifted (Some i) j = ap Some (omega arith)

  position_from-map : (j : ℕ) (ks : List K) → position_from (λ (k : K). bytes_eq n (v k)) j ks ≡ option_map (λ (i : ℕ). j + i) (position_of n (map v ks))
  position_from-map j [] = refl
  position_from-map j (k ∷ ks) =
      let by : (b : Bool) → cond b (Some j) (position_from (λ (k : K). bytes_eq n (v k)) (j + 1) ks) ≡ option_map (λ (i : ℕ). j + i) (cond b (Some 0) (option_map suc (position_of n (map v ks))))
      = elim [
        | true ↦ ap Some (omega arith)
        | false ↦ position_from-map (j + 1) ks ∙ shifted (position_of n (map v ks)) j
      ] in
      by (bytes_eq n (v k))

  -- the first key that holds the name stands at the name's position
  pub position_of-map : (ks : List K) → position_from (λ (k : K). bytes_eq n (v k)) 0 ks ≡ position_of n (map v ks)
  position_of-map ks = position_from-map 0 ks ∙ sym (or_later-zero (position_of n (map v ks)))

  is_some-suc : (o : Option ℕ) → is_some o ≡ is_some (option_map suc o)
  is_some-suc None = refl
  is_some-suc (Some i) = refl

  -- some key holds the name exactly where the name has a position
  pub list_any-map : (ks : List K) → list_any (λ (k : K). bytes_eq n (v k)) ks ≡ is_some (position_of n (map v ks))
  list_any-map [] = refl
  list_any-map (k ∷ ks) =
      let by : (b : Bool) → b || list_any (λ (k : K). bytes_eq n (v k)) ks ≡ is_some (cond b (Some 0) (option_map suc (position_of n (map v ks))))
      = elim [ true ↦ refl | false ↦ list_any-map ks ∙ is_some-suc (position_of n (map v ks)) ] in
      by (bytes_eq n (v k))

  some_known : (o : Option ℕ) → is_some o ≡ true → IsSome o
  some_known None h = absurd cc
  some_known (Some i) h = search rules

  -- a name that some key holds has a position
  pub held_by_key : (ks : List K) → list_any (λ (k : K). bytes_eq n (v k)) ks ≡ true → IsSome (position_of n (map v ks))
  held_by_key ks h = some_known (position_of n (map v ks)) (sym (list_any-map ks) ∙ h)

  none_known : (o : Option ℕ) → is_some o ≡ false → o ≡ None
  none_known None h = refl
  none_known (Some i) h = absurd cc

  -- a name that no key holds has none
  pub held_by_no_key : (ks : List K) → list_any (λ (k : K). bytes_eq n (v k)) ks ≡ false → position_of n (map v ks) ≡ None
  held_by_no_key ks h = none_known (position_of n (map v ks)) (sym (list_any-map ks) ∙ h)

  -- the names after a key that holds a new name was put into a set of keys
  pub map-insert_key : (ks : List K) (x : K) → v x ≡ n → list_any (λ (k : K). bytes_eq n (v k)) ks ≡ false → map v (if list_any (λ (k : K). bytes_eq (v x) (v k)) ks then ks else ks ++ x ∷ []) ≡ map v ks ++ n ∷ []
  map-insert_key ks x is h =
      let absent : list_any (λ (k : K). bytes_eq (v x) (v k)) ks ≡ false = subst (λ (m : List ℕ). list_any (λ (k : K). bytes_eq m (v k)) ks ≡ false) (sym is) h in
      rw absent (map-append v ks (x ∷ []) ∙ ap (λ (m : List ℕ). map v ks ++ m ∷ []) is)
