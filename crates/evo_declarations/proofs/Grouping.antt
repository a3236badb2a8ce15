-- The groups of a list of texts grow with the list.
use Rattle.std.proofs.Common.{◌≡◌, ℕ, zero, suc, ◌+◌, ◌<◌, List, [], ◌∷◌, ◌++◌, length, map, Option, Some, None, slice_get, slice_set, Bool, true, false, refl, sym, ap, subst, ◌∙◌, arith, if◌then◌else◌, add-zero, Result, Ok, Err, IsSome, take, ◌≤◌, add-one}
use Rattle.std.specs.Str.{bytes_eq}
use Rattle.std.specs.Option.{option_map_or}
use Rattle.std.specs.Result.{OnOk}
use Rattle.std.proofs.Math.ListN.{get_or, get_or-append}
use Rattle.std.proofs.Math.Seq.{get_or-append_seam}
use Rattle.std.proofs.lemmas.List.{get_or-set_same, get_or-set_other}
use Rattle.std.proofs.lemmas.Slice.Eq.{bytes_eq-Decides}
use Rattle.evo_base.specs.Names.{position_of, Inserts}
use Rattle.evo_base.proofs.Names.{slice_get-position_of, position_of-within, position_of-push-new, position_of-push-other, position_of-append-Some}
use Rattle.evo_declarations.specs.declared.groups.Groups.{Groups}
use Rattle.evo_names.specs.Listed.{Text}
use Rattle.evo_declarations.specs.Groups.{numbers_from, numbers_of, Added, IsGrouped, group_of, list_at, pushed, IsEven}

with_tests : (b c : Bool) (i k : ℕ) (a r : List ℕ) → r ≡ (if c then a ++ k ∷ [] else a) → (if b then i ∷ r else r) ≡ (if c then (if b then i ∷ a else a) ++ k ∷ [] else (if b then i ∷ a else a))
with_tests true true i k a r e = ap (λ x. i ∷ x) e
with_tests true false i k a r e = ap (λ x. i ∷ x) e
with_tests false true i k a r e = e
with_tests false false i k a r e = e

first_number : (b : Bool) (i : ℕ) → (if b then i ∷ [] else []) ≡ (if b then (i + 0) ∷ [] else [])
first_number true i = ap (λ k. k ∷ []) (sym (add-zero i))
first_number false i = refl

-- a text more at the end
pub numbers_from-append : (i : ℕ) (n : Text) (xs : List Text) (x : Text) → numbers_from i n (xs ++ x ∷ []) ≡ (if bytes_eq n x then numbers_from i n xs ++ (i + length xs) ∷ [] else numbers_from i n xs)
numbers_from-append i n [] x = first_number (bytes_eq n x) i
numbers_from-append i n (y ∷ ys) x =
    let at : i + 1 + length ys ≡ i + suc (length ys) = omega arith in
    let more = subst (λ k. numbers_from (i + 1) n (ys ++ x ∷ []) ≡ (if bytes_eq n x then numbers_from (i + 1) n ys ++ k ∷ [] else numbers_from (i + 1) n ys)) at (numbers_from-append (i + 1) n ys x) in
    with_tests (bytes_eq n y) (bytes_eq n x) i (i + suc (length ys)) (numbers_from (i + 1) n ys) (numbers_from (i + 1) n (ys ++ x ∷ [])) more

pub grown : (xs : List Text) (x : Text) (k : ℕ) (g h : Groups) → k ≡ length xs → IsGrouped xs g → Added g h x k → IsGrouped (xs ++ x ∷ []) h
grown xs x k g h at is added n =
    let more = numbers_from-append 0 n xs x in
    let same : 0 + length xs ≡ k = omega arith in
    let told = subst (λ m. numbers_of n (xs ++ x ∷ []) ≡ (if bytes_eq n x then numbers_of n xs ++ m ∷ [] else numbers_of n xs)) same more in
    added n ∙ ap (λ g. if bytes_eq n x then g ++ k ∷ [] else g) (is n) ∙ sym told

-- ---- one number more

at_or : (gs : List (List ℕ)) (i : ℕ) → list_at gs i ≡ get_or gs i []
at_or [] i = refl
at_or (g ∷ gs) zero = refl
at_or (g ∷ gs) (suc i) = at_or gs i

same_place : (xs : List Text) (m n : Text) (i : ℕ) → bytes_eq m n ≡ false → position_of n xs ≡ Some i → position_of m xs ≡ Some i → ⊥
same_place xs m n i not at also =
    let one : slice_get xs i ≡ Some n = slice_get-position_of n xs i at in
    let two : slice_get xs i ≡ Some m = slice_get-position_of m xs i also in
    let same : m ≡ n = cc in
    let is : bytes_eq m n ≡ true = (bytes_eq-Decides m n).1 same in
    absurd cc

abbrev group_in : List (List ℕ) → Option ℕ → List ℕ
group_in gs o = option_map_or (λ i. list_at gs i) o []

at_same : (gs : List (List ℕ)) (i k : ℕ) → i < length gs → list_at (pushed gs i k) i ≡ list_at gs i ++ k ∷ []
at_same gs i k lt = at_or (pushed gs i k) i ∙ get_or-set_same gs i (list_at gs i ++ k ∷ []) [] lt

at_other : (gs : List (List ℕ)) (i j k : ℕ) → (j ≡ i → ⊥) → list_at (pushed gs i k) j ≡ list_at gs j
at_other gs i j k ne = at_or (pushed gs i k) j ∙ get_or-set_other gs i j (list_at gs i ++ k ∷ []) [] ne ∙ sym (at_or gs j)

pub more_at : (xs : List Text) (gs : List (List ℕ)) (n : Text) (i k : ℕ) → position_of n xs ≡ Some i → i < length gs → (m : Text) → group_in (pushed gs i k) (position_of m xs) ≡ (if bytes_eq m n then group_in gs (position_of m xs) ++ k ∷ [] else group_in gs (position_of m xs))
more_at xs gs n i k at lt m = by (bytes_eq m n) refl (position_of m xs) refl
  where
    by : (b : Bool) → bytes_eq m n ≡ b → (o : Option ℕ) → position_of m xs ≡ o → group_in (pushed gs i k) o ≡ (if b then group_in gs o ++ k ∷ [] else group_in gs o)
    by true is o here =
        let same : m ≡ n = (bytes_eq-Decides m n).0 is in
        let found : Some i ≡ o = sym at ∙ ap (λ (x : Text). position_of x xs) (sym same) ∙ here in
        subst (λ (p : Option ℕ). group_in (pushed gs i k) p ≡ group_in gs p ++ k ∷ []) found (at_same gs i k lt)
    by false is None here = refl
    by false is (Some j) here = at_other gs i j k (λ e. same_place xs m n i is at (here ∙ ap (λ (x : ℕ). Some x) e))

behind_all : (gs : List (List ℕ)) (j : ℕ) (g : List ℕ) → j < length gs → list_at (gs ++ g ∷ []) j ≡ list_at gs j
behind_all gs j g lt = at_or (gs ++ g ∷ []) j ∙ get_or-append gs (g ∷ []) [] j lt ∙ sym (at_or gs j)

pub more_new : (xs : List Text) (gs : List (List ℕ)) (n : Text) (k : ℕ) → position_of n xs ≡ None → length gs ≡ length xs → (m : Text) → group_in (gs ++ (k ∷ []) ∷ []) (position_of m (xs ++ n ∷ [])) ≡ (if bytes_eq m n then group_in gs (position_of m xs) ++ k ∷ [] else group_in gs (position_of m xs))
more_new xs gs n k none even m = by (bytes_eq m n) refl (position_of m xs) refl
  where
    by : (b : Bool) → bytes_eq m n ≡ b → (o : Option ℕ) → position_of m xs ≡ o → group_in (gs ++ (k ∷ []) ∷ []) (position_of m (xs ++ n ∷ [])) ≡ (if b then group_in gs o ++ k ∷ [] else group_in gs o)
    by true is o here =
        let same : n ≡ m = sym ((bytes_eq-Decides m n).0 is) in
        let nowhere : None ≡ o = sym none ∙ ap (λ (x : Text). position_of x xs) same ∙ here in
        let there : position_of m (xs ++ n ∷ []) ≡ Some (length gs) = subst (λ (x : Text). position_of x (xs ++ n ∷ []) ≡ Some (length gs)) same (position_of-push-new n xs none ∙ ap (λ (j : ℕ). Some j) (sym even)) in
        ap (group_in (gs ++ (k ∷ []) ∷ [])) there ∙ at_or (gs ++ (k ∷ []) ∷ []) (length gs) ∙ get_or-append_seam gs (k ∷ []) [] [] ∙ ap (λ (p : Option ℕ). group_in gs p ++ k ∷ []) nowhere
    by false is None here = ap (group_in (gs ++ (k ∷ []) ∷ [])) (position_of-push-other m n xs (λ e. (let met : bytes_eq m n ≡ true = (bytes_eq-Decides m n).1 (sym e) in absurd cc)) here)
    by false is (Some j) here =
        let lt : j < length gs = rw even (position_of-within m xs j here) in
        ap (group_in (gs ++ (k ∷ []) ∷ [])) (position_of-append-Some m xs (n ∷ []) j here) ∙ behind_all gs j (k ∷ []) lt

pub on_ok : {A E : Type 0} {P Q : Type 0} → (P → Q) → (r : Result A E) → OnOk r P → OnOk r Q
on_ok f (Ok x) p = f p
on_ok f (Err e) p = tt

pub put_at : (g : Groups) (gs : List (List ℕ)) (n : Text) (i k : ℕ) → IsEven g → position_of n g.texts ≡ Some i → gs ≡ pushed g.groups.items i k → (h : Groups) → h.texts ≡ g.texts → h.groups.items ≡ gs → Added g h n k
put_at g gs n i k even at is h texts groups m =
    let lt : i < length g.groups.items = rw even (position_of-within n g.texts i at) in
    ap (λ (xs : List Text). group_in h.groups.items (position_of m xs)) texts ∙ ap (λ (ys : List (List ℕ)). group_in ys (position_of m g.texts)) (groups ∙ is) ∙ more_at g.texts g.groups.items n i k at lt m

pub put_new : (g h : Groups) (n : Text) (k : ℕ) → IsEven g → position_of n g.texts ≡ None → h.texts ≡ g.texts ++ n ∷ [] → h.groups.items ≡ g.groups.items ++ (k ∷ []) ∷ [] → Added g h n k
put_new g h n k even none texts groups m = ap (λ (xs : List Text). group_in h.groups.items (position_of m xs)) texts ∙ ap (λ (ys : List (List ℕ)). group_in ys (position_of m (g.texts ++ n ∷ []))) groups ∙ more_new g.texts g.groups.items n k none even m

-- whether the text was new is known
pub inserted_new : (old new : List Text) (n : Text) (b : Bool) → position_of n old ≡ None → Inserts old new n b → new ≡ old ++ n ∷ []
inserted_new old new n true none i = i.1
inserted_new old new n false none i = absurd (by (position_of n old) none i.0)
  where
    by : (o : Option ℕ) → o ≡ None → IsSome o → ⊥
    by (Some j) e s = absurd cc
    by None e s = absurd cc

taken_suc : {A : Type 0} (f : A → Text) (ts : List A) (i : ℕ) (d : A) → i < length ts → map f (take (suc i) ts) ≡ map f (take i ts) ++ f (get_or ts i d) ∷ []
taken_suc f [] i d lt = absurd (omega arith)
taken_suc f (t ∷ ts) zero d lt = refl
taken_suc f (t ∷ ts) (suc i) d lt = ap (λ xs. f t ∷ xs) (taken_suc f ts i d (omega arith))

taken_length : {A : Type 0} (f : A → Text) (ts : List A) (i : ℕ) → i ≤ length ts → length (map f (take i ts)) ≡ i
taken_length f ts zero le = refl
taken_length f [] (suc i) le = absurd (omega arith)
taken_length f (t ∷ ts) (suc i) le = ap suc (taken_length f ts i (omega arith))

-- the groups of the texts before a place grow by the text there
pub grown_at : {A : Type 0} (f : A → Text) (ts : List A) (i : ℕ) (d : A) (g h : Groups) → i < length ts → IsGrouped (map f (take i ts)) g → Added g h (f (get_or ts i d)) i → IsGrouped (map f (take (i + 1) ts)) h
grown_at f ts i d g h lt is added =
    let all : map f (take (i + 1) ts) ≡ map f (take i ts) ++ f (get_or ts i d) ∷ [] = rw add-one (taken_suc f ts i d lt) in
    subst (λ (xs : List Text). IsGrouped xs h) (sym all) (grown (map f (take i ts)) (f (get_or ts i d)) i g h (sym (taken_length f ts i (omega arith))) is added)
