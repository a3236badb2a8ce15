-- Lists of things of kinds, in an order of their kinds: at most one of each kind stays so.
use Rattle.std.proofs.Common.{◌≡◌, ℕ, List, [], ◌∷◌, ◌++◌, map, Bool, true, false, refl, sym, ◌∙◌, ap, ap₂, subst, cond, append-nil}
use Rattle.std.specs.Prelude.{◌&&◌, ◌||◌, ◌==◌}
use Rattle.std.specs.List.{filter, list_any}
use Rattle.std.proofs.lemmas.Bool.Decides.{Decides-eqb}
use Rattle.std.proofs.lemmas.List.Elements.{filter-append}

-- ---- lists of some tests

-- a list is not empty
abbrev pub some : {X : Type 0} → List X → Bool
some [] = false
some (x ∷ xs) = true

-- a list has at most one item
abbrev pub is_short : {X : Type 0} → List X → Bool
is_short [] = true
is_short (x ∷ []) = true
is_short (x ∷ y ∷ xs) = false

pub none_is : {X : Type 0} (xs : List X) → some xs ≡ false → xs ≡ []
none_is [] h = refl
none_is (x ∷ xs) h = absurd (cc)

-- a list to which one more may be put is empty
pub short_left : {X : Type 0} (xs : List X) (x : X) (ys : List X) → is_short (xs ++ x ∷ ys) ≡ true → xs ≡ []
short_left [] x ys h = refl
short_left (y ∷ []) x ys h = absurd (cc)
short_left (y ∷ z ∷ xs) x ys h = absurd (cc)

pub any_filter : {X : Type 0} (p : X → Bool) (xs : List X) → list_any p xs ≡ some (filter p xs)
any_filter p [] = refl
any_filter p (x ∷ xs) = go (p x) (any_filter p xs)
  where
    go : (b : Bool) → list_any p xs ≡ some (filter p xs) → (b || list_any p xs) ≡ some (cond b (x ∷ filter p xs) (filter p xs))
    go true h = refl
    go false h = h

pub filter_false : {X : Type 0} (xs : List X) → filter (λ x. false) xs ≡ []
filter_false [] = refl
filter_false (x ∷ xs) = filter_false xs

-- what passes one test and then another
pub filter_twice : {X : Type 0} (p q r : X → Bool) → ((x : X) → (q x && p x) ≡ r x) → (xs : List X) → filter p (filter q xs) ≡ filter r xs
filter_twice p q r h [] = refl
filter_twice p q r h (x ∷ xs) = push (q x) ∙ pure (p x) (q x) (filter_twice p q r h xs) ∙ ap (λ z. cond z (x ∷ filter r xs) (filter r xs)) (h x)
  where
    push : (b : Bool) → filter p (cond b (x ∷ filter q xs) (filter q xs)) ≡ cond b (cond (p x) (x ∷ filter p (filter q xs)) (filter p (filter q xs))) (filter p (filter q xs))
    push true = refl
    push false = refl

    pure : (a b : Bool) → filter p (filter q xs) ≡ filter r xs → cond b (cond a (x ∷ filter p (filter q xs)) (filter p (filter q xs))) (filter p (filter q xs)) ≡ cond (b && a) (x ∷ filter r xs) (filter r xs)
    pure true true e = ap (λ z. x ∷ z) e
    pure true false e = e
    pure false true e = e
    pure false false e = e

pub map_filter : {X Y : Type 0} (f : X → Y) (p : X → Bool) (q : Y → Bool) → ((x : X) → q (f x) ≡ p x) → (xs : List X) → map f (filter p xs) ≡ filter q (map f xs)
map_filter f p q h [] = refl
map_filter f p q h (x ∷ xs) = go (p x) (map_filter f p q h xs) ∙ ap (λ b. cond b (f x ∷ filter q (map f xs)) (filter q (map f xs))) (sym (h x))
  where
    go : (b : Bool) → map f (filter p xs) ≡ filter q (map f xs) → map f (cond b (x ∷ filter p xs) (filter p xs)) ≡ cond b (f x ∷ filter q (map f xs)) (filter q (map f xs))
    go true e = ap (λ z. f x ∷ z) e
    go false e = e

pub any_map : {X Y : Type 0} (f : X → Y) (p : X → Bool) (q : Y → Bool) → ((x : X) → q (f x) ≡ p x) → (xs : List X) → list_any p xs ≡ list_any q (map f xs)
any_map f p q h [] = refl
any_map f p q h (x ∷ xs) = ap₂ (λ a b. a || b) (sym (h x)) (any_map f p q h xs)

-- ---- by number

pub same_number : (n : ℕ) → (n == n) ≡ true
same_number n = (Decides-eqb n n).1 refl

-- those of a number among those of a rank, which the number decides
pub among : {X : Type 0} (num : X → ℕ) (f : ℕ → ℕ) (n r : ℕ) (xs : List X) → filter (λ x. num x == n) (filter (λ x. f (num x) == r) xs) ≡ cond (f n == r) (filter (λ x. num x == n) xs) []
among {X} num f n r xs = go (f n == r) refl
  where
    both : (b c : Bool) (k : ℕ) → (f n == r) ≡ b → (k == n) ≡ c → ((f k == r) && c) ≡ (b && c)
    both b true k e is = ap (λ z. z && true) (ap (λ z. f z == r) ((Decides-eqb k n).0 is) ∙ e)
    both b false k e is = never (f k == r) ∙ sym (never b)
      where
        never : (b : Bool) → (b && false) ≡ false
        never true = refl
        never false = refl

    go : (b : Bool) → (f n == r) ≡ b → filter (λ x. num x == n) (filter (λ x. f (num x) == r) xs) ≡ cond b (filter (λ x. num x == n) xs) []
    go true e = filter_twice (λ x. num x == n) (λ x. f (num x) == r) (λ x. num x == n) (λ x. both true (num x == n) (num x) e refl) xs
    go false e = filter_twice (λ x. num x == n) (λ x. f (num x) == r) (λ x. false) (λ x. both false (num x == n) (num x) e refl) xs ∙ filter_false xs

-- ---- at most one of each kind

module _ {X : Type 0} (num : X → ℕ) (single : ℕ → Bool) where
  abbrev pub is_of : ℕ → X → Bool
  is_of n x = num x == n

  -- at most one of each kind of which there may be one alone
  abbrev pub AtMostOne : List X → Type 0
  AtMostOne xs = (x : X) → single (num x) ≡ true → is_short (filter (is_of (num x)) xs) ≡ true

  -- it may stand behind these
  abbrev pub MayFollow : X → List X → Type 0
  MayFollow x s = single (num x) ≡ true → list_any (is_of (num x)) s ≡ false

  pub one_nil : AtMostOne []
  one_nil x h = refl

  pub one_more : (s : List X) (x : X) → AtMostOne s → MayFollow x s → AtMostOne (s ++ x ∷ [])
  one_more s x one may y h = ap is_short (filter-append (is_of (num y)) s (x ∷ [])) ∙ go (num x == num y) refl
    where
      go : (b : Bool) → (num x == num y) ≡ b → is_short (filter (is_of (num y)) s ++ cond b (x ∷ []) []) ≡ true
      go false e = ap is_short (append-nil (filter (is_of (num y)) s)) ∙ one y h
      go true e =
          let same : num x ≡ num y = (Decides-eqb (num x) (num y)).0 e in
          let none : list_any (is_of (num y)) s ≡ false = subst (λ n. list_any (is_of n) s ≡ false) same (may (ap single same ∙ h)) in
          ap (λ z. is_short (z ++ x ∷ [])) (none_is (filter (is_of (num y)) s) (sym (any_filter (is_of (num y)) s) ∙ none))

  pub one_may : (s : List X) (x : X) (cs : List X) → AtMostOne (s ++ x ∷ cs) → MayFollow x s
  one_may s x cs one h = any_filter (is_of (num x)) s ∙ ap some (short_left (filter (is_of (num x)) s) x (filter (is_of (num x)) cs) (sym cut ∙ one x h))
    where
      cut : is_short (filter (is_of (num x)) (s ++ x ∷ cs)) ≡ is_short (filter (is_of (num x)) s ++ x ∷ filter (is_of (num x)) cs)
      cut = ap is_short (filter-append (is_of (num x)) s (x ∷ cs) ∙ ap (λ b. filter (is_of (num x)) s ++ cond b (x ∷ filter (is_of (num x)) cs) (filter (is_of (num x)) cs)) (same_number (num x)))

  -- another list with the same of each kind
  pub one_same : (xs ys : List X) → ((x : X) → filter (is_of (num x)) ys ≡ filter (is_of (num x)) xs) → AtMostOne xs → AtMostOne ys
  one_same xs ys same one x h = ap is_short (same x) ∙ one x h

-- ---- in the order of ranks

-- those of a number, among lists of those of some ranks
pub among_four : {X : Type 0} (num : X → ℕ) (f : ℕ → ℕ) (n : ℕ) (xs : List X) →
    filter (λ x. num x == n) (((filter (λ x. f (num x) == 0) xs ++ filter (λ x. f (num x) == 1) xs) ++ filter (λ x. f (num x) == 2) xs) ++ filter (λ x. f (num x) == 3) xs)
    ≡ ((cond (f n == 0) (filter (λ x. num x == n) xs) [] ++ cond (f n == 1) (filter (λ x. num x == n) xs) []) ++ cond (f n == 2) (filter (λ x. num x == n) xs) []) ++ cond (f n == 3) (filter (λ x. num x == n) xs) []
among_four {X} num f n xs = filter-append is ((part 0 ++ part 1) ++ part 2) (part 3) ∙ ap₂ (λ a b. a ++ b) (filter-append is (part 0 ++ part 1) (part 2) ∙ ap₂ (λ a b. a ++ b) (filter-append is (part 0) (part 1) ∙ ap₂ (λ a b. a ++ b) (here 0) (here 1)) (here 2)) (here 3)
  where
    is : X → Bool
    is x = num x == n

    part : ℕ → List X
    part r = filter (λ x. f (num x) == r) xs

    here : (r : ℕ) → filter (λ x. num x == n) (filter (λ x. f (num x) == r) xs) ≡ cond (f n == r) (filter (λ x. num x == n) xs) []
    here r = among num f n r xs

pub among_five : {X : Type 0} (num : X → ℕ) (f : ℕ → ℕ) (n : ℕ) (xs : List X) →
    filter (λ x. num x == n) ((((filter (λ x. f (num x) == 0) xs ++ filter (λ x. f (num x) == 1) xs) ++ filter (λ x. f (num x) == 2) xs) ++ filter (λ x. f (num x) == 3) xs) ++ filter (λ x. f (num x) == 4) xs)
    ≡ (((cond (f n == 0) (filter (λ x. num x == n) xs) [] ++ cond (f n == 1) (filter (λ x. num x == n) xs) []) ++ cond (f n == 2) (filter (λ x. num x == n) xs) []) ++ cond (f n == 3) (filter (λ x. num x == n) xs) []) ++ cond (f n == 4) (filter (λ x. num x == n) xs) []
among_five {X} num f n xs = filter-append (λ x. num x == n) _ (filter (λ x. f (num x) == 4) xs) ∙ ap₂ (λ a b. a ++ b) (among_four num f n xs) (among num f n 4 xs)
