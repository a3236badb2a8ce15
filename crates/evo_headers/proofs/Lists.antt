-- Lists whose items correspond, and what one of a list has.
use Rattle.std.proofs.Common.{◌≡◌, ℕ, zero, suc, ◌+◌, ◌<◌, List, [], ◌∷◌, ◌++◌, length, take, get_or, refl, sym, ap, subst, arith, add-one, ◌∙◌, append-nil, append_assoc, flat_map, map, Result, Ok, Err}
use Rattle.std.specs.Result.{IsErrAnd}
use Rattle.evo_names.specs.Resolved.{Pairs, no_more, one_more}
use Rattle.evo_names.specs.Faults.{At}
use Rattle.evo_headers.specs.Unresolved.{One, here, later}
use Rattle.evo_headers.specs.Added.{Adds}
use Rattle.evo_headers.specs.declared.gap.Gap.{Gap}
use Rattle.evo_headers.specs.declared.gap.Gap.TheVariants as gap
use Rattle.evo_headers.specs.Gaps.{Resolves, Stops}

pub pairs_append : {A B : Type 0} {R : A → B → Type 0} {xs us : List A} {ys vs : List B} → Pairs R xs ys → Pairs R us vs → Pairs R (xs ++ us) (ys ++ vs)
pairs_append no_more q = q
pairs_append (one_more r p) q = one_more r (pairs_append p q)

take_next : {A : Type 0} (xs : List A) (i : ℕ) (x : A) → i < length xs → x ≡ get_or xs i x → take (suc i) xs ≡ take i xs ++ x ∷ []
take_next [] i x lt e = absurd (omega arith)
take_next (y ∷ ys) zero x lt e = ap (λ z. z ∷ []) (sym e)
take_next (y ∷ ys) (suc i) x lt e = ap (λ zs. y ∷ zs) (take_next ys i x (omega arith) e)

-- as a list is gone through
pub pairs_next : {A B : Type 0} (R : A → B → Type 0) (xs : List A) (i : ℕ) (x : A) (ys zs : List B) (y : B) → i < length xs → x ≡ get_or xs i x → Pairs R (take i xs) ys → R x y → zs ≡ ys ++ y ∷ [] → Pairs R (take (i + 1) xs) zs
pairs_next R xs i x ys zs y lt e p r is =
    let all : take (i + 1) xs ≡ take i xs ++ x ∷ [] = rw add-one (take_next xs i x lt e) in
    subst (λ us. Pairs R us zs) (sym all) (subst (λ vs. Pairs R (take i xs ++ x ∷ []) vs) (sym is) (pairs_append p (one_more r no_more)))

pub one_here : {A : Type 0} (P : A → Type 0) (xs : List A) (i : ℕ) (x : A) → i < length xs → x ≡ get_or xs i x → P x → One P xs
one_here P [] i x lt e p = absurd (omega arith)
one_here P (y ∷ ys) zero x lt e p = here (subst P e p)
one_here P (y ∷ ys) (suc i) x lt e p = later (one_here P ys i x (omega arith) e p)

pub one_left : {A : Type 0} {P : A → Type 0} {xs : List A} (ys : List A) → One P xs → One P (xs ++ ys)
one_left ys (here p) = here p
one_left ys (later o) = later (one_left ys o)

pub one_right : {A : Type 0} {P : A → Type 0} (xs : List A) {ys : List A} → One P ys → One P (xs ++ ys)
one_right [] o = o
one_right (x ∷ xs) o = later (one_right xs o)

-- at which number
pub record Found {A : Type 0} (P : A → Type 0) (xs : List A) : Type 0 where
  pub number : ℕ
  pub item : A
  pub at : At xs number item
  pub holds : P item

next : {A : Type 0} {P : A → Type 0} (x : A) (xs : List A) → Found P xs → Found P (x ∷ xs)
next x xs f = record { number = suc f.number; item = f.item; at = f.at; holds = f.holds }

pub found_in : {A : Type 0} {P : A → Type 0} (xs : List A) → One P xs → Found P xs
found_in [] o = elim o [ ]
found_in (x ∷ xs) (here p) = record { number = zero; item = x; at = refl; holds = p }
found_in (x ∷ xs) (later o) = next x xs (found_in xs o)

-- ---- answers

abbrev pub weaker : {F G : Type 0} → (F → G) → (g : Gap) → Stops F g → Stops G g
weaker f gap.Memory s = refl
weaker f gap.Unknown s = f s

-- where a `?` leaves
pub exit : {A : Type 0} {F G : Type 0} (P : A → Type 0) (r : Result A Gap) (g : Gap) → IsErrAnd r (λ y. y ≡ g) → (F → G) → Stops F g → Resolves r P G
exit {A} {F} {G} P (Err y) g e f s = subst (λ (x : Gap). Stops G x) (sym e) (weaker f g s)
exit P (Ok x) g e f s = absurd e

-- ---- parts behind others

pub pairs_start : {A B : Type 0} (R : A → B → Type 0) (ys : List B) → ys ≡ [] → Pairs R [] ys
pairs_start R ys e = subst (λ zs. Pairs R [] zs) (sym e) no_more

pub adds_nothing : {A B : Type 0} (R : A → B → Type 0) (old : List B) → Adds R [] old old
adds_nothing R old = record { more = []; behind = sym (append-nil old); pairs = no_more }

pub adds_one : {A B : Type 0} (R : A → B → Type 0) (x : A) (y : B) (old new : List B) → R x y → new ≡ old ++ y ∷ [] → Adds R (x ∷ []) old new
adds_one R x y old new r e = record { more = y ∷ []; behind = e; pairs = one_more r no_more }

pub adds_both : {A B : Type 0} (R : A → B → Type 0) (xs us : List A) (a b c : List B) → Adds R xs a b → Adds R us b c → Adds R (xs ++ us) a c
adds_both R xs us a b c p q = record { more = p.more ++ q.more; behind = q.behind ∙ ap (λ ys. ys ++ q.more) p.behind ∙ append_assoc a p.more q.more; pairs = pairs_append p.pairs q.pairs }

flat_next : {A B : Type 0} (f : A → List B) (xs : List A) (i : ℕ) (x : A) → i < length xs → x ≡ get_or xs i x → flat_map f (take (suc i) xs) ≡ flat_map f (take i xs) ++ f x
flat_next f [] i x lt e = absurd (omega arith)
flat_next f (y ∷ ys) zero x lt e = append-nil (f y) ∙ ap f (sym e)
flat_next f (y ∷ ys) (suc i) x lt e = ap (λ zs. f y ++ zs) (flat_next f ys i x (omega arith) e) ∙ sym (append_assoc (f y) (flat_map f (take i ys)) (f x))

map_next : {A B : Type 0} (f : A → B) (xs : List A) (i : ℕ) (x : A) → i < length xs → x ≡ get_or xs i x → map f (take (suc i) xs) ≡ map f (take i xs) ++ f x ∷ []
map_next f [] i x lt e = absurd (omega arith)
map_next f (y ∷ ys) zero x lt e = ap (λ z. f z ∷ []) (sym e)
map_next f (y ∷ ys) (suc i) x lt e = ap (λ zs. f y ∷ zs) (map_next f ys i x (omega arith) e)

pub adds_flat_next : {A C B : Type 0} (R : C → B → Type 0) (f : A → List C) (xs : List A) (i : ℕ) (x : A) (a b c : List B) → i < length xs → x ≡ get_or xs i x → Adds R (flat_map f (take i xs)) a b → Adds R (f x) b c → Adds R (flat_map f (take (i + 1) xs)) a c
adds_flat_next R f xs i x a b c lt e p q =
    let all : flat_map f (take (i + 1) xs) ≡ flat_map f (take i xs) ++ f x = rw add-one (flat_next f xs i x lt e) in
    subst (λ ys. Adds R ys a c) (sym all) (adds_both R (flat_map f (take i xs)) (f x) a b c p q)

pub adds_map_next : {A C B : Type 0} (R : C → B → Type 0) (f : A → C) (xs : List A) (i : ℕ) (x : A) (a b c : List B) → i < length xs → x ≡ get_or xs i x → Adds R (map f (take i xs)) a b → Adds R (f x ∷ []) b c → Adds R (map f (take (i + 1) xs)) a c
adds_map_next R f xs i x a b c lt e p q =
    let all : map f (take (i + 1) xs) ≡ map f (take i xs) ++ f x ∷ [] = rw add-one (map_next f xs i x lt e) in
    subst (λ ys. Adds R ys a c) (sym all) (adds_both R (map f (take i xs)) (f x ∷ []) a b c p q)

-- one of a part of a list
pub one_flat : {A B : Type 0} (P : B → Type 0) (f : A → List B) (xs : List A) (i : ℕ) (x : A) → i < length xs → x ≡ get_or xs i x → One P (f x) → One P (flat_map f xs)
one_flat P f [] i x lt e o = absurd (omega arith)
one_flat P f (y ∷ ys) zero x lt e o = one_left (flat_map f ys) (subst (λ z. One P (f z)) e o)
one_flat P f (y ∷ ys) (suc i) x lt e o = one_right (f y) (one_flat P f ys i x (omega arith) e o)

pub one_of_none : {A : Type 0} {P : A → Type 0} {C : Type 0} → One P [] → C
one_of_none o = elim o [ ]

pub one_alone : {A : Type 0} {P : A → Type 0} {x : A} → One P (x ∷ []) → P x
one_alone (here p) = p
one_alone (later o) = one_of_none o

pub one_first : {A : Type 0} {P : A → Type 0} {x : A} (xs : List A) → One P (x ∷ []) → One P (x ∷ xs)
one_first xs (here p) = here p
one_first xs (later o) = one_of_none o

pub resolves : {A : Type 0} {P Q : A → Type 0} {F G : Type 0} (r : Result A Gap) → ((x : A) → P x → Q x) → (F → G) → Resolves r P F → Resolves r Q G
resolves (Ok x) p f h = p x h
resolves (Err g) p f h = weaker f g h

pub adds_all : {A B : Type 0} (R : A → B → Type 0) (xs : List A) (old new : List B) → Adds R xs old new → old ≡ [] → Pairs R xs new
adds_all R xs old new a e = subst (λ ys. Pairs R xs ys) (sym (a.behind ∙ ap (λ ys. ys ++ a.more) e)) a.pairs

-- one of the parts of a list's items
pub one_map : {A B : Type 0} (P : B → Type 0) (f : A → B) (xs : List A) (i : ℕ) (x : A) → i < length xs → x ≡ get_or xs i x → P (f x) → One P (map f xs)
one_map P f [] i x lt e p = absurd (omega arith)
one_map P f (y ∷ ys) zero x lt e p = here (subst (λ z. P (f z)) e p)
one_map P f (y ∷ ys) (suc i) x lt e p = later (one_map P f ys i x (omega arith) e p)
