-- What wants itself means nothing, and what is found out is known.
use Rattle.std.proofs.Common.{◌≡◌, ℕ, zero, suc, ◌+◌, ◌≤◌, ◌⊎◌, inl, inr, List, [], ◌∷◌, ◌++◌, length, Option, Some, None, Bool, true, IsTrue, slice_get, refl, sym, ap, subst, ◌∙◌, arith}
use Rattle.evo_members.specs.declared.located.Located.{Located}
use Rattle.evo_members.specs.Located.{start_at, start_of}
use Rattle.evo_names.specs.Listed.{World}
use Rattle.evo_names.specs.Written as written
use Rattle.evo_names.specs.Written.{Start, Leads}
use Rattle.evo_type_names.specs.declared.known.Known.{Known}
use Rattle.evo_type_names.specs.declared.meaning.Meaning.{Meaning}
use Rattle.evo_type_names.specs.Known.{size, AllKnown, Demands, Says, Under, Within, is_place}
use Rattle.evo_type_names.specs.Resolving.{Chained, Distinct, HasTurned, IsOn}
use Rattle.evo_type_names.proofs.Lists.{at_within}

some_same : {A : Type 0} {x y : A} → Some x ≡ Some y → x ≡ y
some_same e = cc

-- ---- lists

at_front : {A : Type 0} (xs ys : List A) (i : ℕ) (x : A) → slice_get xs i ≡ Some x → slice_get (xs ++ ys) i ≡ Some x
at_front [] ys i x e = absurd cc
at_front (y ∷ xs) ys zero x e = e
at_front (y ∷ xs) ys (suc i) x e = at_front xs ys i x e

at_last : {A : Type 0} (xs : List A) (y : A) → slice_get (xs ++ y ∷ []) (length xs) ≡ Some y
at_last [] y = refl
at_last (x ∷ xs) y = at_last xs y

at_push : {A : Type 0} (xs : List A) (y : A) (i : ℕ) (x : A) → slice_get (xs ++ y ∷ []) i ≡ Some x → (slice_get xs i ≡ Some x) ⊎ (y ≡ x)
at_push [] y zero x e = inr (some_same e)
at_push [] y (suc i) x e = absurd cc
at_push (z ∷ xs) y zero x e = inl e
at_push (z ∷ xs) y (suc i) x e = at_push xs y i x e

not_empty : {A : Type 0} (xs : List A) (y : A) → slice_get (xs ++ y ∷ []) 0 ≡ None → ⊥
not_empty [] y e = absurd cc
not_empty (x ∷ xs) y e = absurd cc

last_is : {A : Type 0} (xs : List A) (y : A) (i : ℕ) (x : A) → slice_get (xs ++ y ∷ []) i ≡ Some x → slice_get (xs ++ y ∷ []) (suc i) ≡ None → y ≡ x
last_is [] y zero x e none = some_same e
last_is [] y (suc i) x e none = absurd cc
last_is (z ∷ xs) y zero x e none = absurd (not_empty xs y none)
last_is (z ∷ xs) y (suc i) x e none = last_is xs y i x e none

-- two neighbours where one more stands at the end
pairs : {A : Type 0} (xs : List A) (y : A) (i : ℕ) (a b : A) → slice_get (xs ++ y ∷ []) i ≡ Some a → slice_get (xs ++ y ∷ []) (suc i) ≡ Some b → ((slice_get xs i ≡ Some a) × (slice_get xs (suc i) ≡ Some b)) ⊎ ((slice_get xs i ≡ Some a) × (slice_get xs (suc i) ≡ None) × (y ≡ b))
pairs [] y zero a b e f = absurd cc
pairs [] y (suc i) a b e f = absurd cc
pairs (x ∷ []) y zero a b e f = inr (e, refl, some_same f)
pairs (x ∷ z ∷ xs) y zero a b e f = inl (e, f)
pairs (x ∷ xs) y (suc i) a b e f = pairs xs y i a b e f

-- ---- places

pub same_start : (w : World) (a b : Located) → is_place a ≡ is_place b → start_of w a ≡ start_of w b
unfolding start_of
same_start w a b e = ap (λ (p : ℕ × written.Around). start_at w p.1 p.0) e

-- ---- the stack

pub chained_front : (w : World) (ls : List Located) (top : Located) → Chained w (ls ++ top ∷ []) → Chained w ls
chained_front w ls top c i a b e f = c i a b (at_front ls (top ∷ []) i a e) (at_front ls (top ∷ []) (suc i) b f)

chained_more_by : (w : World) (ls : List Located) (top next : Located) → Chained w (ls ++ top ∷ []) → Demands w (start_of w top) (start_of w next) → (i : ℕ) (a b : Located) → ((slice_get (ls ++ top ∷ []) i ≡ Some a) × (slice_get (ls ++ top ∷ []) (suc i) ≡ Some b)) ⊎ ((slice_get (ls ++ top ∷ []) i ≡ Some a) × (slice_get (ls ++ top ∷ []) (suc i) ≡ None) × (next ≡ b)) → Demands w (start_of w a) (start_of w b)
chained_more_by w ls top next c d i a b (inl p) = c i a b p.0 p.1
chained_more_by w ls top next c d i a b (inr p) =
    let same : top ≡ a = last_is ls top i a p.0 p.1 in
    subst (λ (y : Located). Demands w (start_of w a) (start_of w y)) p.2 (subst (λ (x : Located). Demands w (start_of w x) (start_of w next)) same d)

pub chained_more : (w : World) (ls : List Located) (top next : Located) → Chained w (ls ++ top ∷ []) → Demands w (start_of w top) (start_of w next) → Chained w ((ls ++ top ∷ []) ++ next ∷ [])
chained_more w ls top next c d i a b e f = chained_more_by w ls top next c d i a b (pairs (ls ++ top ∷ []) next i a b e f)

pub chained_one : (w : World) (l : Located) → Chained w (l ∷ [])
chained_one w l i a b e f = absurd (no_second i f)
  where
    no_second : (i : ℕ) → slice_get (l ∷ []) (suc i) ≡ Some b → ⊥
    no_second i f = absurd cc

pub on_front : (ls : List Located) (top y : Located) → IsOn ls y → IsOn (ls ++ top ∷ []) y
on_front ls top y on = record { number = on.number; one = on.one; at = at_front ls (top ∷ []) on.number on.one on.at; same = on.same }

pub on_last : (ls : List Located) (top y : Located) → is_place top ≡ is_place y → IsOn (ls ++ top ∷ []) y
on_last ls top y same = record { number = length ls; one = top; at = at_last ls top; same = same }

-- ---- places that wait, each once

at_end : {A : Type 0} (xs : List A) (y : A) (i : ℕ) (x : A) → slice_get (xs ++ y ∷ []) i ≡ Some x → (slice_get xs i ≡ Some x) ⊎ ((y ≡ x) × (i ≡ length xs))
at_end [] y zero x e = inr (some_same e, refl)
at_end [] y (suc i) x e = absurd cc
at_end (z ∷ xs) y zero x e = inl e
at_end (z ∷ xs) y (suc i) x e = by (at_end xs y i x e)
  where
    by : (slice_get xs i ≡ Some x) ⊎ ((y ≡ x) × (i ≡ length xs)) → (slice_get xs i ≡ Some x) ⊎ ((y ≡ x) × (suc i ≡ suc (length xs)))
    by (inl at) = inl at
    by (inr p) = inr (p.0, ap suc p.1)

pub distinct_front : (ls : List Located) (top : Located) → Distinct (ls ++ top ∷ []) → Distinct ls
distinct_front ls top d i j a b lt e f same = d i j a b lt (at_front ls (top ∷ []) i a e) (at_front ls (top ∷ []) j b f) same

pub distinct_one : (l : Located) → Distinct (l ∷ [])
distinct_one l i zero a b lt e f same = absurd (omega (arith, lt))
distinct_one l i (suc j) a b lt e f same = absurd cc

pub distinct_more : (ks : List Located) (next : Located) → Distinct ks → (IsOn ks next → ⊥) → Distinct (ks ++ next ∷ [])
distinct_more ks next d off i j a b lt e f same = by (at_end ks next i a e) (at_end ks next j b f)
  where
    by : (slice_get ks i ≡ Some a) ⊎ ((next ≡ a) × (i ≡ length ks)) → (slice_get ks j ≡ Some b) ⊎ ((next ≡ b) × (j ≡ length ks)) → ⊥
    by (inl x) (inl y) = d i j a b lt x y same
    by (inl x) (inr y) = off (record { number = i; one = a; at = x; same = subst (λ (l : Located). is_place a ≡ is_place l) (sym y.0) same })
    by (inr x) (inl y) = let within = at_within ks j b y in let here = x.1 in absurd (omega (arith, lt, here, within))
    by (inr x) (inr y) = let here = x.1 in let there = y.1 in absurd (omega (arith, lt, here, there))

-- on a stack with one more at the end
pub off_both : (ls : List Located) (top y : Located) → (is_place top ≡ is_place y → ⊥) → (IsOn ls y → ⊥) → IsOn (ls ++ top ∷ []) y → ⊥
off_both ls top y other off on = by (at_end ls top on.number on.one on.at)
  where
    by : (slice_get ls on.number ≡ Some on.one) ⊎ ((top ≡ on.one) × (on.number ≡ length ls)) → ⊥
    by (inl at) = off (record { number = on.number; one = on.one; at = at; same = on.same })
    by (inr p) = other (subst (λ (l : Located). is_place l ≡ is_place y) (sym p.0) on.same)

-- ---- circles

within_of : {w : World} {x : Start} {n : ℕ} → Under w x n → Within w x n
within_of u = let under = u.size_under in record { view = u.view; met = u.met; type = u.type; leads = u.leads; size_within = omega (arith, under) }

within_under : {w : World} {x : Start} {m n : ℕ} → m ≤ n → Under w x m → Within w x n
within_under le u = let under = u.size_under in record { view = u.view; met = u.met; type = u.type; leads = u.leads; size_within = omega (arith, under, le) }

module _ (w : World) (top : Located) where
  shift : (k : Located) (ks : List Located) → Chained w (k ∷ ks) → Chained w ks
  shift k ks c i a b e f = c (suc i) a b e f

  to_top : (ls : List Located) → Chained w (ls ++ top ∷ []) → (i : ℕ) (a : Located) → slice_get (ls ++ top ∷ []) i ≡ Some a → (n : ℕ) → Within w (start_of w a) n → Within w (start_of w top) n
  to_top [] c zero a e n i = subst (λ (x : Located). Within w (start_of w x) n) (sym (some_same e)) i
  to_top [] c (suc k) a e n i = absurd cc
  to_top (l ∷ ls) c (suc k) a e n i = to_top ls (shift l (ls ++ top ∷ []) c) k a e n i
  to_top (l ∷ ls) c zero a e n i = by (slice_get (ls ++ top ∷ []) 0) refl (to_top ls (shift l (ls ++ top ∷ []) c) 0)
    where
      by : (o : Option Located) → slice_get (ls ++ top ∷ []) 0 ≡ o → ((b : Located) → slice_get (ls ++ top ∷ []) 0 ≡ Some b → (n : ℕ) → Within w (start_of w b) n → Within w (start_of w top) n) → Within w (start_of w top) n
      by None none rest = absurd (not_empty ls top none)
      by (Some b) at rest = rest b at n (within_under i.size_within (c 0 a b e at i.view i.met i.type i.leads))

  no_way : (y : Start) → Demands w (start_of w top) y → ((n : ℕ) → Within w y n → Within w (start_of w top) n) → (n : ℕ) → Under w y n → ⊥
  no_way y d back zero u = absurd (let under = u.size_under in omega (arith, under))
  no_way y d back (suc n) u =
      let under = u.size_under in
      let i = back n (record { view = u.view; met = u.met; type = u.type; leads = u.leads; size_within = omega (arith, under) }) in
      let next = d i.view i.met i.type i.leads in
      let less = next.size_under in
      let within = i.size_within in
      no_way y d back n (record { view = next.view; met = next.met; type = next.type; leads = next.leads; size_under = omega (arith, less, within) })

  pub circle : (ls : List Located) (y : Located) → Chained w (ls ++ top ∷ []) → Demands w (start_of w top) (start_of w y) → IsOn (ls ++ top ∷ []) y → Says w (start_of w top) None
  circle ls y c d on v met t leads =
      let same : start_of w y ≡ start_of w on.one = sym (same_start w on.one y on.same) in
      let back = λ (n : ℕ) (i : Within w (start_of w y) n). to_top ls c on.number on.one on.at n (subst (λ (x : Start). Within w x n) same i) in
      let u = d v met t leads in
      no_way (start_of w y) d back (size leads) u

-- ---- what is known

known_by : (w : World) (k x : Known) → Says w (start_of w k.located) k.found → k ≡ x → Says w (start_of w x.located) x.found
known_by w k x says same = subst (λ (y : Known). Says w (start_of w y.located) y.found) same says

all_by : (w : World) (ks : List Known) (k x : Known) (i : ℕ) → AllKnown w ks → Says w (start_of w k.located) k.found → (slice_get ks i ≡ Some x) ⊎ (k ≡ x) → Says w (start_of w x.located) x.found
all_by w ks k x i all says (inl e) = all i x e
all_by w ks k x i all says (inr e) = known_by w k x says e

pub all_more : (w : World) (ks : List Known) (k : Known) → AllKnown w ks → Says w (start_of w k.located) k.found → AllKnown w (ks ++ k ∷ [])
all_more w ks k all says i x e = all_by w ks k x i all says (at_push ks k i x e)

pub none_known : (w : World) → AllKnown w []
none_known w i k e = absurd cc

-- ---- a turn

noted_length : {A : Type 0} (xs : List A) (x : A) → length (xs ++ x ∷ []) ≡ length xs + 1
noted_length [] x = refl
noted_length (y ∷ xs) x = let e : suc (length xs + 1) ≡ suc (length xs) + 1 = omega arith in ap suc (noted_length xs x) ∙ e

pub turned_noted : (w : World) (ks ms : List Known) (ls : List Located) (top : Located) (found : Option Meaning) → AllKnown w ks → Chained w (ls ++ top ∷ []) → Distinct (ls ++ top ∷ []) → Says w (start_of w top) found → ms ≡ ks ++ (record { located = top; found = found }) ∷ [] → HasTurned w ks ls ms ls
turned_noted w ks ms ls top found all chained distinct says is =
    subst (λ (xs : List Known). HasTurned w ks ls xs ls) (sym is) (all_more w ks (record { located = top; found = found }) all says, chained_front w ls top chained, distinct_front ls top distinct, inl (noted_length ks (record { located = top; found = found }), refl))

two_more : {A : Type 0} (xs : List A) (x y : A) → length ((xs ++ x ∷ []) ++ y ∷ []) ≡ length xs + 2
two_more xs x y = let e : length xs + 1 + 1 ≡ length xs + 2 = omega arith in noted_length (xs ++ x ∷ []) y ∙ ap (λ k. k + 1) (noted_length xs x) ∙ e

pub turned_pushed : (w : World) (ks : List Known) (ls mid new : List Located) (top next : Located) → AllKnown w ks → Chained w (ls ++ top ∷ []) → Distinct (ls ++ top ∷ []) → (IsOn (ls ++ top ∷ []) next → ⊥) → Demands w (start_of w top) (start_of w next) → mid ≡ ls ++ top ∷ [] → new ≡ mid ++ next ∷ [] → HasTurned w ks ls ks new
turned_pushed w ks ls mid new top next all chained distinct off demands one two =
    let is : new ≡ (ls ++ top ∷ []) ++ next ∷ [] = two ∙ ap (λ (l : List Located). l ++ next ∷ []) one in
    subst (λ (xs : List Located). HasTurned w ks ls ks xs) (sym is) (all, chained_more w ls top next chained demands, distinct_more (ls ++ top ∷ []) next distinct off, inr (refl, two_more ls top next))
