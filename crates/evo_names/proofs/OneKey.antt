-- Where no two declarations meet, each key is that of one declaration.
use Rattle.std.proofs.Common.{◌≡◌, ℕ, ◌<◌, ◌≤◌, List, [], ◌∷◌, Bool, true, false, not, ◌&&◌, ◌||◌, cond, IsTrue, Option, Some, None, slice_get, refl, sym, ap, subst}
use Rattle.std.proofs.lemmas.Slice.Eq.{bytes_eq-Decides}
use Rattle.evo_base.specs.declared.key.Key.{Key}
use Rattle.evo_names.specs.declared.declared_name.DeclaredName.{DeclaredName}
use Rattle.evo_names.specs.Meets.{same_name, same_names, same_labels, is_excused, clash, covers, meets, marks_of, key_by_name, NoneTwice, IsFormed}

name_itself : (a : List ℕ) → same_name a a ≡ true
name_itself a = (bytes_eq-Decides a a).1 refl

names_themselves : (xs : List (List ℕ)) → same_names xs xs ≡ true
names_themselves [] = refl
names_themselves (x ∷ xs) = let n = name_itself x in let r = names_themselves xs in rw (n, r) refl

labels_themselves : (o : Option (List (List ℕ))) → same_labels o o ≡ true
labels_themselves None = refl
labels_themselves (Some xs) = names_themselves xs

same_marks : (a b : Bool) → marks_of a ≡ marks_of b → a ≡ b
same_marks true true e = refl
same_marks true false e = absurd cc
same_marks false true e = absurd cc
same_marks false false e = refl

-- neither is excused
excused : (a b x y : Bool) → a ≡ b → (b && x) ≡ false → (((a && x) && y) ≡ false)
excused true true true y e f = absurd cc
excused true true false y e f = refl
excused true false x y e f = absurd cc
excused false b x y e f = refl

clashes : (a b : DeclaredName) → a.labels ≡ b.labels → a.requirement ≡ b.requirement → IsFormed a → IsFormed b → clash a b ≡ true
clashes a b same req fa fb =
    let labels : same_labels a.labels b.labels ≡ true = subst (λ (o : Option (List (List ℕ))). same_labels a.labels o ≡ true) same (labels_themselves a.labels) in
    by (same_labels a.labels b.labels) labels
  where
    one : is_excused a b ≡ false
    one = excused3 a.requirement b.requirement b.extends (not b.is_static) (same_name a.module b.module) req fb
      where
        excused3 : (p q x y z : Bool) → p ≡ q → (q && x) ≡ false → (((p && x) && y) && z) ≡ false
        excused3 p q x y z e f = ap (λ (r : Bool). r && z) (excused p q x y e f)

    two : is_excused b a ≡ false
    two = excused3 b.requirement a.requirement a.extends (not a.is_static) (same_name b.module a.module) (sym req) fa
      where
        excused3 : (p q x y z : Bool) → p ≡ q → (q && x) ≡ false → (((p && x) && y) && z) ≡ false
        excused3 p q x y z e f = ap (λ (r : Bool). r && z) (excused p q x y e f)

    by : (l : Bool) → l ≡ true → cond l (not (is_excused a b) && not (is_excused b a)) (covers a.sort b || covers b.sort a) ≡ true
    by true e = rw (one, two) refl
    by false e = absurd cc

-- two with one key meet
pub meet_by_key : (a b : DeclaredName) → key_by_name a ≡ key_by_name b → IsFormed a → IsFormed b → meets a b ≡ true
meet_by_key a b e fa fb =
    let base : same_name a.base b.base ≡ true = subst (λ (n : List ℕ). same_name a.base n ≡ true) (ap (λ (k : Key). k.base) e) (name_itself a.base) in
    let context : same_names a.context b.context ≡ true = subst (λ (n : List (List ℕ)). same_names a.context n ≡ true) (ap (λ (k : Key). k.context) e) (names_themselves a.context) in
    let marks = same_marks a.requirement b.requirement (ap (λ (k : Key). k.part.marks) e) in
    let clashing : clash a b ≡ true = clashes a b (ap (λ (k : Key). k.labels) e) marks fa fb in
    all (same_name a.base b.base) (same_names a.context b.context) (clash a b) base context clashing
  where
    all : (x y z : Bool) → x ≡ true → y ≡ true → z ≡ true → ((x && y) && z) ≡ true
    all true true true e f g = refl
    all true true false e f g = absurd cc
    all true false z e f g = absurd cc
    all false y z e f g = absurd cc

-- two declarations have different keys
pub one_key : (names : List DeclaredName) (start i j : ℕ) (a b : DeclaredName) → NoneTwice names start → start ≤ j → i < j → slice_get names i ≡ Some a → slice_get names j ≡ Some b → IsFormed a → IsFormed b → key_by_name a ≡ key_by_name b → ⊥
one_key names start i j a b none le less at bt fa fb e =
    none i j le less (record { earlier = a; later = b; at_i = at; at_j = bt; met = subst (λ (r : Bool). IsTrue r) (sym (meet_by_key a b e fa fb)) refl })
