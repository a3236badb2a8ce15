-- Lists of `typealias`es, each told once.
use Rattle.std.proofs.Common.{◌≡◌, List, [], ◌∷◌, ◌++◌, Bool, true, false, ◌&&◌, ◌||◌, refl, sym, ap, ap₂, ◌∙◌, if◌then◌else◌}
use Rattle.std.specs.List.{list_any}
use Rattle.std.proofs.lemmas.Slice.Eq.{bytes_eq-Decides}
use Rattle.evo_base.specs.declared.key.Key.{Key}
use Rattle.evo_names.specs.Listed.{Text}
use Rattle.evo_names.specs.Meets.{same_name, same_names}
use Rattle.evo_names.specs.Written.{same_alias, is_met, add_met, joined}

and_left : (a b : Bool) → (a && b) ≡ true → a ≡ true
and_left true b e = refl
and_left false b e = absurd cc

and_right : (a b : Bool) → (a && b) ≡ true → b ≡ true
and_right true b e = e
and_right false b e = absurd cc

names_are : (xs ys : List Text) → same_names xs ys ≡ true → xs ≡ ys
names_are [] [] e = refl
names_are [] (y ∷ ys) e = absurd cc
names_are (x ∷ xs) [] e = absurd cc
names_are (x ∷ xs) (y ∷ ys) e =
    let head : x ≡ y = (bytes_eq-Decides x y).0 (and_left (same_name x y) (same_names xs ys) e) in
    let tail : xs ≡ ys = names_are xs ys (and_right (same_name x y) (same_names xs ys) e) in
    ap₂ (λ (t : Text) (ts : List Text). t ∷ ts) head tail

-- what is met is met by another of the same module, context and name
abbrev met_parts : Text → List Text → Text → List Key → Bool
met_parts m c b ks = list_any (λ (x : Key). same_name m x.module && (same_names c x.context && same_name b x.base)) ks

same_met : (a b : Key) (ks : List Key) → same_alias a b ≡ true → is_met a ks ≡ is_met b ks
same_met a b ks e =
    let rest = and_right (same_name a.module b.module) (same_names a.context b.context && same_name a.base b.base) e in
    let m : a.module ≡ b.module = (bytes_eq-Decides a.module b.module).0 (and_left (same_name a.module b.module) (same_names a.context b.context && same_name a.base b.base) e) in
    let c : a.context ≡ b.context = names_are a.context b.context (and_left (same_names a.context b.context) (same_name a.base b.base) rest) in
    let n : a.base ≡ b.base = (bytes_eq-Decides a.base b.base).0 (and_right (same_names a.context b.context) (same_name a.base b.base) rest) in
    ap (λ (t : Text). met_parts t a.context a.base ks) m ∙ ap (λ (ts : List Text). met_parts b.module ts a.base ks) c ∙ ap (λ (t : Text). met_parts b.module b.context t ks) n

or_true : (a : Bool) → (a || true) ≡ true
or_true true = refl
or_true false = refl

or_right : (a b : Bool) → b ≡ true → (a || b) ≡ true
or_right true b e = refl
or_right false b e = e

or_split : {A : Type 0} (a b : Bool) → (a || b) ≡ true → (a ≡ true → A) → (b ≡ true → A) → A
or_split true b e f g = f refl
or_split false b e f g = g e

met_front : (k : Key) (xs ys : List Key) → is_met k xs ≡ true → is_met k (xs ++ ys) ≡ true
met_front k [] ys e = absurd cc
met_front k (x ∷ xs) ys e = or_split (same_alias k x) (is_met k xs) e (λ one. ap (λ (b : Bool). b || is_met k (xs ++ ys)) one) (λ two. or_right (same_alias k x) (is_met k (xs ++ ys)) (met_front k xs ys two))

met_last : (k y : Key) (xs : List Key) → same_alias k y ≡ true → is_met k (xs ++ y ∷ []) ≡ true
met_last k y [] e = ap (λ (b : Bool). b || false) e
met_last k y (x ∷ xs) e = or_right (same_alias k x) (is_met k (xs ++ y ∷ [])) (met_last k y xs e)

-- what is met stays so
add_keeps : (k y : Key) (xs : List Key) (b : Bool) → is_met y xs ≡ b → is_met k xs ≡ true → is_met k (if b then xs else xs ++ y ∷ []) ≡ true
add_keeps k y xs true is e = e
add_keeps k y xs false is e = met_front k xs (y ∷ []) e

add_has : (k y : Key) (xs : List Key) (b : Bool) → is_met y xs ≡ b → same_alias k y ≡ true → is_met k (if b then xs else xs ++ y ∷ []) ≡ true
add_has k y xs true is e = same_met k y xs e ∙ is
add_has k y xs false is e = met_last k y xs e

joined_keeps : (k : Key) (xs ys : List Key) → is_met k xs ≡ true → is_met k (joined xs ys) ≡ true
joined_keeps k xs [] e = e
joined_keeps k xs (y ∷ ys) e = joined_keeps k (add_met xs y) ys (add_keeps k y xs (is_met y xs) refl e)

joined_has : (k : Key) (xs ys : List Key) → is_met k ys ≡ true → is_met k (joined xs ys) ≡ true
joined_has k xs [] e = absurd cc
joined_has k xs (y ∷ ys) e = or_split (same_alias k y) (is_met k ys) e (λ one. joined_keeps k (add_met xs y) ys (add_has k y xs (is_met y xs) refl one)) (λ two. joined_has k (add_met xs y) ys two)

joined_last : (xs ys : List Key) (z : Key) → joined xs (ys ++ z ∷ []) ≡ add_met (joined xs ys) z
joined_last xs [] z = refl
joined_last xs (y ∷ ys) z = joined_last (add_met xs y) ys z

add_joined : (xs ys : List Key) (z : Key) (b : Bool) → is_met z ys ≡ b → add_met (joined xs ys) z ≡ joined xs (if b then ys else ys ++ z ∷ [])
add_joined xs ys z true is = ap (λ (b : Bool). if b then joined xs ys else joined xs ys ++ z ∷ []) (joined_has z xs ys is)
add_joined xs ys z false is = sym (joined_last xs ys z)

pub joined_assoc : (xs ys zs : List Key) → joined (joined xs ys) zs ≡ joined xs (joined ys zs)
joined_assoc xs ys [] = refl
joined_assoc xs ys (z ∷ zs) = ap (λ (l : List Key). joined l zs) (add_joined xs ys z (is_met z ys) refl) ∙ joined_assoc xs (add_met ys z) zs
