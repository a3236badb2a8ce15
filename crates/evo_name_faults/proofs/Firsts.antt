-- The first that gives something, and what stands in a list.
use Rattle.std.proofs.Common.{◌≡◌, ℕ, zero, suc, List, [], ◌∷◌, map, Bool, true, false, Option, Some, None, slice_get, IsTrue, refl, sym, ap, ◌∙◌, ◌⊎◌, inl, inr, subst, if◌then◌else◌}
use Rattle.std.specs.Option.{option_map, option_or, option_and_then}
use Rattle.evo_base.specs.declared.place.Place.{Place}
use Rattle.evo_names.specs.Listed.{Text, Entry, World, Declaration, own_declarations}
use Rattle.evo_names.specs.Heads.{first_some}

-- ---- tests

pub is_true : (b : Bool) → IsTrue b → b ≡ true
is_true true h = refl
is_true false h = absurd cc

pub true_is : (b : Bool) → b ≡ true → IsTrue b
true_is b e = subst (λ (x : Bool). IsTrue x) (sym e) refl

-- ---- options

pub or_some : {B : Type 0} (o r : Option B) (p : B) → option_or o r ≡ Some p → (o ≡ Some p) ⊎ (r ≡ Some p)
or_some (Some q) r p e = inl e
or_some None r p e = inr e

pub or_none_first : {B : Type 0} (o r : Option B) → option_or o r ≡ None → o ≡ None
or_none_first (Some q) r e = absurd cc
or_none_first None r e = refl

pub or_none_rest : {B : Type 0} (o r : Option B) → option_or o r ≡ None → r ≡ None
or_none_rest (Some q) r e = absurd cc
or_none_rest None r e = e

pub no_some : {B : Type 0} (o : Option B) (p : B) → o ≡ Some p → o ≡ None → ⊥
no_some o p e f = absurd cc

-- ---- the first in a list

pub record Found {A B : Type 0} (f : A → Option B) (xs : List A) (p : B) : Type 0 where
  pub number : ℕ
  pub item : A
  pub at : slice_get xs number ≡ Some item
  pub here : f item ≡ Some p

found_by : {A B : Type 0} (f : A → Option B) (x : A) (xs : List A) (p : B) (rest : first_some f xs ≡ Some p → Found f xs p) (o : Option B) → f x ≡ o → option_or o (first_some f xs) ≡ Some p → Found f (x ∷ xs) p
found_by f x xs p rest (Some q) is e = record { number = 0; item = x; at = refl; here = is ∙ e }
found_by f x xs p rest None is e = let r = rest e in record { number = suc r.number; item = r.item; at = r.at; here = r.here }

pub found : {A B : Type 0} (f : A → Option B) (xs : List A) (p : B) → first_some f xs ≡ Some p → Found f xs p
found f [] p e = absurd cc
found f (x ∷ xs) p e = found_by f x xs p (found f xs p) (f x) refl e

pub nowhere : {A B : Type 0} (f : A → Option B) (xs : List A) (x : A) (i : ℕ) → first_some f xs ≡ None → slice_get xs i ≡ Some x → f x ≡ None
nowhere f [] x i none at = absurd cc
nowhere f (y ∷ ys) x zero none at = let same : y ≡ x = cc in ap f (sym same) ∙ or_none_first (f y) (first_some f ys) none
nowhere f (y ∷ ys) x (suc i) none at = nowhere f ys x i (or_none_rest (f y) (first_some f ys) none) at

-- ---- declarations

-- an entry of the list is a declaration in its world
at_in : (w : World) (es : List Entry) (i : ℕ) (e : Entry) → slice_get es i ≡ Some e → slice_get (map (λ (x : Entry). let d : Declaration = record { world = w; entry = x } in d) es) i ≡ Some (record { world = w; entry = e })
at_in w [] i e is = absurd cc
at_in w (x ∷ es) zero e is = ap (λ (o : Option Entry). option_map (λ (y : Entry). let d : Declaration = record { world = w; entry = y } in d) o) is
at_in w (x ∷ es) (suc i) e is = at_in w es i e is

pub at_of : (w : World) (i : ℕ) (e : Entry) → slice_get w.own.entries i ≡ Some e → slice_get (own_declarations w) i ≡ Some (record { world = w; entry = e })
at_of w i e is = at_in w w.own.entries i e is

entry_in : (w : World) (es : List Entry) (i : ℕ) (d : Declaration) → slice_get (map (λ (x : Entry). let d : Declaration = record { world = w; entry = x } in d) es) i ≡ Some d → slice_get es i ≡ Some d.entry
entry_in w [] i d is = absurd cc
entry_in w (x ∷ es) zero d is = ap (λ (o : Option Declaration). option_map (λ (y : Declaration). y.entry) o) is
entry_in w (x ∷ es) (suc i) d is = entry_in w es i d is

pub entry_of : (w : World) (i : ℕ) (d : Declaration) → slice_get (own_declarations w) i ≡ Some d → slice_get w.own.entries i ≡ Some d.entry
entry_of w i d is = entry_in w w.own.entries i d is

-- ---- a name that passes a test

pub record Passing (test : Text → Bool) (o : Option (Place × Text)) (p : Place) : Type 0 where
  pub text : Text
  pub is : o ≡ Some (p, text)
  pub passed : test text ≡ true

abbrev pub passing : (Text → Bool) → Option (Place × Text) → Option Place
passing test o = option_and_then (λ (n : Place × Text). if test n.1 then Some n.0 else None) o

passed_by : (test : Text → Bool) (q : Place) (n : Text) (p : Place) (b : Bool) → test n ≡ b → (if b then Some q else None) ≡ Some p → Passing test (Some (q, n)) p
passed_by test q n p true is e = let same : q ≡ p = cc in record { text = n; is = ap (λ (x : Place). Some (x, n)) same; passed = is }
passed_by test q n p false is e = absurd cc

pub passes : (test : Text → Bool) (o : Option (Place × Text)) (p : Place) → passing test o ≡ Some p → Passing test o p
passes test None p e = absurd cc
passes test (Some (q, n)) p e = passed_by test q n p (test n) refl e

pub passes_at : (test : Text → Bool) (o : Option (Place × Text)) (p : Place) (n : Text) → o ≡ Some (p, n) → test n ≡ true → passing test o ≡ Some p
passes_at test o p n is e = ap (passing test) is ∙ ap (λ (b : Bool). if b then Some p else None) e

-- ---- under a condition

pub if_some : (b : Bool) (o : Option Place) (p : Place) → (if b then o else None) ≡ Some p → (b ≡ true) × (o ≡ Some p)
if_some true o p e = (refl, e)
if_some false o p e = absurd cc

pub if_true : (b : Bool) (o : Option Place) → b ≡ true → (if b then o else None) ≡ o
if_true b o e = ap (λ (x : Bool). if x then o else None) e
