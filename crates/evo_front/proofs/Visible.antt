-- The functions that clients see.
use Rattle.std.proofs.Common.{◌≡◌, ℕ, zero, suc, List, [], ◌∷◌, Some, refl, ap}
use Rattle.std.specs.Prelude.{slice_get}
use Rattle.evo_base.specs.Names.{AreDistinct}
use Rattle.evo_first_form.specs.declared.Access.{Access}
use Rattle.evo_first_form.specs.declared.Access.TheVariants as is
use Rattle.evo_first_form.specs.declared.Term.{Term}
use Rattle.evo_first_form.specs.declared.Function.{Function}
use Rattle.evo_first_form.specs.Interface.{names_of, declared_names, declarations_of, interface_of}
use Rattle.evo_first_form.specs.Calls.{calls_of_term}
use Rattle.evo_first_form.specs.Accepted.{AreKnown, AreBodiesKnown, AreCopiesKnown, callable, IsAcceptedLibrary, IsAcceptedInterface}

-- names with one in front
distinct-tail : (x : List ℕ) (xs : List (List ℕ)) → AreDistinct (x ∷ xs) → AreDistinct xs
distinct-tail x xs distinct i j n e f = let same : suc i ≡ suc j = distinct (suc i) (suc j) n e f in cc

distinct-head : (x : List ℕ) (xs : List (List ℕ)) → AreDistinct (x ∷ xs) → (i : ℕ) → slice_get xs i ≡ Some x → ⊥
distinct-head x xs distinct i e = let same : zero ≡ suc i = distinct zero (suc i) x refl e in absurd cc

distinct-cons : (x : List ℕ) (xs : List (List ℕ)) → ((i : ℕ) → slice_get xs i ≡ Some x → ⊥) → AreDistinct xs → AreDistinct (x ∷ xs)
distinct-cons x xs new distinct zero zero n e f = refl
distinct-cons x xs new distinct zero (suc j) n e f = absurd (new j (let same : x ≡ n = cc in let at : slice_get xs j ≡ Some x = cc in at))
distinct-cons x xs new distinct (suc i) zero n e f = absurd (new i (let same : x ≡ n = cc in let at : slice_get xs i ≡ Some x = cc in at))
distinct-cons x xs new distinct (suc i) (suc j) n e f = ap suc (distinct i j n e f)

-- a name that clients see is a name of the library
abbrev Seen : List Function → Type 0
Seen fs = (i : ℕ) (x : List ℕ) → slice_get (declared_names (declarations_of fs)) i ≡ Some x → (j : ℕ) × (slice_get (names_of fs) j ≡ Some x)

seen-cons : (fs : List Function) (a : Access) (name : List ℕ) (body : Term) → Seen fs → Seen (record { access = a; name = name; body = body } ∷ fs)
seen-cons fs is.Internal name body more i x e = let there = more i x e in (suc there.0, there.1)
seen-cons fs is.Public name body more zero x e = (zero, e)
seen-cons fs is.Public name body more (suc i) x e = let there = more i x e in (suc there.0, there.1)
seen-cons fs is.Inlinable name body more zero x e = (zero, e)
seen-cons fs is.Inlinable name body more (suc i) x e = let there = more i x e in (suc there.0, there.1)

seen : (fs : List Function) → Seen fs
seen [] = λ i x e. absurd cc
seen (f ∷ fs) = seen-cons fs f.access f.name f.body (seen fs)

-- the names that clients see are distinct where all are
distinct_seen-cons : (fs : List Function) (a : Access) (name : List ℕ) (body : Term) → AreDistinct (declared_names (declarations_of fs)) → AreDistinct (name ∷ declared_names (declarations_of fs)) → AreDistinct (declared_names (declarations_of (record { access = a; name = name; body = body } ∷ fs)))
distinct_seen-cons fs is.Internal name body rest longer = rest
distinct_seen-cons fs is.Public name body rest longer = longer
distinct_seen-cons fs is.Inlinable name body rest longer = longer

pub distinct_seen : (fs : List Function) → AreDistinct (names_of fs) → AreDistinct (declared_names (declarations_of fs))
distinct_seen [] distinct = distinct
distinct_seen (f ∷ fs) distinct =
    let rest = distinct_seen fs (distinct-tail f.name (names_of fs) distinct) in
    let new : (i : ℕ) → slice_get (declared_names (declarations_of fs)) i ≡ Some f.name → ⊥ = λ i e. let there = seen fs i f.name e in distinct-head f.name (names_of fs) distinct there.0 there.1 in
    distinct_seen-cons fs f.access f.name f.body rest (distinct-cons f.name (declared_names (declarations_of fs)) new rest)

-- the bodies that clients may copy call what clients see
copies-cons : (library fs : List Function) (a : Access) (name : List ℕ) (body : Term) → AreKnown (callable a library) (calls_of_term body) → AreCopiesKnown (declared_names (declarations_of library)) (declarations_of fs) → AreCopiesKnown (declared_names (declarations_of library)) (declarations_of (record { access = a; name = name; body = body } ∷ fs))
copies-cons library fs is.Internal name body here more = more
copies-cons library fs is.Public name body here more = (tt, more)
copies-cons library fs is.Inlinable name body here more = (here, more)

copies : (library fs : List Function) → AreBodiesKnown library fs → AreCopiesKnown (declared_names (declarations_of library)) (declarations_of fs)
copies library [] known = tt
copies library (f ∷ fs) known = copies-cons library fs f.access f.name f.body known.0 (copies library fs known.1)

pub accepted_interface : (library : List ℕ) (fs : List Function) → IsAcceptedLibrary library fs → IsAcceptedInterface (interface_of library fs)
accepted_interface library fs accepted = record { distinct = distinct_seen fs accepted.distinct; bodies = copies fs fs accepted.bodies }

-- the names that clients see, from a function on
pub visible-cons : (fs : List Function) (a : Access) (name : List ℕ) (body : Term) → (a ≡ is.Internal → ⊥) → declared_names (declarations_of (record { access = a; name = name; body = body } ∷ fs)) ≡ name ∷ declared_names (declarations_of fs)
visible-cons fs is.Internal name body shown = absurd (shown refl)
visible-cons fs is.Public name body shown = refl
visible-cons fs is.Inlinable name body shown = refl
