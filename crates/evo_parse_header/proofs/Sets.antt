-- Sets of what may stand next: tokens by the numbers of their terminals, and the end.
use Rattle.std.proofs.Common.{◌≡◌, ℕ, Bool, true, false, not, List, [], ◌∷◌, Option, Some, None, refl, sym, subst, eqb-true}
use Rattle.std.specs.Prelude.{◌==◌, ◌&&◌, ◌||◌}
use Rattle.std.proofs.lemmas.Bool.{or_left, or_right}
use Rattle.evo_tree.specs.declared.terminal.Terminal.TheVariants as t
use Rattle.evo_tree.specs.Pieces.{Piece}
use Rattle.evo_tree.specs.Terminals.{number_of}
use Rattle.evo_parse_expr.proofs.Among.{among, same_number}
use Rattle.evo_parse_expr.proofs.Tests.{and_both, both_and}

-- the number of the end, behind those of all terminals
abbrev pub the_end : ℕ
the_end = 100

abbrev pub look : Option Piece → ℕ
look None = the_end
look (Some p) = number_of p.terminal

-- these numbers, or all but these
pub data Set : Type 0 where
  these : List ℕ → Set
  but : List ℕ → Set

abbrev pub contains : Set → ℕ → Bool
contains (these ms) n = among ms n
contains (but ms) n = not (among ms n)

abbrev pub all_in : Set → List ℕ → Bool
all_in a [] = true
all_in a (n ∷ ns) = contains a n && all_in a ns

abbrev pub none_in : Set → List ℕ → Bool
none_in a [] = true
none_in a (n ∷ ns) = not (contains a n) && none_in a ns

-- each of the first is in the second
abbrev pub included : Set → Set → Bool
included (these ms) b = all_in b ms
included (but ms) (these ns) = false
included (but ms) (but ns) = all_in (these ms) ns

-- what stands next is in the set
abbrev pub In : Set → Option Piece → Type 0
In a x = contains a (look x) ≡ true

not_both : (a : Bool) → a ≡ true → not a ≡ true → ⊥
not_both true e h = cc
not_both false e h = cc

pub among_cons : (P : Type 0) (n m : ℕ) (ms : List ℕ) → (n ≡ m → P) → (among ms n ≡ true → P) → among (m ∷ ms) n ≡ true → P
among_cons P n m ms here there is = go (n == m) refl is
  where
    go : (b : Bool) → (n == m) ≡ b → (b || among ms n) ≡ true → P
    go true same h = here (eqb-true n m same)
    go false same h = there h

pub all_holds : (a : Set) (n : ℕ) (ms : List ℕ) → all_in a ms ≡ true → among ms n ≡ true → contains a n ≡ true
all_holds a n [] all is = absurd (cc)
all_holds a n (m ∷ ms) all is = among_cons (contains a n ≡ true) n m ms
    (λ same. subst (λ k. contains a k ≡ true) (sym same) (and_both (contains a m) (all_in a ms) all).0)
    (λ later. all_holds a n ms (and_both (contains a m) (all_in a ms) all).1 later) is

pub none_holds : (a : Set) (n : ℕ) (ms : List ℕ) → none_in a ms ≡ true → among ms n ≡ true → contains a n ≡ true → ⊥
none_holds a n [] none is has = cc
none_holds a n (m ∷ ms) none is has = among_cons ⊥ n m ms
    (λ same. not_both (contains a m) (subst (λ k. contains a k ≡ true) same has) (and_both (not (contains a m)) (none_in a ms) none).0)
    (λ later. none_holds a n ms (and_both (not (contains a m)) (none_in a ms) none).1 later has) is

pub included_in : (a b : Set) → included a b ≡ true → (n : ℕ) → contains a n ≡ true → contains b n ≡ true
included_in (these ms) b all n is = all_holds b n ms all is
included_in (but ms) (these ns) all n is = absurd (cc)
included_in (but ms) (but ns) all n is = go (among ns n) refl
  where
    go : (b : Bool) → among ns n ≡ b → not b ≡ true
    go true has = absurd (not_both (among ms n) (all_holds (these ms) n ns all has) is)
    go false has = refl

pub into : (a b : Set) → included a b ≡ true → (x : Option Piece) → In a x → In b x
into a b all x is = included_in a b all (look x) is

pub among_first : (n : ℕ) (ms : List ℕ) → among (n ∷ ms) n ≡ true
among_first n ms = or_left (n == n) (among ms n) (same_number n)

all_among : (ms ns : List ℕ) → ((n : ℕ) → among ns n ≡ true → among ms n ≡ true) → all_in (these ms) ns ≡ true
all_among ms [] sub = refl
all_among ms (n ∷ ns) sub = both_and (among ms n) (all_in (these ms) ns) (sub n (among_first n ns)) (all_among ms ns (λ m h. sub m (or_right (m == n) (among ns m) h)))

pub included_refl : (a : Set) → included a a ≡ true
included_refl (these ms) = all_among ms ms (λ n h. h)
included_refl (but ms) = all_among ms ms (λ n h. h)

-- what may follow a declaration is nothing that goes on with one
abbrev pub Ends : Set
Ends = but (number_of t.Arrow ∷ number_of t.Where ∷ number_of t.Dot ∷ number_of t.Comma ∷ number_of t.And ∷ number_of t.OpenBrace ∷ number_of t.Colon ∷ number_of t.Equal ∷ number_of t.OpenParenthesis ∷ [])

abbrev pub EndsOrBrace : Set
EndsOrBrace = but (number_of t.Arrow ∷ number_of t.Where ∷ number_of t.Dot ∷ number_of t.Comma ∷ number_of t.And ∷ number_of t.Colon ∷ number_of t.Equal ∷ number_of t.OpenParenthesis ∷ [])
