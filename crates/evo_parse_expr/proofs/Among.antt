-- One of some numbers, as those of terminals.
use Rattle.std.specs.Prelude.{◌≡◌, ℕ, ◌==◌, ◌||◌, ◌&&◌, Bool, true, false, not, List, [], ◌∷◌, ◌++◌, refl}
use Rattle.std.proofs.Common.{sym, ◌∙◌, ap, inl, inr, eqb-true}
use Rattle.std.proofs.lemmas.Bool.{or_left, or_right, or_cases}
use Rattle.std.proofs.lemmas.Bool.Decides.{Decides-eqb}
use Rattle.evo_parse_expr.proofs.Tests.{and_both}

abbrev pub among : List ℕ → ℕ → Bool
among [] n = false
among (k ∷ ks) n = n == k || among ks n

abbrev pub disjoint : List ℕ → List ℕ → Bool
disjoint [] ks = true
disjoint (j ∷ js) ks = not (among ks j) && disjoint js ks

abbrev pub within : List ℕ → List ℕ → Bool
within [] ks = true
within (j ∷ js) ks = among ks j && within js ks

pub same_number : (n : ℕ) → (n == n) ≡ true
same_number n = (Decides-eqb n n).1 refl

pub among_alone : (n k : ℕ) → (n == k) ≡ true → among (k ∷ []) n ≡ true
among_alone n k e = or_left (n == k) false e

pub among_at : (ks : List ℕ) (n k : ℕ) → n ≡ k → among ks k ≡ true → among ks n ≡ true
among_at ks n k e is = ap (among ks) e ∙ is

pub not_among : (ks : List ℕ) (n k : ℕ) → among ks n ≡ true → n ≡ k → among ks k ≡ false → ⊥
not_among ks n k is e isnt = let both = sym is ∙ ap (among ks) e ∙ isnt in cc

pub apart : (js ks : List ℕ) (n : ℕ) → disjoint js ks ≡ true → among js n ≡ true → among ks n ≡ true → ⊥
apart [] ks n d e is = cc
apart (j ∷ js) ks n d e is = let (here, later) = and_both (not (among ks j)) (disjoint js ks) d in
    elim (or_cases (n == j) (among js n) e) [
      | inl same ↦ bad_not (among ks j) here (ap (among ks) (sym (eqb-true n j same)) ∙ is)
      | inr more ↦ apart js ks n later more is
    ]
  where
    bad_not : (b : Bool) → not b ≡ true → b ≡ true → ⊥
    bad_not true e h = cc
    bad_not false e h = cc

pub widened : (js ks : List ℕ) (n : ℕ) → within js ks ≡ true → among js n ≡ true → among ks n ≡ true
widened [] ks n w e = absurd cc
widened (j ∷ js) ks n w e = let (here, later) = and_both (among ks j) (within js ks) w in
    elim (or_cases (n == j) (among js n) e) [
      | inl same ↦ ap (among ks) (eqb-true n j same) ∙ here
      | inr more ↦ widened js ks n later more
    ]

pub among_append : (js ks : List ℕ) (n : ℕ) → among js n ≡ true → among (js ++ ks) n ≡ true
among_append [] ks n e = absurd cc
among_append (j ∷ js) ks n e = elim (or_cases (n == j) (among js n) e) [
  | inl same ↦ or_left (n == j) (among (js ++ ks) n) same
  | inr more ↦ or_right (n == j) (among (js ++ ks) n) (among_append js ks n more)
]

pub among_behind : (js ks : List ℕ) (n : ℕ) → among ks n ≡ true → among (js ++ ks) n ≡ true
among_behind [] ks n e = e
among_behind (j ∷ js) ks n e = or_right (n == j) (among (js ++ ks) n) (among_behind js ks n e)
