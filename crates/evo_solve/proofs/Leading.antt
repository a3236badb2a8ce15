-- What is found among classes: the child of a class, the class of a type, the number of a protocol.
use Rattle.std.proofs.Common.{◌≡◌, ℕ, zero, suc, ◌+◌, ◌<◌, List, [], ◌∷◌, length, drop, Option, Some, None, MatchOption, slice_get, refl, sym, ◌∙◌, ap, subst, arith, add-one}
use Rattle.evo_resolved.specs.declared.resolved_type.RType.{RType}
use Rattle.evo_names.specs.Listed.{Text}
use Rattle.evo_solve.specs.declared.universe.Node.{Node}
use Rattle.evo_solve.specs.declared.universe.Origin.{Origin}
use Rattle.evo_solve.specs.declared.universe.Origin.TheVariants.{Root, Taken}
use Rattle.evo_solve.specs.Equal.{alone, behind, path_of}
use Rattle.evo_solve.specs.Universe.{InRange, TakenFrom, RootAt, Child, Walks, Has, rep}
use Rattle.evo_solve.proofs.Lists.{below_length}
use Rattle.evo_solve.proofs.Closing.{branched}
use Rattle.evo_solve.proofs.Walking.{child_one, root_one as one_root}

pub child_found : (nodes : List Node) (reps : List ℕ) (c : ℕ) (n : Text) (i : ℕ) (x : Node) → slice_get nodes i ≡ Some x → TakenFrom reps c n x.origin → Child nodes reps c n (rep reps i)
child_found nodes reps c n i x at taken = go x.origin refl taken
  where
    go : (o : Origin) → x.origin ≡ o → TakenFrom reps c n o → Child nodes reps c n (rep reps i)
    go Root e t = absurd t
    go (Taken p m) e t = (i, x, p, at, subst (λ z. x.origin ≡ Taken p z) t.2 e, t.1, refl)

pub child_taken : (nodes : List Node) (reps : List ℕ) → InRange nodes reps → (c : ℕ) (n : Text) (d : ℕ) → (h : Child nodes reps c n d) → TakenFrom reps c n h.1.origin
child_taken nodes reps range c n d h =
    let s = branched nodes range.grown h.0 h.2 n h.1 h.3 h.4 in
    let inside : h.2 < length reps = (let l = below_length nodes h.2 s.0 s.1 in let size = range.size in omega arith) in
    subst (TakenFrom reps c n) (sym h.4) (inside, h.5, refl)

-- the class to which the first names lead, and what is left
pub record Led (nodes : List Node) (reps : List ℕ) (first : RType) (names : List Text) (i class : ℕ) : Type 0 where
  pub to : (c : ℕ) → Has nodes reps (behind (alone first) names) c → Walks nodes reps class (drop i names) c
  pub from : (c : ℕ) → Walks nodes reps class (drop i names) c → Has nodes reps (behind (alone first) names) c

module _ (nodes : List Node) (reps : List ℕ) (range : InRange nodes reps) where
  root_one : (t : RType) (c d : ℕ) → RootAt nodes reps t c → RootAt nodes reps t d → c ≡ d
  root_one t c d a b = one_root nodes reps range.size range.grown range.linked t c d a b

  pub led_none : (first : RType) (names : List Text) (d : ℕ) → RootAt nodes reps first d → Led nodes reps first names 0 d
  led_none first names d r = record {
    to = λ c h. subst (λ z. Walks nodes reps z names c) (root_one first h.0 d h.1 r) h.2;
    from = λ c w. (d, r, w);
  }

  drop_at : (ns : List Text) (i : ℕ) (n : Text) → slice_get ns i ≡ Some n → drop i ns ≡ n ∷ drop (suc i) ns
  drop_at [] i v e = absurd (cc e)
  drop_at (w ∷ ws) zero v e = ap (λ z. z ∷ ws) (cc e)
  drop_at (w ∷ ws) (suc i) v e = drop_at ws i v e

  pub led_more : (first : RType) (names : List Text) (i class next : ℕ) (n : Text) → Led nodes reps first names i class → slice_get names i ≡ Some n → Child nodes reps class n next → Led nodes reps first names (i + 1) next
  led_more first names i class next n led at child = rw add-one (record {
    to = λ c h.
        let w = subst (λ l. Walks nodes reps class l c) (drop_at names i n at) (led.to c h) in
        subst (λ z. Walks nodes reps z (drop (suc i) names) c) (child_one nodes reps range.size range.grown range.linked class n w.0 next w.1 child) w.2;
    from = λ c w. led.from c (subst (λ l. Walks nodes reps class l c) (sym (drop_at names i n at)) (next, child, w));
  })

  pub led_nowhere : (first : RType) (names : List Text) (i class : ℕ) (n : Text) → Led nodes reps first names i class → slice_get names i ≡ Some n → ((d : ℕ) → Child nodes reps class n d → ⊥) → (c : ℕ) → Has nodes reps (behind (alone first) names) c → ⊥
  led_nowhere first names i class n led at none c h =
      let w = subst (λ l. Walks nodes reps class l c) (drop_at names i n at) (led.to c h) in
      none w.0 w.1

  drop_all : (ns : List Text) → drop (length ns) ns ≡ []
  drop_all [] = refl
  drop_all (n ∷ ns) = drop_all ns

  pub led_all : (first : RType) (names : List Text) (i class : ℕ) → Led nodes reps first names i class → i ≡ length names → Has nodes reps (behind (alone first) names) class
  led_all first names i class led e = led.from class (subst (λ l. Walks nodes reps class l class) (sym (ap (λ k. drop k names) e ∙ drop_all names)) refl)

  pub no_root : (first : RType) (names : List Text) → ((d : ℕ) → RootAt nodes reps first d → ⊥) → (c : ℕ) → Has nodes reps (behind (alone first) names) c → ⊥
  no_root first names none c h = none h.0 h.1

  pub root_alone : (first : RType) (d : ℕ) → RootAt nodes reps first d → Has nodes reps (alone first) d
  root_alone first d r = (d, r, refl)

  pub no_alone : (first : RType) → ((d : ℕ) → RootAt nodes reps first d → ⊥) → (c : ℕ) → Has nodes reps (alone first) c → ⊥
  no_alone first none c h = none h.0 h.1

pub root_option : (nodes : List Node) (reps : List ℕ) (t : RType) (o : Option ℕ) → alone t ≡ path_of t → MatchOption o ((d : ℕ) → RootAt nodes reps t d → ⊥) (λ d. RootAt nodes reps t d) → MatchOption o ((d : ℕ) → Has nodes reps (path_of t) d → ⊥) (λ d. Has nodes reps (path_of t) d)
root_option nodes reps t None e none = λ d h. let a = subst (λ p. Has nodes reps p d) (sym e) h in none a.0 a.1
root_option nodes reps t (Some d) e r = subst (λ p. Has nodes reps p d) e (d, r, refl)
