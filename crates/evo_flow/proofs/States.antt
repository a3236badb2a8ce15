-- What stands in a union, and what comes from one state or both.
use Rattle.std.proofs.Common.{◌≡◌, List, [], ◌∷◌, ◌++◌, Bool, true, false, ◌||◌, Option, Some, None, refl, subst, ◌⊎◌, inl, inr}
use Rattle.evo_tree.specs.declared.module.SourceFault.{SourceFault}
use Rattle.evo_flow.specs.declared.flow.Effect.{Effect}
use Rattle.evo_flow.specs.declared.flow.Effect.TheVariants as effect
use Rattle.evo_flow.specs.declared.flow.Possible.{Possible}
use Rattle.evo_flow.specs.declared.flow.Out.{Out}
use Rattle.evo_flow.specs.declared.flow.Flow.{Flow}
use Rattle.evo_flow.specs.Way.{Step, Exit, next, breaks, continues, stopped}
use Rattle.evo_flow.specs.Path.{after, behind, Bad, too_early, too_late, On, here, later}
use Rattle.evo_flow.specs.Flows.{first, only, union, has, join, when, bad, via, from, comes}

pub or_one : (a b : Bool) → a ≡ true → (a || b) ≡ true
or_one true b e = refl
or_one false b e = absurd (cc e)

pub or_other : (a b : Bool) → b ≡ true → (a || b) ≡ true
or_other true b e = refl
or_other false b e = e

pub or_cases : (a b : Bool) → (a || b) ≡ true → (a ≡ true) ⊎ (b ≡ true)
or_cases true b e = inl refl
or_cases false b e = inr e

pub union_one : (a b : Possible) (t : Bool) → has a t ≡ true → has (union a b) t ≡ true
union_one a b false e = or_one a.undone b.undone e
union_one a b true e = or_one a.done b.done e

pub union_other : (a b : Possible) (t : Bool) → has b t ≡ true → has (union a b) t ≡ true
union_other a b false e = or_other a.undone b.undone e
union_other a b true e = or_other a.done b.done e

pub union_cases : (a b : Possible) (t : Bool) → has (union a b) t ≡ true → (has a t ≡ true) ⊎ (has b t ≡ true)
union_cases a b false e = or_cases a.undone b.undone e
union_cases a b true e = or_cases a.done b.done e

pub only_is : (s t : Bool) → has (only s) t ≡ true → s ≡ t
only_is true true e = refl
only_is true false e = absurd (cc e)
only_is false false e = refl
only_is false true e = absurd (cc e)

pub only_has : (s : Bool) → has (only s) s ≡ true
only_has true = refl
only_has false = refl

-- ---- outs

pub join_one : (a b : Out) (e : Exit) (t : Bool) → comes a e t ≡ true → comes (join a b) e t ≡ true
unfolding join
join_one a b next t h = union_one a.next b.next t h
join_one a b breaks t h = union_one a.breaks b.breaks t h
join_one a b continues t h = union_one a.continues b.continues t h
join_one a b stopped t h = h

pub join_other : (a b : Out) (e : Exit) (t : Bool) → comes b e t ≡ true → comes (join a b) e t ≡ true
unfolding join
join_other a b next t h = union_other a.next b.next t h
join_other a b breaks t h = union_other a.breaks b.breaks t h
join_other a b continues t h = union_other a.continues b.continues t h
join_other a b stopped t h = h

pub join_cases : (a b : Out) (e : Exit) (t : Bool) → comes (join a b) e t ≡ true → (comes a e t ≡ true) ⊎ (comes b e t ≡ true)
unfolding join
join_cases a b next t h = union_cases a.next b.next t h
join_cases a b breaks t h = union_cases a.breaks b.breaks t h
join_cases a b continues t h = union_cases a.continues b.continues t h
join_cases a b stopped t h = inl h

pub first_cases : {A : Type 0} (o p : Option A) (x : A) → first o p ≡ Some x → (o ≡ Some x) ⊎ (p ≡ Some x)
first_cases (Some y) p x e = inl e
first_cases None p x e = inr e

pub first_none : {A : Type 0} (o p : Option A) → first o p ≡ None → (o ≡ None) × (p ≡ None)
first_none (Some y) p e = absurd (cc e)
first_none None p e = (refl, e)

pub join_fault : (a b : Out) (f : SourceFault) → (join a b).fault ≡ Some f → (a.fault ≡ Some f) ⊎ (b.fault ≡ Some f)
unfolding join
join_fault a b f e = first_cases a.fault b.fault f e

pub join_clean : (a b : Out) → (join a b).fault ≡ None → (a.fault ≡ None) × (b.fault ≡ None)
unfolding join
join_clean a b e = first_none a.fault b.fault e

pub when_comes : (b : Bool) (o : Out) (e : Exit) (t : Bool) → comes (when b o) e t ≡ true → (b ≡ true) × (comes o e t ≡ true)
when_comes true o e t h = (refl, h)
when_comes false o next false h = absurd (cc h)
when_comes false o next true h = absurd (cc h)
when_comes false o breaks false h = absurd (cc h)
when_comes false o breaks true h = absurd (cc h)
when_comes false o continues false h = absurd (cc h)
when_comes false o continues true h = absurd (cc h)
when_comes false o stopped t h = absurd (cc h)

pub when_fault : (b : Bool) (o : Out) (f : SourceFault) → (when b o).fault ≡ Some f → (b ≡ true) × (o.fault ≡ Some f)
when_fault true o f e = (refl, e)
when_fault false o f e = absurd (cc e)

-- from a state that is possible
pub record Via (p : Possible) (g : Flow) (P : Out → Type 0) : Type 0 where
  pub state : Bool
  pub possible : has p state ≡ true
  pub holds : P (from g state)

pub via_cases : (p : Possible) (g : Flow) (e : Exit) (t : Bool) → comes (via p g) e t ≡ true → Via p g (λ o. comes o e t ≡ true)
unfolding via
via_cases p g e t h =
    elim (join_cases (when p.undone g.undone) (when p.done g.done) e t h) [
      | inl k ↦ let m = when_comes p.undone g.undone e t k in record { state = false; possible = m.0; holds = m.1 }
      | inr k ↦ let m = when_comes p.done g.done e t k in record { state = true; possible = m.0; holds = m.1 }
    ]

pub via_fault : (p : Possible) (g : Flow) (f : SourceFault) → (via p g).fault ≡ Some f → Via p g (λ o. o.fault ≡ Some f)
unfolding via
via_fault p g f h =
    elim (join_fault (when p.undone g.undone) (when p.done g.done) f h) [
      | inl k ↦ let m = when_fault p.undone g.undone f k in record { state = false; possible = m.0; holds = m.1 }
      | inr k ↦ let m = when_fault p.done g.done f k in record { state = true; possible = m.0; holds = m.1 }
    ]

pub via_comes : (p : Possible) (g : Flow) (s : Bool) (e : Exit) (t : Bool) → has p s ≡ true → comes (from g s) e t ≡ true → comes (via p g) e t ≡ true
unfolding via
via_comes p g false e t h k = join_one (when p.undone g.undone) (when p.done g.done) e t (rw h k)
via_comes p g true e t h k = join_other (when p.undone g.undone) (when p.done g.done) e t (rw h k)

pub via_clean : (p : Possible) (g : Flow) (s : Bool) → has p s ≡ true → (via p g).fault ≡ None → (from g s).fault ≡ None
unfolding via
via_clean p g false h e = rw h at (join_clean (when p.undone g.undone) (when p.done g.done) e).0
via_clean p g true h e = rw h at (join_clean (when p.undone g.undone) (when p.done g.done) e).1

pub via_none : (p : Possible) (g : Flow) → ((s : Bool) → has p s ≡ true → (from g s).fault ≡ None) → (via p g).fault ≡ None
unfolding via join
via_none p g h = rw (when_none p.undone g.undone (h false), when_none p.done g.done (h true)) refl
  where
    when_none : (b : Bool) (o : Out) → (b ≡ true → o.fault ≡ None) → (when b o).fault ≡ None
    when_none true o h = h refl
    when_none false o h = refl

-- ---- steps

pub behind_append : (act : Step → Effect) (s : Bool) (p q : List Step) → behind act s (p ++ q) ≡ behind act (behind act s p) q
behind_append act s [] q = refl
behind_append act s (x ∷ p) q = behind_append act (after (act x) s) p q

pub on_first : (act : Step → Effect) (s : Bool) (p q : List Step) (f : SourceFault) → On act s p f → On act s (p ++ q) f
on_first act s p q f (here b) = here b
on_first act s (x ∷ p) q f (later o) = later (on_first act (after (act x) s) p q f o)

pub on_second : (act : Step → Effect) (s : Bool) (p q : List Step) (f : SourceFault) → On act (behind act s p) q f → On act s (p ++ q) f
on_second act s [] q f o = o
on_second act s (x ∷ p) q f o = later (on_second act (after (act x) s) p q f o)

pub on_cases : (act : Step → Effect) (s : Bool) (p q : List Step) (f : SourceFault) → On act s (p ++ q) f → (On act s p f) ⊎ (On act (behind act s p) q f)
on_cases act s [] q f o = inr o
on_cases act s (x ∷ p) q f (here b) = inl (here b)
on_cases act s (x ∷ p) q f (later o) = elim (on_cases act (after (act x) s) p q f o) [ inl k ↦ inl (later k) | inr k ↦ inr k ]

pub bad_is : (e : Effect) (s : Bool) (f : SourceFault) → bad e s ≡ Some f → Bad e s f
bad_is (effect.Needs g) false f h = let P : SourceFault → Type 0 = λ f. Bad (effect.Needs g) false f in subst P (cc h) too_early
bad_is (effect.Once g) true f h = let P : SourceFault → Type 0 = λ f. Bad (effect.Once g) true f in subst P (cc h) too_late
bad_is (effect.Needs g) true f h = absurd (cc h)
bad_is (effect.Once g) false f h = absurd (cc h)
bad_is effect.Passes s f h = absurd (cc h)
bad_is effect.Sets s f h = absurd (cc h)

pub bad_found : (e : Effect) (s : Bool) (f : SourceFault) → Bad e s f → bad e s ≡ None → ⊥
bad_found e s f too_early h = cc h
bad_found e s f too_late h = cc h
