-- What is computed of a way is what its paths do: one lemma for each form.
use Rattle.std.proofs.Common.{◌≡◌, ℕ, List, [], ◌∷◌, ◌++◌, Bool, true, false, Some, None, refl, sym, ap, subst, ◌∙◌, ◌⊎◌, inl, inr, append-nil}
use Rattle.evo_tree.specs.declared.module.SourceFault.{SourceFault}
use Rattle.evo_flow.specs.declared.flow.Effect.{Effect}
use Rattle.evo_flow.specs.declared.flow.Out.{Out}
use Rattle.evo_flow.specs.declared.flow.Flow.{Flow}
use Rattle.evo_flow.specs.Way.{Step, Exit, next, breaks, continues, stopped, Way, skip, step, leaving, seq, either, loop, left}
use Rattle.evo_flow.specs.Path.{Path, cut, skipped, stepped, leaves, on, off, one, other, turn, ended, halted, left_off, kept, Turns, Off, Stays, after, behind, On, here, later}
use Rattle.evo_flow.specs.Flows.{nowhere, only, union, has, join, bad, step_out, leaving_out, via, then_out, heads, broken, loop_out, left_out, from, comes, flow, step_flow, leaving_flow, then_flow, either_flow, loop_flow, left_flow}
use Rattle.evo_flow.specs.Laws.{Comes, Faulty, Agrees, FlowIsPaths}
use Rattle.evo_flow.proofs.States.{union_one, union_other, union_cases, only_is, only_has, join_one, join_other, join_cases, join_fault, join_clean, first_cases, first_none, via_cases, via_fault, via_comes, via_clean, via_none, behind_append, on_first, on_second, on_cases, bad_is, bad_found}

nothing : (act : Step → Effect) (s : Bool) (f : SourceFault) → On act s [] f → ⊥
nothing act s f o = elim o [ ]

nowhere_has : (t : Bool) → has nowhere t ≡ true → ⊥
nowhere_has true e = cc e
nowhere_has false e = cc e

-- ---- leaving, and what is passed

leaving_comes : (d : Exit) (s t : Bool) (e : Exit) → comes (leaving_out d s) e t ≡ true → (d ≡ e) × (s ≡ t)
leaving_comes next s t next h = (refl, only_is s t h)
leaving_comes next s t breaks h = absurd (nowhere_has t h)
leaving_comes next s t continues h = absurd (nowhere_has t h)
leaving_comes breaks s t next h = absurd (nowhere_has t h)
leaving_comes breaks s t breaks h = (refl, only_is s t h)
leaving_comes breaks s t continues h = absurd (nowhere_has t h)
leaving_comes continues s t next h = absurd (nowhere_has t h)
leaving_comes continues s t breaks h = absurd (nowhere_has t h)
leaving_comes continues s t continues h = (refl, only_is s t h)
leaving_comes stopped s t next h = absurd (nowhere_has t h)
leaving_comes stopped s t breaks h = absurd (nowhere_has t h)
leaving_comes stopped s t continues h = absurd (nowhere_has t h)
leaving_comes d s t stopped h = absurd (cc h)

leaving_reached : (s : Bool) (e : Exit) → (e ≡ stopped → ⊥) → comes (leaving_out e s) e s ≡ true
leaving_reached s next n = only_has s
leaving_reached s breaks n = only_has s
leaving_reached s continues n = only_has s
leaving_reached s stopped n = absurd (n refl)

leaving_clean : (e : Exit) (s : Bool) → (leaving_out e s).fault ≡ None
leaving_clean next s = refl
leaving_clean breaks s = refl
leaving_clean continues s = refl
leaving_clean stopped s = refl

-- one form for `skip`, marks and leaving: a path with no step that leaves by `e`
record Empty (w : Way) (e : Exit) : Type 0 where
  is : Path w [] e
  alone : {p : List Step} {d : Exit} → Path w p d → (p ≡ []) × ((d ≡ e) ⊎ (d ≡ stopped))

empty_sound : {act : Step → Effect} {w : Way} {d : Exit} → Empty w d → (s t : Bool) (e : Exit) → comes (leaving_out d s) e t ≡ true → Comes act w s e t
empty_sound {act} {w} {d} m s t e h =
    let k = leaving_comes d s t e h in
    record { path = []; is = subst (λ x. Path w [] x) k.0 m.is; ends = k.1 }

empty_complete : (act : Step → Effect) {w : Way} {d : Exit} → Empty w d → (s : Bool) {p : List Step} {e : Exit} → Path w p e → (e ≡ stopped → ⊥) → comes (leaving_out d s) e (behind act s p) ≡ true
empty_complete act {w} {d} m s {p} {e} k n =
    let a = m.alone k in
    let is : d ≡ e = elim a.1 [ inl q ↦ sym q | inr q ↦ absurd (n q) ] in
    let P : List Step → Type 0 = λ p. comes (leaving_out d s) e (behind act s p) ≡ true in
    subst P (sym a.0) (subst (λ x. comes (leaving_out x s) e s ≡ true) (sym is) (leaving_reached s e n))

empty_clean : {act : Step → Effect} {w : Way} {d : Exit} → Empty w d → (s : Bool) {p : List Step} {e : Exit} {f : SourceFault} → Path w p e → On act s p f → ⊥
empty_clean {act} m s {p} {e} {f} k o = nothing act s f (subst (λ p. On act s p f) (m.alone k).0 o)

from_leaving : (e : Exit) (s : Bool) → from (leaving_flow e) s ≡ leaving_out e s
unfolding leaving_flow
from_leaving e false = refl
from_leaving e true = refl

from_skip : (act : Step → Effect) (s : Bool) → from (flow act skip) s ≡ leaving_out next s
from_skip act false = refl
from_skip act true = refl

skip_alone : {p : List Step} {d : Exit} → Path skip p d → (p ≡ []) × ((d ≡ next) ⊎ (d ≡ stopped))
skip_alone cut = (refl, inr refl)
skip_alone skipped = (refl, inl refl)

leaving_alone : {e : Exit} {p : List Step} {d : Exit} → Path (leaving e) p d → (p ≡ []) × ((d ≡ e) ⊎ (d ≡ stopped))
leaving_alone cut = (refl, inr refl)
leaving_alone leaves = (refl, inl refl)

pub skip_agrees : (act : Step → Effect) → Agrees act skip
skip_agrees act =
    let m : Empty skip next = record { is = skipped; alone = skip_alone } in
    record {
      sound = λ s t e h. empty_sound m s t e (subst (λ o. comes o e t ≡ true) (from_skip act s) h);
      complete = λ s {p} {e} k n. subst (λ o. comes o e (behind act s p) ≡ true) (sym (from_skip act s)) (empty_complete act m s k n);
      fault = λ s f h. absurd (cc (ap (λ o. o.fault) (from_skip act s), h));
      clean = λ s {p} {e} {f} k o h. empty_clean m s k o;
    }

pub leaving_agrees : (act : Step → Effect) (d : Exit) → Agrees act (leaving d)
unfolding leaving_flow
leaving_agrees act d =
    let m : Empty (leaving d) d = record { is = leaves; alone = leaving_alone } in
    record {
      sound = λ s t e h. empty_sound m s t e (subst (λ o. comes o e t ≡ true) (from_leaving d s) h);
      complete = λ s {p} {e} k n. subst (λ o. comes o e (behind act s p) ≡ true) (sym (from_leaving d s)) (empty_complete act m s k n);
      fault = λ s f h. absurd (cc (ap (λ o. o.fault) (from_leaving d s), leaving_clean d s, h));
      clean = λ s {p} {e} {f} k o h. empty_clean m s k o;
    }

-- ---- a step

from_step : (x : Effect) (s : Bool) → from (step_flow x) s ≡ step_out x s
unfolding step_flow
from_step x false = refl
from_step x true = refl

step_comes : (x : Effect) (s t : Bool) (e : Exit) → comes (step_out x s) e t ≡ true → (next ≡ e) × (after x s ≡ t)
step_comes x s t next h = (refl, only_is (after x s) t h)
step_comes x s t breaks h = absurd (nowhere_has t h)
step_comes x s t continues h = absurd (nowhere_has t h)
step_comes x s t stopped h = absurd (cc h)

step_complete : (act : Step → Effect) (y : Step) (s : Bool) {p : List Step} {e : Exit} → Path (step y) p e → (e ≡ stopped → ⊥) → comes (step_out (act y) s) e (behind act s p) ≡ true
step_complete act y s cut n = absurd (n refl)
step_complete act y s stepped n = only_has (after (act y) s)

step_clean : (act : Step → Effect) (y : Step) (s : Bool) {p : List Step} {e : Exit} {f : SourceFault} → Path (step y) p e → On act s p f → bad (act y) s ≡ None → ⊥
step_clean act y s {f} cut o h = nothing act s f o
step_clean act y s {f} stepped (here b) h = bad_found (act y) s f b h
step_clean act y s {f} stepped (later o) h = nothing act (after (act y) s) f o

pub step_agrees : (act : Step → Effect) (y : Step) → Agrees act (step y)
unfolding step_flow
step_agrees act y =
    record {
      sound = λ s t e h. let k = step_comes (act y) s t e (subst (λ o. comes o e t ≡ true) (from_step (act y) s) h) in
          record { path = y ∷ []; is = subst (λ x. Path (step y) (y ∷ []) x) k.0 stepped; ends = k.1 };
      complete = λ s {p} {e} k n. subst (λ o. comes o e (behind act s p) ≡ true) (sym (from_step (act y) s)) (step_complete act y s k n);
      fault = λ s f h. let b = subst (λ o. o.fault ≡ Some f) (from_step (act y) s) h in
          record { path = y ∷ []; exit = next; is = stepped; on = here (bad_is (act y) s f b) };
      clean = λ s {p} {e} {f} k o h. step_clean act y s k o (subst (λ o. o.fault ≡ None) (from_step (act y) s) h);
    }

-- ---- one behind the other

from_seq : (f g : Flow) (s : Bool) → from (then_flow f g) s ≡ then_out (from f s) g
unfolding then_flow
from_seq f g false = refl
from_seq f g true = refl

without_next : (o : Out) (e : Exit) (t : Bool) → comes (record o { next = nowhere }) e t ≡ true → Off e × (comes o e t ≡ true)
without_next o next t h = absurd (nowhere_has t h)
without_next o breaks t h = (Off.by_break, h)
without_next o continues t h = (Off.by_continue, h)
without_next o stopped t h = absurd (cc h)

with_off : (o : Out) (e : Exit) (t : Bool) → Off e → comes o e t ≡ true → comes (record o { next = nowhere }) e t ≡ true
with_off o breaks t x h = h
with_off o continues t x h = h
with_off o stopped t x h = absurd (cc h)
with_off o next t x h = elim x [ ]

-- the beginning of a path through both
begins : {v w : Way} {p : List Step} (e : Exit) → Path v p e → (d : Exit) × Path (seq v w) (p ++ []) d
begins next k = (stopped, on k cut)
begins {v} {w} {p} breaks k = (breaks, subst (λ p. Path (seq v w) p breaks) (sym (append-nil p)) (off k Off.by_break))
begins {v} {w} {p} continues k = (continues, subst (λ p. Path (seq v w) p continues) (sym (append-nil p)) (off k Off.by_continue))
begins {v} {w} {p} stopped k = (stopped, subst (λ p. Path (seq v w) p stopped) (sym (append-nil p)) (off k Off.no_further))

seq_sound : {act : Step → Effect} {v w : Way} → Agrees act v → Agrees act w → (s t : Bool) (e : Exit) → comes (then_out (from (flow act v) s) (flow act w)) e t ≡ true → Comes act (seq v w) s e t
unfolding then_out
seq_sound {act} {v} {w} a b s t e h =
    let o = from (flow act v) s in
    elim (join_cases (record o { next = nowhere }) (via o.next (flow act w)) e t h) [
      | inl k ↦ (let m = without_next o e t k in let c = a.sound s t e m.1 in record { path = c.path; is = off c.is m.0; ends = c.ends })
      | inr k ↦ (
          let m = via_cases o.next (flow act w) e t k in
          let c = a.sound s m.state next m.possible in
          let d = b.sound m.state t e m.holds in
          record { path = c.path ++ d.path; is = on c.is d.is; ends = behind_append act s c.path d.path ∙ ap (λ x. behind act x d.path) c.ends ∙ d.ends })
    ]

seq_complete : {act : Step → Effect} {v w : Way} → Agrees act v → Agrees act w → (s : Bool) {p : List Step} {e : Exit} → Path (seq v w) p e → (e ≡ stopped → ⊥) → comes (then_out (from (flow act v) s) (flow act w)) e (behind act s p) ≡ true
unfolding then_out
seq_complete a b s cut n = absurd (n refl)
seq_complete {act} {v} {w} a b s (on {p} {q} {e} k l) n =
    let o = from (flow act v) s in
    let first : has o.next (behind act s p) ≡ true = a.complete s k (λ x. cc x) in
    let second = b.complete (behind act s p) l n in
    subst (λ t. comes (join (record o { next = nowhere }) (via o.next (flow act w))) e t ≡ true) (sym (behind_append act s p q))
    (join_other (record o { next = nowhere }) (via o.next (flow act w)) e _ (via_comes o.next (flow act w) (behind act s p) e _ first second))
seq_complete {act} {v} {w} a b s (off {p} {e} k x) n =
    let o = from (flow act v) s in
    join_one (record o { next = nowhere }) (via o.next (flow act w)) e _ (with_off o e _ x (a.complete s k n))

seq_fault : {act : Step → Effect} {v w : Way} → Agrees act v → Agrees act w → (s : Bool) (f : SourceFault) → (then_out (from (flow act v) s) (flow act w)).fault ≡ Some f → Faulty act (seq v w) s f
unfolding then_out
seq_fault {act} {v} {w} a b s f h =
    let o = from (flow act v) s in
    elim (join_fault (record o { next = nowhere }) (via o.next (flow act w)) f h) [
      | inl k ↦ (let c = a.fault s f k in let d = begins {w = w} c.exit c.is in record { path = c.path ++ []; exit = d.0; is = d.1; on = on_first act s c.path [] f c.on })
      | inr k ↦ (
          let m = via_fault o.next (flow act w) f k in
          let c = a.sound s m.state next m.possible in
          let d = b.fault m.state f m.holds in
          record { path = c.path ++ d.path; exit = d.exit; is = on c.is d.is; on = on_second act s c.path d.path f (subst (λ x. On act x d.path f) (sym c.ends) d.on) })
    ]

seq_clean : {act : Step → Effect} {v w : Way} → Agrees act v → Agrees act w → (s : Bool) {p : List Step} {e : Exit} {f : SourceFault} → Path (seq v w) p e → On act s p f → (then_out (from (flow act v) s) (flow act w)).fault ≡ None → ⊥
unfolding then_out
seq_clean {act} a b s {f} cut o h = nothing act s f o
seq_clean {act} {v} {w} a b s {f} (on {p} {q} k l) x h =
    let o = from (flow act v) s in
    let c = join_clean (record o { next = nowhere }) (via o.next (flow act w)) h in
    let first : has o.next (behind act s p) ≡ true = a.complete s k (λ x. cc x) in
    elim (on_cases act s p q f x) [
      | inl y ↦ a.clean s k y c.0
      | inr y ↦ b.clean (behind act s p) l y (via_clean o.next (flow act w) (behind act s p) first c.1)
    ]
seq_clean {act} {v} {w} a b s (off k x) y h =
    let o = from (flow act v) s in
    a.clean s k y (join_clean (record o { next = nowhere }) (via o.next (flow act w)) h).0

pub seq_agrees : {act : Step → Effect} {v w : Way} → Agrees act v → Agrees act w → Agrees act (seq v w)
unfolding then_flow
seq_agrees {act} {v} {w} a b =
    let q = from_seq (flow act v) (flow act w) in
    record {
      sound = λ s t e h. seq_sound a b s t e (subst (λ o. comes o e t ≡ true) (q s) h);
      complete = λ s {p} {e} k n. subst (λ o. comes o e (behind act s p) ≡ true) (sym (q s)) (seq_complete a b s k n);
      fault = λ s f h. seq_fault a b s f (subst (λ o. o.fault ≡ Some f) (q s) h);
      clean = λ s {p} {e} {f} k o h. seq_clean a b s k o (subst (λ o. o.fault ≡ None) (q s) h);
    }

-- ---- one or the other

from_either : (f g : Flow) (s : Bool) → from (either_flow f g) s ≡ join (from f s) (from g s)
unfolding either_flow
from_either f g false = refl
from_either f g true = refl

either_complete : {act : Step → Effect} {v w : Way} → Agrees act v → Agrees act w → (s : Bool) {p : List Step} {e : Exit} → Path (either v w) p e → (e ≡ stopped → ⊥) → comes (join (from (flow act v) s) (from (flow act w) s)) e (behind act s p) ≡ true
either_complete a b s cut n = absurd (n refl)
either_complete {act} {v} {w} a b s {e} (one k) n = join_one (from (flow act v) s) (from (flow act w) s) e _ (a.complete s k n)
either_complete {act} {v} {w} a b s {e} (other k) n = join_other (from (flow act v) s) (from (flow act w) s) e _ (b.complete s k n)

either_clean : {act : Step → Effect} {v w : Way} → Agrees act v → Agrees act w → (s : Bool) {p : List Step} {e : Exit} {f : SourceFault} → Path (either v w) p e → On act s p f → (join (from (flow act v) s) (from (flow act w) s)).fault ≡ None → ⊥
either_clean {act} a b s {f} cut o h = nothing act s f o
either_clean {act} {v} {w} a b s (one k) o h = a.clean s k o (join_clean (from (flow act v) s) (from (flow act w) s) h).0
either_clean {act} {v} {w} a b s (other k) o h = b.clean s k o (join_clean (from (flow act v) s) (from (flow act w) s) h).1

pub either_agrees : {act : Step → Effect} {v w : Way} → Agrees act v → Agrees act w → Agrees act (either v w)
unfolding either_flow
either_agrees {act} {v} {w} a b =
    let q = from_either (flow act v) (flow act w) in
    record {
      sound = λ s t e h. elim (join_cases (from (flow act v) s) (from (flow act w) s) e t (subst (λ o. comes o e t ≡ true) (q s) h)) [
        | inl k ↦ (let c = a.sound s t e k in record { path = c.path; is = one c.is; ends = c.ends })
        | inr k ↦ (let c = b.sound s t e k in record { path = c.path; is = other c.is; ends = c.ends })
      ];
      complete = λ s {p} {e} k n. subst (λ o. comes o e (behind act s p) ≡ true) (sym (q s)) (either_complete a b s k n);
      fault = λ s f h. elim (join_fault (from (flow act v) s) (from (flow act w) s) f (subst (λ o. o.fault ≡ Some f) (q s) h)) [
        | inl k ↦ (let c = a.fault s f k in record { path = c.path; exit = c.exit; is = one c.is; on = c.on })
        | inr k ↦ (let c = b.fault s f k in record { path = c.path; exit = c.exit; is = other c.is; on = c.on })
      ];
      clean = λ s {p} {e} {f} k o h. either_clean a b s k o (subst (λ o. o.fault ≡ None) (q s) h);
    }

-- ---- leaving a `switch`

from_left : (f : Flow) (s : Bool) → from (left_flow f) s ≡ left_out (from f s)
unfolding left_flow
from_left f false = refl
from_left f true = refl

left_sound : {act : Step → Effect} {w : Way} → Agrees act w → (s t : Bool) (e : Exit) → comes (left_out (from (flow act w) s)) e t ≡ true → Comes act (left w) s e t
unfolding left_out
left_sound {act} {w} a s t next h =
    let o = from (flow act w) s in
    elim (union_cases o.next o.breaks t h) [
      | inl k ↦ (let c = a.sound s t next k in record { path = c.path; is = kept c.is Stays.at_end; ends = c.ends })
      | inr k ↦ (let c = a.sound s t breaks k in record { path = c.path; is = left_off c.is; ends = c.ends })
    ]
left_sound a s t breaks h = absurd (nowhere_has t h)
left_sound a s t continues h = let c = a.sound s t continues h in record { path = c.path; is = kept c.is Stays.by_continue; ends = c.ends }
left_sound a s t stopped h = absurd (cc h)

left_stays : (o : Out) (e : Exit) (t : Bool) → Stays e → comes o e t ≡ true → comes (left_out o) e t ≡ true
unfolding left_out
left_stays o next t x h = union_one o.next o.breaks t h
left_stays o continues t x h = h
left_stays o stopped t x h = h
left_stays o breaks t x h = elim x [ ]

left_complete : {act : Step → Effect} {w : Way} → Agrees act w → (s : Bool) {p : List Step} {e : Exit} → Path (left w) p e → (e ≡ stopped → ⊥) → comes (left_out (from (flow act w) s)) e (behind act s p) ≡ true
unfolding left_out
left_complete a s cut n = absurd (n refl)
left_complete {act} {w} a s (left_off {p} k) n = let o = from (flow act w) s in union_other o.next o.breaks (behind act s p) (a.complete s k (λ x. cc x))
left_complete {act} {w} a s (kept {p} {e} k x) n = left_stays (from (flow act w) s) e (behind act s p) x (a.complete s k n)

leaves_switch : {w : Way} {p : List Step} (e : Exit) → Path w p e → (d : Exit) × Path (left w) p d
leaves_switch next k = (next, kept k Stays.at_end)
leaves_switch breaks k = (next, left_off k)
leaves_switch continues k = (continues, kept k Stays.by_continue)
leaves_switch stopped k = (stopped, kept k Stays.no_further)

left_fault : {act : Step → Effect} {w : Way} → Agrees act w → (s : Bool) (f : SourceFault) → (left_out (from (flow act w) s)).fault ≡ Some f → Faulty act (left w) s f
unfolding left_out
left_fault a s f h = let c = a.fault s f h in let d = leaves_switch c.exit c.is in record { path = c.path; exit = d.0; is = d.1; on = c.on }

left_clean : {act : Step → Effect} {w : Way} → Agrees act w → (s : Bool) {p : List Step} {e : Exit} {f : SourceFault} → Path (left w) p e → On act s p f → (left_out (from (flow act w) s)).fault ≡ None → ⊥
unfolding left_out
left_clean {act} a s {f} cut o h = nothing act s f o
left_clean a s (left_off k) o h = a.clean s k o h
left_clean a s (kept k x) o h = a.clean s k o h

pub left_agrees : {act : Step → Effect} {w : Way} → Agrees act w → Agrees act (left w)
unfolding left_flow
left_agrees {act} {w} a =
    let q = from_left (flow act w) in
    record {
      sound = λ s t e h. left_sound a s t e (subst (λ o. comes o e t ≡ true) (q s) h);
      complete = λ s {p} {e} k n. subst (λ o. comes o e (behind act s p) ≡ true) (sym (q s)) (left_complete a s k n);
      fault = λ s f h. left_fault a s f (subst (λ o. o.fault ≡ Some f) (q s) h);
      clean = λ s {p} {e} {f} k o h. left_clean a s k o (subst (λ o. o.fault ≡ None) (q s) h);
    }

-- ---- again and again

from_loop : (f : Flow) (s : Bool) → from (loop_flow f) s ≡ loop_out s (from f s) f
unfolding loop_flow
from_loop f false = refl
from_loop f true = refl

-- a turn may end in a state
abbrev Turned : Out → Bool → Type 0
Turned o t = (comes o next t ≡ true) ⊎ (comes o continues t ≡ true)

head_has : (s : Bool) (o : Out) (t : Bool) → (s ≡ t) ⊎ Turned o t → has (heads s o) t ≡ true
head_has s o t (inl e) = union_one (only s) (union o.next o.continues) t (subst (λ x. has (only s) x ≡ true) e (only_has s))
head_has s o t (inr (inl h)) = union_other (only s) (union o.next o.continues) t (union_one o.next o.continues t h)
head_has s o t (inr (inr h)) = union_other (only s) (union o.next o.continues) t (union_other o.next o.continues t h)

head_cases : (s : Bool) (o : Out) (t : Bool) → has (heads s o) t ≡ true → (s ≡ t) ⊎ Turned o t
head_cases s o t h =
    elim (union_cases (only s) (union o.next o.continues) t h) [
      | inl k ↦ inl (only_is s t k)
      | inr k ↦ inr (union_cases o.next o.continues t k)
    ]

-- The states before the turns of a loop: what a second turn adds was there before, since there are two states.
heads_grow : (g : Flow) (s t m : Bool) → Turned (from g s) t → (t ≡ m) ⊎ Turned (from g t) m → (s ≡ m) ⊎ Turned (from g s) m
heads_grow g s t m k (inl e) = inr (subst (λ x. Turned (from g s) x) e k)
heads_grow g true true m k (inr h) = inr h
heads_grow g false false m k (inr h) = inr h
heads_grow g false true true k (inr h) = inr k
heads_grow g false true false k (inr h) = inl refl
heads_grow g true false true k (inr h) = inl refl
heads_grow g true false false k (inr h) = inr k

grown : (g : Flow) (s t m : Bool) → Turned (from g s) t → has (heads t (from g t)) m ≡ true → has (heads s (from g s)) m ≡ true
grown g s t m k h = head_has s (from g s) m (heads_grow g s t m k (head_cases t (from g t) m h))

broken_comes : (o : Out) (e : Exit) (t : Bool) → comes (broken o) e t ≡ true → (e ≡ next) × (comes o breaks t ≡ true)
broken_comes o next t h = (refl, h)
broken_comes o breaks t h = absurd (nowhere_has t h)
broken_comes o continues t h = absurd (nowhere_has t h)
broken_comes o stopped t h = absurd (cc h)

-- a path to the beginning of a turn
comes_head : {act : Step → Effect} {w : Way} → Agrees act w → (s m : Bool) → has (heads s (from (flow act w) s)) m ≡ true → (p : List Step) × (behind act s p ≡ m) × ((q : List Step) (e : Exit) → Path (loop w) q e → Path (loop w) (p ++ q) e)
comes_head {act} {w} a s m h =
    elim (head_cases s (from (flow act w) s) m h) [
      | inl e ↦ ([], e, λ q d k. k)
      | inr k ↦ elim k [
        | inl j ↦ (let c = a.sound s m next j in (c.path, c.ends, λ q d l. turn c.is Turns.at_end l))
        | inr j ↦ (let c = a.sound s m continues j in (c.path, c.ends, λ q d l. turn c.is Turns.by_continue l))
      ]
    ]

loop_sound : {act : Step → Effect} {w : Way} → Agrees act w → (s t : Bool) (e : Exit) → comes (loop_out s (from (flow act w) s) (flow act w)) e t ≡ true → Comes act (loop w) s e t
unfolding loop_out
loop_sound {act} {w} a s t e h =
    let o = from (flow act w) s in
    let b = broken_comes (via (heads s o) (flow act w)) e t h in
    let m = via_cases (heads s o) (flow act w) breaks t b.1 in
    let c = comes_head a s m.state m.possible in
    let d = a.sound m.state t breaks m.holds in
    record {
      path = c.0 ++ d.path;
      is = c.2 d.path e (subst (λ x. Path (loop w) d.path x) (sym b.0) (ended d.is));
      ends = behind_append act s c.0 d.path ∙ ap (λ x. behind act x d.path) c.1 ∙ d.ends;
    }

loop_shift : (g : Flow) (s t : Bool) (e : Exit) (u : Bool) → Turned (from g s) t → comes (loop_out t (from g t) g) e u ≡ true → comes (loop_out s (from g s) g) e u ≡ true
unfolding loop_out
loop_shift g s t e u k h =
    let b = broken_comes (via (heads t (from g t)) g) e u h in
    let m = via_cases (heads t (from g t)) g breaks u b.1 in
    let P : Exit → Type 0 = λ x. comes (broken (via (heads s (from g s)) g)) x u ≡ true in
    subst P (sym b.0) (via_comes (heads s (from g s)) g m.state breaks u (grown g s t m.state k m.possible) m.holds)

loop_shift_clean : (g : Flow) (s t : Bool) → Turned (from g s) t → (loop_out s (from g s) g).fault ≡ None → (loop_out t (from g t) g).fault ≡ None
unfolding loop_out
loop_shift_clean g s t k h = via_none (heads t (from g t)) g (λ m x. via_clean (heads s (from g s)) g m (grown g s t m k x) h)

turned : {act : Step → Effect} {w : Way} → Agrees act w → (s : Bool) {p : List Step} {e : Exit} → Path w p e → Turns e → Turned (from (flow act w) s) (behind act s p)
turned a s k Turns.at_end = inl (a.complete s k (λ x. cc x))
turned a s k Turns.by_continue = inr (a.complete s k (λ x. cc x))

loop_complete : {act : Step → Effect} {w : Way} → Agrees act w → (s : Bool) {p : List Step} {e : Exit} → Path (loop w) p e → (e ≡ stopped → ⊥) → comes (loop_out s (from (flow act w) s) (flow act w)) e (behind act s p) ≡ true
unfolding loop_out
loop_complete a s cut n = absurd (n refl)
loop_complete {act} {w} a s (turn {p} {q} {e} {f} k x l) n =
    subst (λ t. comes (loop_out s (from (flow act w) s) (flow act w)) f t ≡ true) (sym (behind_append act s p q))
    (loop_shift (flow act w) s (behind act s p) f (behind act (behind act s p) q) (turned a s k x) (loop_complete a (behind act s p) l n))
loop_complete {act} {w} a s (ended {p} k) n =
    let o = from (flow act w) s in
    via_comes (heads s o) (flow act w) s breaks (behind act s p) (head_has s o s (inl refl)) (a.complete s k (λ x. cc x))
loop_complete a s (halted k) n = absurd (n refl)

in_loop : {w : Way} {p : List Step} (e : Exit) → Path w p e → (d : Exit) × Path (loop w) (p ++ []) d
in_loop next k = (stopped, turn k Turns.at_end cut)
in_loop continues k = (stopped, turn k Turns.by_continue cut)
in_loop {w} {p} breaks k = (next, subst (λ p. Path (loop w) p next) (sym (append-nil p)) (ended k))
in_loop {w} {p} stopped k = (stopped, subst (λ p. Path (loop w) p stopped) (sym (append-nil p)) (halted k))

loop_fault : {act : Step → Effect} {w : Way} → Agrees act w → (s : Bool) (f : SourceFault) → (loop_out s (from (flow act w) s) (flow act w)).fault ≡ Some f → Faulty act (loop w) s f
unfolding loop_out
loop_fault {act} {w} a s f h =
    let o = from (flow act w) s in
    let m = via_fault (heads s o) (flow act w) f h in
    let c = comes_head a s m.state m.possible in
    let d = a.fault m.state f m.holds in
    let l = in_loop d.exit d.is in
    record {
      path = c.0 ++ (d.path ++ []);
      exit = l.0;
      is = c.2 (d.path ++ []) l.0 l.1;
      on = on_second act s c.0 (d.path ++ []) f (subst (λ x. On act x (d.path ++ []) f) (sym c.1) (on_first act m.state d.path [] f d.on));
    }

own_clean : (g : Flow) (s : Bool) → (loop_out s (from g s) g).fault ≡ None → (from g s).fault ≡ None
unfolding loop_out
own_clean g s h = via_clean (heads s (from g s)) g s (head_has s (from g s) s (inl refl)) h

loop_clean : {act : Step → Effect} {w : Way} → Agrees act w → (s : Bool) {p : List Step} {e : Exit} {f : SourceFault} → Path (loop w) p e → On act s p f → (loop_out s (from (flow act w) s) (flow act w)).fault ≡ None → ⊥
loop_clean {act} a s {f} cut o h = nothing act s f o
loop_clean {act} {w} a s {f} (turn {p} {q} k x l) o h =
    elim (on_cases act s p q f o) [
      | inl y ↦ a.clean s k y (own_clean (flow act w) s h)
      | inr y ↦ loop_clean a (behind act s p) l y (loop_shift_clean (flow act w) s (behind act s p) (turned a s k x) h)
    ]
loop_clean {act} {w} a s (ended k) o h = a.clean s k o (own_clean (flow act w) s h)
loop_clean {act} {w} a s (halted k) o h = a.clean s k o (own_clean (flow act w) s h)

pub loop_agrees : {act : Step → Effect} {w : Way} → Agrees act w → Agrees act (loop w)
unfolding loop_flow
loop_agrees {act} {w} a =
    let q = from_loop (flow act w) in
    record {
      sound = λ s t e h. loop_sound a s t e (subst (λ o. comes o e t ≡ true) (q s) h);
      complete = λ s {p} {e} k n. subst (λ o. comes o e (behind act s p) ≡ true) (sym (q s)) (loop_complete a s k n);
      fault = λ s f h. loop_fault a s f (subst (λ o. o.fault ≡ Some f) (q s) h);
      clean = λ s {p} {e} {f} k o h. loop_clean a s k o (subst (λ o. o.fault ≡ None) (q s) h);
    }

pub agrees : FlowIsPaths
agrees act skip = skip_agrees act
agrees act (step x) = step_agrees act x
agrees act (leaving e) = leaving_agrees act e
agrees act (seq v w) = seq_agrees (agrees act v) (agrees act w)
agrees act (either v w) = either_agrees (agrees act v) (agrees act w)
agrees act (loop w) = loop_agrees (agrees act w)
agrees act (left w) = left_agrees (agrees act w)
