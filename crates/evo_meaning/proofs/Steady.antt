-- A run, and the same run with one tick more.
use Rattle.std.proofs.Common.{◌≡◌, ℕ, zero, suc, ◌≤◌, List, [], ◌++◌, Option, Some, None, refl, sym, ap, ◌∙◌, subst, append_assoc, append-nil, arith}
use Rattle.evo_meaning.specs.Runs.{Stop, out_of_ticks, stuck, trapped, Store, State, Outcome, goes, stops, Run, pure, stop, go_on, ◌>>=◌, with_store, on_store, ticked, tick, write, or_stuck}
use Rattle.evo_meaning.specs.Laws.{Begins}

abbrev pub more : State → State
more s = record { store = s.store; ticks = suc s.ticks; printed = s.printed }

abbrev pub out_of : {A : Type 0} → Outcome A → List ℕ
out_of (goes a s) = s.printed
out_of (stops e o) = o

abbrev pub Grown : {A : Type 0} → State → Outcome A → Type 0
Grown s (goes a t) = (t.ticks ≤ s.ticks) × Begins s.printed t.printed
Grown s (stops e o) = Begins s.printed o

-- what one tick more makes of an outcome
abbrev pub Lag : {A : Type 0} → Outcome A → Outcome A → Type 0
Lag (goes a t) r = r ≡ goes a (more t)
Lag (stops out_of_ticks o) r = Begins o (out_of r)
Lag (stops stuck o) r = r ≡ stops stuck o
Lag (stops (trapped k) o) r = r ≡ stops (trapped k) o

-- the first with the ticks, the second with one more
pub record Steady {A : Type 0} (m m' : Run A) : Type 0 where
  pub grows : (s : State) → Grown s (m' s)
  pub lags : (s : State) → Lag (m s) (m' (more s))

pub begins_same : (a : List ℕ) → Begins a a
begins_same a = record { rest = []; is = sym (append-nil a) }

pub begins_on : {a b c : List ℕ} → Begins a b → Begins b c → Begins a c
begins_on {a} {b} {c} p q = record { rest = p.rest ++ q.rest; is = q.is ∙ ap (λ x. x ++ q.rest) p.is ∙ append_assoc a p.rest q.rest }

pub steady_pure : {A : Type 0} (a : A) → Steady (pure a) (pure a)
steady_pure a = record { grows = λ s. (omega arith, begins_same s.printed); lags = λ s. refl }

stop_lags : (A : Type 0) (e : Stop) (o : List ℕ) → Lag {A = A} (stops e o) (stops e o)
stop_lags A out_of_ticks o = begins_same o
stop_lags A stuck o = refl
stop_lags A (trapped k) o = refl

pub steady_stop : {A : Type 0} (e : Stop) → Steady {A = A} (stop e) (stop e)
steady_stop {A} e = record { grows = λ s. begins_same s.printed; lags = λ s. stop_lags A e s.printed }

-- out of turns or of calls, whatever the other does
pub steady_out_of_ticks : {A : Type 0} (m : Run A) → ((s : State) → Grown s (m s)) → Steady (stop out_of_ticks) m
steady_out_of_ticks m g = record { grows = g; lags = λ s. begun (m (more s)) s (g (more s)) }
  where
    begun : {A : Type 0} (r : Outcome A) (s : State) → Grown (more s) r → Begins s.printed (out_of r)
    begun (goes a t) s h = h.1
    begun (stops e o) s h = h

grown_then : {A B : Type 0} (f : A → Run B) → ((a : A) (s : State) → Grown s (f a s)) → (s : State) (r : Outcome A) → Grown s r → Grown s (go_on r f)
grown_then f g s (stops e o) h = h
grown_then f g s (goes a t) h = onwards (f a t) (g a t)
  where
    onwards : {B : Type 0} (r : Outcome B) → Grown t r → Grown s r
    onwards (goes b u) k = (omega arith, begins_on h.1 k.1)
    onwards (stops e o) k = begins_on h.1 k

begins_then : {A B : Type 0} (f : A → Run B) → ((a : A) (s : State) → Grown s (f a s)) → (o : List ℕ) (r : Outcome A) → Begins o (out_of r) → Begins o (out_of (go_on r f))
begins_then f g o (stops e p) h = h
begins_then f g o (goes a t) h = onwards (f a t) (g a t)
  where
    onwards : {B : Type 0} (r : Outcome B) → Grown t r → Begins o (out_of r)
    onwards (goes b u) k = begins_on h k.1
    onwards (stops e p) k = begins_on h k

lag_then : {A B : Type 0} (f f' : A → Run B) → ((a : A) → Steady (f a) (f' a)) → (r r' : Outcome A) → Lag r r' → Lag (go_on r f) (go_on r' f')
lag_then f f' h (goes a t) r' l = subst (λ x. Lag (f a t) (go_on x f')) (sym l) ((h a).lags t)
lag_then f f' h (stops out_of_ticks o) r' l = begins_then f' (λ a. (h a).grows) o r' l
lag_then f f' h (stops stuck o) r' l = ap (λ x. go_on x f') l
lag_then f f' h (stops (trapped k) o) r' l = ap (λ x. go_on x f') l

pub steady_then : {A B : Type 0} {m m' : Run A} {f f' : A → Run B} → Steady m m' → ((a : A) → Steady (f a) (f' a)) → Steady (m >>= f) (m' >>= f')
unfolding ◌>>=◌
steady_then {A} {B} {m} {m'} {f} {f'} p h = record {
  grows = λ s. grown_then f' (λ a. (h a).grows) s (m' s) (p.grows s);
  lags = λ s. lag_then f f' h (m s) (m' (more s)) (p.lags s);
}

pub steady_store : {A : Type 0} (f : Store → Option (A × Store)) → Steady (on_store f) (on_store f)
unfolding on_store
steady_store f = record { grows = λ s. grown s (f s.store); lags = λ s. lag s (f s.store) }
  where
    grown : {A : Type 0} (s : State) (r : Option (A × Store)) → Grown s (with_store r s)
    grown s None = begins_same s.printed
    grown s (Some r) = (omega arith, begins_same s.printed)

    lag : {A : Type 0} (s : State) (r : Option (A × Store)) → Lag (with_store r s) (with_store r (more s))
    lag s None = refl
    lag s (Some r) = refl

pub steady_tick : Steady tick tick
unfolding tick
steady_tick = record { grows = λ s. grown s.ticks s refl; lags = λ s. lag s.ticks s refl }
  where
    grown : (n : ℕ) (s : State) → s.ticks ≡ n → Grown s (ticked n s)
    grown zero s e = begins_same s.printed
    grown (suc n) s e = (omega arith, begins_same s.printed)

    lag : (n : ℕ) (s : State) → s.ticks ≡ n → Lag (ticked n s) (ticked (suc s.ticks) (more s))
    lag zero s e = begins_same s.printed
    lag (suc n) s e = ap (λ k. goes tt (record { store = s.store; ticks = k; printed = s.printed })) e

pub steady_write : (bytes : List ℕ) → Steady (write bytes) (write bytes)
unfolding write
steady_write bytes = record { grows = λ s. (omega arith, record { rest = bytes; is = refl }); lags = λ s. refl }

pub steady_or_stuck : {A : Type 0} (o : Option A) → Steady (or_stuck o) (or_stuck o)
steady_or_stuck None = steady_stop stuck
steady_or_stuck (Some a) = steady_pure a
