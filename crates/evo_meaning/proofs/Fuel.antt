-- With a bound that is no less than the ticks, the bound is never met: a greater one gives the same run.
use Rattle.std.proofs.Common.{◌≡◌, ℕ, zero, suc, ◌+◌, ◌-◌, ◌≤◌, ◌<◌, Bool, List, [], Option, Some, None, refl, sym, ap, ◌∙◌, arith}
use Rattle.evo_meaning.specs.Values.{Value}
use Rattle.evo_meaning.specs.Runs.{Stop, out_of_ticks, Store, State, Outcome, goes, stops, Run, pure, stop, go_on, with_store, on_store, ◌>>=◌, ◌>>◌, ticked, tick, write, within, or_stuck}
use Rattle.evo_meaning.specs.Programs.{MixedProgram, client_side, static_implementation}
use Rattle.evo_names.specs.Keys.{start_key}
use Rattle.evo_meaning.specs.Calls.{Reply, Callee, with_tables}
use Rattle.evo_meaning.specs.Statements.{Completion, looped, executed_block}
use Rattle.evo_meaning.specs.Bodies.{reply, context, numbered, run_body, result, beginning, top_level, run}
use Rattle.evo_meaning.specs.Laws.{TicksFall, TicksNeverRise, BoundIsFree}
use Rattle.evo_meaning.proofs.Forms.{Kept, keeps_choice, keeps_after_turn, keeps_block, keeps_expression, keeps_reply, keeps_within}

-- ticks fall in the first, and the second does the same where no more than k are left
pub record Agree (k : ℕ) {A : Type 0} (m m' : Run A) : Type 0 where
  pub falls : (s : State) → TicksFall s (m s)
  pub same : (s : State) → s.ticks ≤ k → m s ≡ m' s

module _ (k : ℕ) where
  agree_pure : {A : Type 0} (a : A) → Agree k (pure a) (pure a)
  agree_pure a = record { falls = λ s. omega arith; same = λ s h. refl }

  agree_stop : {A : Type 0} (e : Stop) → Agree k {A = A} (stop e) (stop e)
  agree_stop e = record { falls = λ s. tt; same = λ s h. refl }

  falls_then : {A B : Type 0} (f : A → Run B) → ((a : A) (s : State) → TicksFall s (f a s)) → (s : State) (r : Outcome A) → TicksFall s r → TicksFall s (go_on r f)
  falls_then f g s (stops e o) h = h
  falls_then f g s (goes a t) h = onwards (f a t) (g a t)
    where
      onwards : {B : Type 0} (r : Outcome B) → TicksFall t r → TicksFall s r
      onwards (goes b u) k = omega arith
      onwards (stops e o) k = tt

  same_then : {A B : Type 0} (f f' : A → Run B) → ((a : A) → Agree k (f a) (f' a)) → (s : State) → s.ticks ≤ k → (r : Outcome A) → TicksFall s r → go_on r f ≡ go_on r f'
  same_then f f' h s le (stops e o) g = refl
  same_then f f' h s le (goes a t) g = (h a).same t (omega arith)

  agree_then : {A B : Type 0} {m m' : Run A} {f f' : A → Run B} → Agree k m m' → ((a : A) → Agree k (f a) (f' a)) → Agree k (m >>= f) (m' >>= f')
  unfolding ◌>>=◌
  agree_then {m = m} {f = f} {f' = f'} p h = record {
    falls = λ s. falls_then f (λ a. (h a).falls) s (m s) (p.falls s);
    same = λ s le. same_then f f' h s le (m s) (p.falls s) ∙ ap (λ r. go_on r f') (p.same s le);
  }

  agree_store : {A : Type 0} (f : Store → Option (A × Store)) → Agree k (on_store f) (on_store f)
  unfolding on_store
  agree_store f = record { falls = λ s. at s (f s.store); same = λ s h. refl }
    where
      at : {A : Type 0} (s : State) (r : Option (A × Store)) → TicksFall s (with_store r s)
      at s None = tt
      at s (Some r) = omega arith

  agree_tick : Agree k tick tick
  unfolding tick
  agree_tick = record { falls = λ s. at s.ticks s refl; same = λ s h. refl }
    where
      at : (n : ℕ) (s : State) → s.ticks ≡ n → TicksFall s (ticked n s)
      at zero s e = tt
      at (suc n) s e = omega arith

  agree_write : (b : List ℕ) → Agree k (write b) (write b)
  unfolding write
  agree_write b = record { falls = λ s. omega arith; same = λ s h. refl }

  abbrev Agrees : (A : Type 0) → Run A → Run A → Type 0
  Agrees A m m' = Agree k m m'

  kept : Kept Agrees
  kept = record { pure = agree_pure; stop = agree_stop; then = agree_then; store = agree_store; tick = agree_tick; write = agree_write }

-- after a tick there is one less
agree_after : {A : Type 0} {m m' : Run A} (k : ℕ) → Agree k m m' → Agree (suc k) (tick >> m) (tick >> m')
unfolding ◌>>=◌ tick
agree_after {m = m} {m' = m'} k h = record { falls = λ s. at s.ticks s refl; same = λ s le. same_at s.ticks s refl le }
  where
    at : (n : ℕ) (s : State) → s.ticks ≡ n → TicksFall s (go_on (ticked n s) (λ _. m))
    at zero s e = tt
    at (suc n) s e = lower (m _) (h.falls _)
      where
        lower : {A : Type 0} (r : Outcome A) → TicksFall (record { store = s.store; ticks = n; printed = s.printed }) r → TicksFall s r
        lower (goes a t) g = omega arith
        lower (stops x o) g = tt

    same_at : (n : ℕ) (s : State) → s.ticks ≡ n → s.ticks ≤ suc k → go_on (ticked n s) (λ _. m) ≡ go_on (ticked n s) (λ _. m')
    same_at zero s e le = refl
    same_at (suc n) s e le = h.same _ (omega arith)

agree_none : {A : Type 0} (m m' : Run A) → ((s : State) → TicksFall s (m s)) → Agree 0 (tick >> m) (tick >> m')
unfolding ◌>>=◌ tick
agree_none m m' f = record { falls = λ s. at s.ticks s refl; same = λ s le. same_at s.ticks s refl le }
  where
    lower : {A : Type 0} (n : ℕ) (s : State) → s.ticks ≡ suc n → (r : Outcome A) → TicksFall (record { store = s.store; ticks = n; printed = s.printed }) r → TicksFall s r
    lower n s e (goes a t) g = omega arith
    lower n s e (stops x o) g = tt

    at : (n : ℕ) (s : State) → s.ticks ≡ n → TicksFall s (go_on (ticked n s) (λ _. m))
    at zero s e = tt
    at (suc n) s e = lower n s e (m _) (f _)

    same_at : (n : ℕ) (s : State) → s.ticks ≡ n → s.ticks ≤ 0 → go_on (ticked n s) (λ _. m) ≡ go_on (ticked n s) (λ _. m')
    same_at zero s e le = refl
    same_at (suc n) s e le = absurd (omega arith)

less : {A : Type 0} {m m' : Run A} {k : ℕ} (j : ℕ) → j ≤ k → Agree k m m' → Agree j m m'
less j le h = record { falls = h.falls; same = λ s l. h.same s (omega arith) }

loop_alone : {t t' : Run Bool} {m m' : Run Completion} (k : ℕ) → Agree k t t' → Agree k m m' → (n : ℕ) → Agree k (looped n t m) (looped n t' m')
unfolding looped
loop_alone k h j zero = agree_stop k out_of_ticks
loop_alone k h j (suc n) =
    agree_then k h (λ b. keeps_choice (Agrees k) (kept k) b (agree_then k (agree_tick k) (λ _. agree_then k j (λ f. keeps_after_turn (Agrees k) (kept k) f (loop_alone k h j n)))) (agree_pure k _))

agree_loop : {t t' : Run Bool} {m m' : Run Completion} (n k : ℕ) → k < n → Agree k t t' → Agree k m m' → Agree k (looped n t m) (looped (suc n) t' m')
unfolding looped
agree_loop zero k lt h j = absurd (omega arith)
agree_loop (suc n) zero lt h j =
    agree_then 0 h (λ b. keeps_choice (Agrees 0) (kept 0) b (agree_none _ _ (agree_then 0 j (λ f. keeps_after_turn (Agrees 0) (kept 0) f (loop_alone 0 h j n))).falls) (agree_pure 0 _))
agree_loop (suc n) (suc k) lt h j =
    agree_then (suc k) h (λ b. keeps_choice (Agrees (suc k)) (kept (suc k)) b
    (agree_after k (agree_then k (less k (omega arith) j) (λ f. keeps_after_turn (Agrees k) (kept k) f (agree_loop n k (omega arith) (less k (omega arith) h) (less k (omega arith) j))))) (agree_pure (suc k) _))

agree_start : (p : MixedProgram) (f : Callee) (self : Option Value) (vs : List Value) → Agree 0 (run_body 0 p f self vs) (run_body 1 p f self vs)
unfolding run_body ◌>>=◌ tick
agree_start p f self vs = record { falls = λ s. tt; same = λ s le. at s.ticks s refl le }
  where
    at : (n : ℕ) (s : State) → s.ticks ≡ n → s.ticks ≤ 0 → ◌≡◌ {A = Outcome Reply} (stops out_of_ticks s.printed) (go_on (ticked n s) (λ _. within (record { self = self; locals = numbered 0 vs }) (executed_block (context 1 p f (run_body 0 p)) f.implementation.block >>= reply)))
    at zero s e le = refl
    at (suc n) s e le = absurd (omega arith)

agree_run : (n : ℕ) (p : MixedProgram) (f : Callee) (self : Option Value) (vs : List Value) → Agree n (run_body n p f self vs) (run_body (suc n) p f self vs)
unfolding run_body
agree_run zero p f self vs = agree_start p f self vs
agree_run (suc n) p f self vs =
    agree_after n (keeps_within (Agrees n) (kept n) _
    (agree_then n (keeps_block (Agrees n) (kept n) p f (suc n) (suc (suc n)) (run_body n p) (run_body (suc n) p) (agree_run n p) (λ t t' x x' h j. agree_loop (suc n) n (omega arith) h j) f.implementation.block) (keeps_reply (Agrees n) (kept n))))

-- a body beside itself
agree_alone : (n : ℕ) (p : MixedProgram) (f : Callee) (self : Option Value) (vs : List Value) → Agree 0 (run_body n p f self vs) (run_body n p f self vs)
agree_alone n p f self vs = record { falls = (agree_run n p f self vs).falls; same = λ s le. refl }

pub ticks_never_rise : TicksNeverRise
ticks_never_rise = record {
  bodies = λ n p f self vs. (agree_run n p f self vs).falls;
  blocks = λ n turns p f b. (keeps_block (Agrees 0) (kept 0) p f turns turns (run_body n p) (run_body n p) (agree_alone n p) (λ t t' x x' h j. loop_alone 0 h j turns) b).falls;
  expressions = λ n turns p f e. (keeps_expression (Agrees 0) (kept 0) p f turns turns (run_body n p) (run_body n p) (agree_alone n p) (λ t t' x x' h j. loop_alone 0 h j turns) e).falls;
}

-- a bound that is greater by any number
further : (n d : ℕ) (p : MixedProgram) (f : Callee) (self : Option Value) (vs : List Value) (s : State) → s.ticks ≤ n → run_body (d + n) p f self vs s ≡ run_body n p f self vs s
further n zero p f self vs s le = ap (λ k. run_body k p f self vs s) (omega arith)
further n (suc d) p f self vs s le =
    ap (λ k. run_body k p f self vs s) (omega arith) ∙ sym ((agree_run (d + n) p f self vs).same s (omega arith)) ∙ further n d p f self vs s le

bodies_free : (n m : ℕ) (p : MixedProgram) (f : Callee) (self : Option Value) (vs : List Value) (s : State) → s.ticks ≤ n → n ≤ m → run_body m p f self vs s ≡ run_body n p f self vs s
bodies_free n m p f self vs s le more = ap (λ k. run_body k p f self vs s) (omega arith) ∙ further n (m - n) p f self vs s le

-- from what stands at the top
top_free : (n m : ℕ) (p : MixedProgram) (s : State) → s.ticks ≤ n → n ≤ m → top_level m p s ≡ top_level n p s
unfolding ◌>>=◌
top_free n m p s le more = at (static_implementation p client_side start_key)
  where
    at : (o : Option _) → go_on (or_stuck o s) (λ f. run_body m p (with_tables [] f) None []) ≡ go_on (or_stuck o s) (λ f. run_body n p (with_tables [] f) None [])
    at None = refl
    at (Some f) = bodies_free n m p (with_tables [] f) None [] s le more

pub bound_is_free : BoundIsFree
unfolding run
bound_is_free = record { bodies = bodies_free; programs = λ p n m more. ap result (top_free n m p (beginning n) (omega arith) more) }
