-- Calls give the same, and take the same ticks.
use Rattle.std.proofs.Common.{◌≡◌, ℕ, zero, suc, ◌≤◌, List, [], ◌∷◌, map, Option, Some, None, refl, sym, ap, subst, arith}
use Rattle.std.specs.Option.{option_map}
use Rattle.evo_resolved.specs.declared.declaration.Standing.TheVariants as standing
use Rattle.evo_resolved.specs.declared.statement.RBlock.{RBlock}
use Rattle.evo_resolved.specs.declared.expression.Literal.TheVariants as literal
use Rattle.evo_resolved.specs.declared.statement.RStmt.TheVariants as z
use Rattle.evo_names.specs.Listed.{Text}
use Rattle.evo_first_form.specs.declared.Print.{Print}
use Rattle.evo_first_form.specs.declared.Term.{Term}
use Rattle.evo_first_form.specs.declared.Term.TheVariants.{Integer, Call}
use Rattle.evo_first_code.specs.Meaning as first
use Rattle.evo_first_code.specs.Meaning.{Program, Body, Evaluated}
use Rattle.evo_meaning.specs.Values.{Value}
use Rattle.evo_meaning.specs.Runs.{State, Outcome, goes, stops, out_of_ticks, stuck, Run, pure, ◌>>=◌, go_on, on_store, ticked, tick, or_stuck, each, within, set_environment}
use Rattle.evo_meaning.specs.Programs.{MixedProgram, Side, static_implementation, tables_of}
use Rattle.evo_meaning.specs.Calls.{Reply, Callee, with_tables, result_of}
use Rattle.evo_meaning.specs.Expressions.{evaluated}
use Rattle.evo_meaning.specs.Statements.{returns, in_order, and_after, executed_block}
use Rattle.evo_meaning.specs.Bodies.{context, run_body, reply}
use Rattle.evo_meaning.proofs.Equations as e
use Rattle.evo_first_meaning.specs.Resolved.{at, function_key, call_use, expression_of, returning, mixed_program}
use Rattle.evo_first_meaning.proofs.Found.{side_of, implementation, found}
use Rattle.evo_first_meaning.proofs.Lines.{number}

abbrev pub with_ticks : State → ℕ → State
with_ticks s n = record { store = s.store; ticks = n; printed = s.printed }

-- the same values with the same ticks left, which are no more than those given; or the same end
abbrev pub Same : {A B : Type 0} → (A → B) → State → Evaluated A → Outcome B → Type 0
Same f s (first.gives a left) o = (o ≡ goes (f a) (with_ticks s left)) × (left ≤ s.ticks)
Same f s (first.stops first.done) o = ⊥
Same f s (first.stops first.spent) o = o ≡ stops out_of_ticks s.printed
Same f s (first.stops first.stuck) o = o ≡ stops stuck s.printed

module _ (library : Text) (p : Program) (prints : List Print) where
  abbrev pub m : MixedProgram
  m = mixed_program library p prints

  -- a call of this name on this side, where bodies call one another no deeper than n
  abbrev called_at : ℕ → Side → Text → State → Outcome Value
  called_at n side name s = go_on (go_on (or_stuck (option_map (with_tables []) (static_implementation m side (function_key library name))) s) (λ f. run_body n m f None [])) result_of

  -- code on a side
  abbrev pub code : first.Side → RBlock → Callee
  code side block = with_tables [] (record { side = side_of side; standing = standing.TopLevel; block = block })

  abbrev CallsSame : ℕ → ℕ → Type 0
  CallsSame n left = (side : first.Side) (name : Text) (s : State) → s.ticks ≡ left → Same number s (first.call_of p left side name) (called_at n (side_of side) name s)

  term_same : (turns n left : ℕ) (side : first.Side) (block : RBlock) → CallsSame n left → (t : Term) (s : State) → s.ticks ≡ left → Same number s (first.value_of t left (first.call_of p left side)) (evaluated (context turns m (code side block) (run_body n m)) (expression_of library t) s)
  unfolding ◌>>=◌ tables_of
  term_same turns n left side block calls (Integer i) s is = rw (e.literal (context turns m (code side block) (run_body n m)) (literal.Integer _)) (ap (λ k. goes (number i) (with_ticks s k)) is, omega arith)
  term_same turns n left side block calls (Call name) s is = rw (e.of_call (context turns m (code side block) (run_body n m)) (call_use library name, [])) (calls side name s is)

  -- a body behind its tick
  abbrev entering : ℕ → Body → Run Reply
  entering n b = within (record { self = None; locals = [] }) (executed_block (context (suc n) m (with_tables [] (implementation library b)) (run_body n m)) (returning library b.term) >>= reply)

  -- with no tick left
  none_left : (n : ℕ) (o : Option Body) (s : State) → s.ticks ≡ 0 → Same number s (first.not_entered o) (go_on (go_on (or_stuck (option_map (with_tables []) (option_map (implementation library) o)) s) (λ f. run_body n m f None [])) result_of)
  unfolding run_body ◌>>=◌ tick
  none_left n None s is = refl
  none_left zero (Some b) s is = refl
  none_left (suc n) (Some b) s is = subst (λ t. go_on (go_on (ticked t s) (λ _. entering n b)) result_of ≡ stops out_of_ticks s.printed) (sym is) refl

  -- what is behind the value of a body's term
  left_body : (s : State) (left : ℕ) → left ≤ s.ticks → (v : Evaluated ℕ) (o : Outcome Value) → Same number (record { store = record { environment = record { self = None; locals = [] }; heap = s.store.heap }; ticks = left; printed = s.printed }) v o → Same number s v (go_on (go_on (go_on (go_on (go_on o (λ v. pure (returns v))) (λ end. and_after end (in_order []))) reply) (λ answer. set_environment s.store.environment >>= (λ _. pure answer))) result_of)
  unfolding ◌>>=◌ on_store
  left_body s left le (first.gives i k) o h = rw h.0 (refl, omega arith)
  left_body s left le (first.stops first.done) o h = h
  left_body s left le (first.stops first.spent) o h = rw h refl
  left_body s left le (first.stops first.stuck) o h = rw h refl

  some_left : (n left : ℕ) → CallsSame n left → (o : Option Body) (s : State) → s.ticks ≡ suc left → Same number s (first.entered o left (first.call_of p left)) (go_on (go_on (or_stuck (option_map (with_tables []) (option_map (implementation library) o)) s) (λ f. run_body (suc n) m f None [])) result_of)
  unfolding run_body ◌>>=◌ tick on_store
  some_left n left calls None s is = refl
  some_left n left calls (Some b) s is =
      subst (λ t. Same number s (first.value_of b.term left (first.call_of p left b.side)) (go_on (go_on (ticked t s) (λ _. entering n b)) result_of)) (sym is)
      (rw (e.block (context (suc n) m (with_tables [] (implementation library b)) (run_body n m)) at (z.Return at (Some (expression_of library b.term)) ∷ []), e.return (context (suc n) m (with_tables [] (implementation library b)) (run_body n m)) at (Some (expression_of library b.term)))
      (left_body s left (omega arith) (first.value_of b.term left (first.call_of p left b.side)) _ (term_same (suc n) n left b.side (returning library b.term) calls b.term (record { store = record { environment = record { self = None; locals = [] }; heap = s.store.heap }; ticks = left; printed = s.printed }) refl)))

  pub call_same : (left n : ℕ) → left ≤ n → CallsSame n left
  call_same zero n le side name s is = rw (found library p prints side name) (none_left n (first.body_of p side name) s is)
  call_same (suc left) zero le side name s is = absurd (omega arith)
  call_same (suc left) (suc n) le side name s is = rw (found library p prints side name) (some_left n left (call_same left n (omega arith)) (first.body_of p side name) s is)

  -- ---- the values of a print

  with_first : (s : State) (i k : ℕ) → k ≤ s.ticks → (v : Evaluated (List ℕ)) (o : Outcome (List Value)) → Same (map number) (with_ticks s k) v o → Same (map number) s (first.with_value i v) (go_on o (λ vs. pure (number i ∷ vs)))
  with_first s i k le (first.gives is l) o h = rw h.0 (refl, omega arith)
  with_first s i k le (first.stops first.done) o h = h
  with_first s i k le (first.stops first.spent) o h = rw h refl
  with_first s i k le (first.stops first.stuck) o h = rw h refl

  after_first : (s : State) (ts : List Term) (rest : Run (List Value)) → ((k : ℕ) → k ≤ s.ticks → Same (map number) (with_ticks s k) (first.values_of p k ts) (rest (with_ticks s k))) → (v : Evaluated ℕ) (o : Outcome Value) → Same number s v o → Same (map number) s (first.and_then v (λ k. first.values_of p k ts)) (go_on o (λ v. rest >>= (λ vs. pure (v ∷ vs))))
  unfolding ◌>>=◌
  after_first s ts rest more (first.gives i k) o h = rw h.0 (with_first s i k h.1 (first.values_of p k ts) (rest (with_ticks s k)) (more k h.1))
  after_first s ts rest more (first.stops first.done) o h = h
  after_first s ts rest more (first.stops first.spent) o h = rw h refl
  after_first s ts rest more (first.stops first.stuck) o h = rw h refl

  pub values_same : (turns n : ℕ) (block : RBlock) (ts : List Term) (left : ℕ) (s : State) → s.ticks ≡ left → left ≤ n → Same (map number) s (first.values_of p left ts) (each (map (evaluated (context turns m (code first.client_side block) (run_body n m))) (map (expression_of library) ts)) s)
  unfolding ◌>>=◌
  values_same turns n block [] left s is le = (ap (λ k. goes [] (with_ticks s k)) is, omega arith)
  values_same turns n block (t ∷ ts) left s is le =
      after_first s ts (each (map (evaluated (context turns m (code first.client_side block) (run_body n m))) (map (expression_of library) ts)))
      (λ k less. values_same turns n block ts k (with_ticks s k) refl (omega arith))
      (first.value_of t left (first.call_of p left first.client_side)) (evaluated (context turns m (code first.client_side block) (run_body n m)) (expression_of library t) s)
      (term_same turns n left first.client_side block (call_same left n le) t s is)
