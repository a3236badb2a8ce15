-- A whole program prints and ends the same.
use Rattle.std.proofs.Common.{◌≡◌, ℕ, zero, suc, ◌≤◌, List, [], ◌∷◌, ◌++◌, map, None, refl, sym, ap, ◌∙◌, append_assoc, append-nil, arith}
use Rattle.evo_resolved.specs.declared.expression.Builtin.TheVariants as builtin
use Rattle.evo_resolved.specs.declared.expression.RExpr.TheVariants as x
use Rattle.evo_resolved.specs.declared.statement.RBlock.{RBlock}
use Rattle.evo_names.specs.Listed.{Text}
use Rattle.evo_first_form.specs.declared.Print.{Print}
use Rattle.evo_first_code.specs.Meaning as first
use Rattle.evo_first_code.specs.Meaning.{Program, Evaluated, Ran, line_of, after_line, prints_of}
use Rattle.evo_meaning.specs.Keys.{same_key, look_up}
use Rattle.evo_meaning.specs.Values.{Value}
use Rattle.evo_meaning.specs.Runs.{State, Outcome, goes, stops, Run, pure, ◌>>=◌, go_on, on_store, tick, write}
use Rattle.evo_meaning.specs.Operators.{built_in}
use Rattle.evo_meaning.specs.Calls.{Reply}
use Rattle.evo_meaning.specs.Statements.{Completion, normal, in_order, and_after, executed}
use Rattle.evo_meaning.specs.Bodies.{Result, done, ended_by, context, run_body, reply, result, run}
use Rattle.evo_meaning.proofs.Equations as e
use Rattle.evo_first_meaning.specs.Resolved.{at, expression_of, print_statement, block_of}
use Rattle.evo_first_meaning.specs.Laws.{SameRun, end_of, FirstFormIsACase}
use Rattle.evo_first_meaning.proofs.Lines.{number, line_same}
use Rattle.evo_first_meaning.proofs.Calls.{Same, m, code, values_same}

-- statements that print and end as the prints do
abbrev Ends : State → Ran → Outcome Completion → Type 0
Ends s r (goes c t) = (c ≡ normal) × (t.printed ≡ s.printed ++ r.out) × (r.ending ≡ first.done)
Ends s r (stops reason printed) = (printed ≡ s.printed ++ r.out) × (end_of r.ending ≡ ended_by reason)

-- what was printed before
further : (s : State) (line : List ℕ) (r : Ran) (k : ℕ) (o : Outcome Completion) → Ends (record { store = s.store; ticks = k; printed = s.printed ++ line }) r o → Ends s (after_line line r) o
further s line r k (goes c t) h = (h.0, h.1 ∙ append_assoc s.printed line r.out, h.2)
further s line r k (stops reason printed) h = (h.0 ∙ append_assoc s.printed line r.out, h.1)

after_values : (p : Program) (s : State) (qs : List Print) (rest : Run Completion) → ((k : ℕ) → k ≤ s.ticks → (t : State) → t.ticks ≡ k → Ends t (prints_of p k qs) (rest t)) → (v : Evaluated (List ℕ)) (o : Outcome (List Value)) → Same (map number) s v o → Ends s (first.printed v (λ k. prints_of p k qs)) (go_on (go_on (go_on o (built_in builtin.Print)) (λ _. pure normal)) (λ end. and_after end rest))
unfolding ◌>>=◌ write
after_values p s qs rest more (first.gives ns k) o h =
    rw (h.0, line_same ns) (further s (line_of ns) (prints_of p k qs) k (rest (record { store = s.store; ticks = k; printed = s.printed ++ line_of ns })) (more k h.1 (record { store = s.store; ticks = k; printed = s.printed ++ line_of ns }) refl))
after_values p s qs rest more (first.stops first.done) o h = absurd h
after_values p s qs rest more (first.stops first.spent) o h = rw h (sym (append-nil s.printed), refl)
after_values p s qs rest more (first.stops first.stuck) o h = rw h (sym (append-nil s.printed), refl)

prints_same : (library : Text) (p : Program) (prints : List Print) (turns n : ℕ) (block : RBlock) (qs : List Print) (left : ℕ) (s : State) → s.ticks ≡ left → left ≤ n → Ends s (prints_of p left qs) (in_order (map (executed (context turns (m library p prints) (code library p prints first.client_side block) (run_body n (m library p prints)))) (map (print_statement library) qs)) s)
unfolding ◌>>=◌
prints_same library p prints turns n block [] left s is le = (refl, sym (append-nil s.printed), refl)
prints_same library p prints turns n block (q ∷ qs) left s is le =
    rw (e.expr (context turns (m library p prints) (code library p prints first.client_side block) (run_body n (m library p prints))) (x.Builtin at builtin.Print (map (expression_of library) q.terms)), e.built_in (context turns (m library p prints) (code library p prints first.client_side block) (run_body n (m library p prints))) at builtin.Print (map (expression_of library) q.terms))
    (after_values p s qs (in_order (map (executed (context turns (m library p prints) (code library p prints first.client_side block) (run_body n (m library p prints)))) (map (print_statement library) qs)))
    (λ k less t same. prints_same library p prints turns n block qs k t same (omega arith)) (first.values_of p left q.terms) _ (values_same library p prints turns n block q.terms left s is le))

-- from the statements of the top level to the result
whole : (s : State) (r : Ran) (o : Outcome Completion) → s.printed ≡ [] → Ends s r o → (back : Reply → Run Reply) → ((a : Reply) (t : State) → result (back a t) ≡ record { printed = t.printed; «end» = done }) → SameRun r (result (go_on (go_on o reply) back))
unfolding ◌>>=◌ on_store
whole s r (goes c t) empty h back kept = rw h.0 (record { printed = ap (λ (w : Result). w.printed) (kept _ t) ∙ h.1 ∙ ap (λ front. front ++ r.out) empty; «end» = ap (λ (w : Result). w.«end») (kept _ t) ∙ sym (ap end_of h.2) })
whole s r (stops reason printed) empty h back kept = record { printed = h.0 ∙ ap (λ front. front ++ r.out) empty; «end» = sym h.1 }

pub first_form_is_a_case : FirstFormIsACase
unfolding run run_body ◌>>=◌ on_store tick same_key look_up
first_form_is_a_case library p prints zero = record { printed = refl; «end» = refl }
first_form_is_a_case library p prints (suc n) =
    rw (e.block (context (suc n) (m library p prints) (code library p prints first.client_side (block_of (map (print_statement library) prints))) (run_body n (m library p prints))) at (map (print_statement library) prints))
    (whole (record { store = record { environment = record { self = None; locals = [] }; heap = [] }; ticks = n; printed = [] }) (prints_of p n prints) _ refl
    (prints_same library p prints (suc n) n (block_of (map (print_statement library) prints)) prints n (record { store = record { environment = record { self = None; locals = [] }; heap = [] }; ticks = n; printed = [] }) refl (omega arith)) _ (λ a t. refl))
