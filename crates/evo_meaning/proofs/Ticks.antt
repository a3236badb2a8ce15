-- One tick more.
use Rattle.std.proofs.Common.{ℕ, zero, suc, Bool, List, Option}
use Rattle.evo_meaning.specs.Values.{Value}
use Rattle.evo_meaning.specs.Runs.{out_of_ticks, Run, ◌>>=◌, ◌>>◌, tick, within}
use Rattle.evo_meaning.specs.Programs.{MixedProgram}
use Rattle.evo_meaning.specs.Calls.{Reply, Callee}
use Rattle.evo_meaning.specs.Statements.{Completion, looped, executed_block}
use Rattle.evo_meaning.specs.Bodies.{reply, context, numbered, run_body}
use Rattle.evo_meaning.proofs.Steady.{Steady, steady_pure, steady_stop, steady_then, steady_store, steady_tick, steady_write, steady_out_of_ticks}
use Rattle.evo_meaning.proofs.Forms.{Kept, keeps_choice, keeps_after_turn, keeps_block, keeps_reply, keeps_within}

abbrev Lagging : (A : Type 0) → Run A → Run A → Type 0
Lagging A m m' = Steady m m'

kept : Kept Lagging
kept = record { pure = steady_pure; stop = steady_stop; then = steady_then; store = steady_store; tick = steady_tick; write = steady_write }

-- one turn more for the second
steady_loop : {t t' : Run Bool} {m m' : Run Completion} → Steady t t' → Steady m m' → (n : ℕ) → Steady (looped n t m) (looped (suc n) t' m')
unfolding looped
steady_loop h j zero =
    steady_out_of_ticks _ (steady_then h (λ b. keeps_choice Lagging kept b (steady_then steady_tick (λ _. steady_then j (λ f. keeps_after_turn Lagging kept f (steady_stop out_of_ticks)))) (steady_pure _))).grows
steady_loop h j (suc n) =
    steady_then h (λ b. keeps_choice Lagging kept b (steady_then steady_tick (λ _. steady_then j (λ f. keeps_after_turn Lagging kept f (steady_loop h j n)))) (steady_pure _))

steady_body : (p : MixedProgram) (f : Callee) (runner runner' : Callee → Option Value → List Value → Run Reply) (n : ℕ) (self : Option Value) (vs : List Value) → ((f : Callee) (self : Option Value) (vs : List Value) → Steady (runner f self vs) (runner' f self vs)) → Steady (tick >> within (record { self = self; locals = numbered 0 vs }) (executed_block (context n p f runner) f.implementation.block >>= reply)) (tick >> within (record { self = self; locals = numbered 0 vs }) (executed_block (context (suc n) p f runner') f.implementation.block >>= reply))
steady_body p f runner runner' n self vs calls =
    steady_then steady_tick
    (λ _. keeps_within Lagging kept _
    (steady_then (keeps_block Lagging kept p f n (suc n) runner runner' calls (λ t t' x x' h j. steady_loop h j n) f.implementation.block) (keeps_reply Lagging kept)))

pub steady_run : (n : ℕ) (p : MixedProgram) (f : Callee) (self : Option Value) (vs : List Value) → Steady (run_body n p f self vs) (run_body (suc n) p f self vs)
unfolding run_body
steady_run zero p f self vs = steady_out_of_ticks _ (steady_body p f _ _ 0 self vs (λ f self vs. steady_stop out_of_ticks)).grows
steady_run (suc n) p f self vs = steady_body p f _ _ (suc n) self vs (steady_run n p)
