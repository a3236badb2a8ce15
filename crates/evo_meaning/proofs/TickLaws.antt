-- A program with one tick more.
use Rattle.std.proofs.Common.{◌≡◌, ◌≢◌, ℕ, zero, suc, ◌+◌, ◌-◌, ◌≤◌, None, [], refl, sym, ap, ◌∙◌, subst, arith}
use Rattle.evo_meaning.specs.Runs.{out_of_ticks, stuck, trapped, Outcome, goes, stops}
use Rattle.evo_meaning.specs.Programs.{MixedProgram}
use Rattle.evo_meaning.specs.Calls.{Reply, with_tables}
use Rattle.evo_meaning.specs.Bodies.{Result, ended_by, result, beginning, top_level, run}
use Rattle.evo_meaning.specs.Laws.{Begins, OutputGrows, EndStays}
use Rattle.evo_meaning.proofs.Steady.{Steady, Lag, out_of, begins_same, begins_on, steady_then, steady_or_stuck}
use Rattle.evo_meaning.proofs.Ticks.{steady_run}

printed_of : (A : Type 0) (r : Outcome A) → (result r).printed ≡ out_of r
printed_of A (goes a t) = refl
printed_of A (stops e o) = refl

-- what a lag says of the results
grown_result : (A : Type 0) (r r' : Outcome A) → Lag r r' → Begins (result r).printed (result r').printed
grown_result A (goes a t) r' l = rw l (begins_same t.printed)
grown_result A (stops out_of_ticks o) r' l = rw (printed_of A r') l
grown_result A (stops stuck o) r' l = rw l (begins_same o)
grown_result A (stops (trapped k) o) r' l = rw l (begins_same o)

stays : (A : Type 0) (r r' : Outcome A) → Lag r r' → (result r).«end» ≢ ended_by out_of_ticks → result r' ≡ result r
stays A (goes a t) r' l h = ap result l
stays A (stops out_of_ticks o) r' l h = absurd (h refl)
stays A (stops stuck o) r' l h = ap result l
stays A (stops (trapped k) o) r' l h = ap result l

steady_top : (p : MixedProgram) (n : ℕ) → Steady (top_level n p) (top_level (suc n) p)
steady_top p n = steady_then (steady_or_stuck _) (λ f. steady_run n p (with_tables [] f) None [])

-- one tick more
next_output : (p : MixedProgram) (n : ℕ) → Begins (run p n).printed (run p (suc n)).printed
unfolding run
next_output p n = grown_result Reply (top_level n p (beginning n)) (top_level (suc n) p (beginning (suc n))) ((steady_top p n).lags (beginning n))

next_end : (p : MixedProgram) (n : ℕ) → (run p n).«end» ≢ ended_by out_of_ticks → run p (suc n) ≡ run p n
unfolding run
next_end p n = stays Reply (top_level n p (beginning n)) (top_level (suc n) p (beginning (suc n))) ((steady_top p n).lags (beginning n))

-- any number of ticks more
later_output : (p : MixedProgram) (d n : ℕ) → Begins (run p n).printed (run p (d + n)).printed
later_output p zero n = subst (λ m. Begins (run p n).printed (run p m).printed) (omega arith) (begins_same (run p n).printed)
later_output p (suc d) n = begins_on (later_output p d n) (subst (λ m. Begins (run p (d + n)).printed (run p m).printed) (omega arith) (next_output p (d + n)))

later_end : (p : MixedProgram) (d n : ℕ) → (run p n).«end» ≢ ended_by out_of_ticks → run p (d + n) ≡ run p n
later_end p zero n h = ap (run p) (omega arith)
later_end p (suc d) n h =
    ap (run p) (omega arith) ∙ next_end p (d + n) (subst (λ (r : Result). r.«end» ≢ ended_by out_of_ticks) (sym (later_end p d n h)) h) ∙ later_end p d n h

pub output_grows : OutputGrows
output_grows p n m le = subst (λ k. Begins (run p n).printed (run p k).printed) (omega arith) (later_output p (m - n) n)

pub end_stays : EndStays
end_stays p n m le h = ap (run p) (omega arith) ∙ later_end p (m - n) n h

-- what an example with some ticks says of more
pub with_more : (p : MixedProgram) (n m : ℕ) (r : Result) → run p n ≡ r → n ≤ m → r.«end» ≢ ended_by out_of_ticks → run p m ≡ r
with_more p n m r e le h = end_stays p n m le (subst (λ (s : Result). s.«end» ≢ ended_by out_of_ticks) (sym e) h) ∙ e
