use Rattle.std.proofs.Common.{◌≡◌, ◌<◌, ℕ, List, None, length, refl, sym, ap, subst}
use Rattle.evo_base.specs.Content.{Appends}
use Rattle.evo_code.specs.declared.image.Image.{Image}
use Rattle.evo_execution.specs.declared.end.End.{End}
use Rattle.evo_execution.specs.Execution.{Executes}
use Rattle.evo_runs.specs.Runs.{MachineState}
use Rattle.evo_first_code.specs.Meaning.{Ran}
use Rattle.evo_driver.specs.Loading.{run_with}
use Rattle.evo_driver.specs.Top.{IsNoFault, EndsResult}
use Rattle.evo_driver.proofs.Runs.{executed, answered, replied, no_fault}
use Rattle.evo_driver.proofs.run.run.Goals as goal

pub new-requires : goal.new-requires
new-requires g c = c.in_ok-image.ensures.loads

pub ended-requires-clause-faultless : goal.ended-requires-clause-faultless
ended-requires-clause-faultless g c =
    let ran : Ran = run_with c.args.loaded.now c.args.ticks in
    let ex = executed c.in_ok-image.image c.args.ticks ran (c.in_ok-image.ensures.does c.args.ticks) in
    let made : c.in_ok-machine.machine ≡ record { image = c.in_ok-image.image; finished = None } = c.in_ok-machine.ensures in
    let runs = c.in-Ok.ensures.runs (ap (λ (m : MachineState). m.finished) made) (record { out = ran.out; ending = ex.end })
    (subst (λ (image : Image). Executes image c.args.ticks (record { out = ran.out; ending = ex.end })) (sym (ap (λ (m : MachineState). m.image) made)) ex.run) in
    subst IsNoFault (sym runs.1) (no_fault ran.ending ex.end ex.is)

pub returns-in-Ok : goal.returns-in-Ok
returns-in-Ok g c =
    let ran : Ran = run_with c.args.loaded.now c.args.ticks in
    let ex = executed c.in_ok-image.image c.args.ticks ran (c.in_ok-image.ensures.does c.args.ticks) in
    let made : c.in_ok-machine.machine ≡ record { image = c.in_ok-image.image; finished = None } = c.in_ok-machine.ensures in
    let runs = c.in-Ok.ensures.runs (ap (λ (m : MachineState). m.finished) made) (record { out = ran.out; ending = ex.end })
    (subst (λ (image : Image). Executes image c.args.ticks (record { out = ran.out; ending = ex.end })) (sym (ap (λ (m : MachineState). m.image) made)) ex.run) in
    let reply = replied ran.out ran.ending ex.end c.in_ok-ended-in-Ok.field-0 ex.is (subst (λ (e : End). EndsResult e c.in_ok-ended-in-Ok.field-0) runs.1 c.in_ok-ended-in-Ok.ensures) in
    (reply.0, reply.1, reply.2, record { written = subst (λ (l : List ℕ). Appends (g.O.Sink.state c.args.out.now).written (g.O.Sink.state c.run.new.out).written l) (sym reply.3) runs.0; faultless = runs.2 })

pub returns-in-Err-Write : goal.returns-in-Err-Write
returns-in-Err-Write g c =
    let ran : Ran = run_with c.args.loaded.now c.args.ticks in
    let ex = executed c.in_ok-image.image c.args.ticks ran (c.in_ok-image.ensures.does c.args.ticks) in
    let made : c.in_ok-machine.machine ≡ record { image = c.in_ok-image.image; finished = None } = c.in_ok-machine.ensures in
    let fin = ap (λ (m : MachineState). m.finished) made in
    let runs = c.in-Err-Write.ensures.runs fin (record { out = ran.out; ending = ex.end })
    (subst (λ (image : Image). Executes image c.args.ticks (record { out = ran.out; ending = ex.end })) (sym (ap (λ (m : MachineState). m.image) made)) ex.run) in
    let why = rw c.in-Err-Write.field-0-is at runs in
    let a = answered ran.out ran.ending ex.end ex.is in (
      a.answer,
      a.ends,
      record {
        some = subst (λ (l : List ℕ). 0 < length l) (sym a.out_is) why.3;
        rose = why.1;
        could = subst (λ (l : List ℕ). (g.O.Sink.state c.args.out.now).takes (length l) → ⊥) (sym a.out_is) why.2;
        last = c.in-Err-Write.ensures.failed fin (rw c.in-Err-Write.field-0-is refl);
      },
    )
