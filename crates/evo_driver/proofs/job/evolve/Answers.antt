use Rattle.std.proofs.Common.{◌≡◌, List, ℕ, refl, inl, inr, subst}
use Rattle.evo_first_code.specs.Meaning.{Ran, run_of}
use Rattle.evo_first_form.specs.declared.Interface.{Interface}
use Rattle.evo_first_form.specs.Rules.{removed_lines}
use Rattle.evo_driver.specs.Answer.{Answer, AnswersRun, refused_answer, report_answer, unread_answer}
use Rattle.evo_driver.specs.Answer.Answers.{ran, refused}
use Rattle.evo_driver.specs.Files.{name_of}
use Rattle.evo_driver.specs.Loading.{run_with}
use Rattle.evo_driver.specs.Top.{Means, Replies}
use Rattle.evo_driver.proofs.Built.{builds_of}
use Rattle.evo_driver.proofs.Gives.{Receives-none, GivesResult-weaker, nothing_out}
use Rattle.evo_driver.proofs.Loads.{answers_broken}
use Rattle.evo_driver.proofs.job.evolve.Goals as goal

pub run-requires : goal.run-requires
run-requires g c = builds_of _ c.args.job.now c.in-Ok.loaded c.in-Ok.ensures.loads.1

pub returns-in-Ok-clause-gives : goal.returns-in-Ok-clause-gives
returns-in-Ok-clause-gives g c words is =
    let load = c.in-Ok.ensures.loads in
    let run : Ran = run_with c.in-Ok.loaded c.args.job.now.ticks in
    let means : (a : Answer) → AnswersRun run a → Means words (g.F.Files.state c.args.files.now) (g.F.Files.state c.load.new.files) a
    = λ a e. inl (
      ran c.args.job.now load.1.old c.in-Ok.loaded.libraries.functions c.in-Ok.loaded.client a is load.1.accepts
          (subst (λ (i : Interface). AnswersRun (run_of (record { old = i.functions; new = c.in-Ok.loaded.libraries.functions }) c.in-Ok.loaded.client.prints c.args.job.now.ticks) a) load.1.interface_is e),
      load.0,
    ) in
    GivesResult-weaker (AnswersRun run) _ (g.O.Sink.state c.args.out.now) (g.O.Sink.state c.run.new.out) _ means c.run.ensures

pub returns-in-Err-Broken-clause-gives : goal.returns-in-Err-Broken-clause-gives
returns-in-Err-Broken-clause-gives g c words is =
    let load = rw c.in-Err-Broken.field-0-is at c.in-Err-Broken.ensures.loads in
    let lines = removed_lines c.args.job.now.library c.as_slice.result.now in
    let means : (a : Answer) → a ≡ report_answer lines → Means words (g.F.Files.state c.args.files.now) (g.F.Files.state c.load.new.files) a
    = λ a e. inl (answers_broken words (g.F.Files.state c.args.files.now).held c.args.job.now c.in-Err-Broken.names c.as_slice.result.now is load.1 c.as_slice.ensures a e, load.0) in
    GivesResult-weaker (λ (a : Answer). a ≡ report_answer lines) _ (g.O.Sink.state c.args.out.now) (g.O.Sink.state c.report.new.out) _ means c.report.ensures

pub returns-in_ok-refused-in-Err-Refused-clause-gives : goal.returns-in_ok-refused-in-Err-Refused-clause-gives
returns-in_ok-refused-in-Err-Refused-clause-gives g c words is =
    let load = rw c.in-Err-Refused.field-0-is at c.in-Err-Refused.ensures.loads in
    let told = c.in_ok-refused-in-Err-Refused.ensures in (
      refused_answer c.in-Err-Refused.why (name_of c.args.job.now c.in-Err-Refused.at),
      inl (refused c.args.job.now c.in-Err-Refused.at c.in-Err-Refused.why is load.1, load.0),
      subst (λ (n : List ℕ). Replies (refused_answer c.in-Err-Refused.why n) c.in_ok-refused-in-Err-Refused.field-0) c.name_at.ensures told,
      nothing_out c.in-Err-Refused.why (name_of c.args.job.now c.in-Err-Refused.at) (g.O.Sink.state c.args.out.now),
    )

pub returns-in_ok-unread-in-Err-NotRead-clause-gives : goal.returns-in_ok-unread-in-Err-NotRead-clause-gives
returns-in_ok-unread-in-Err-NotRead-clause-gives g c words is =
    let load = rw c.in-Err-NotRead.field-0-is at c.in-Err-NotRead.ensures.loads in
    let told = c.in_ok-unread-in-Err-NotRead.ensures in (
      unread_answer (name_of c.args.job.now c.in-Err-NotRead.at),
      inr (record { job = c.args.job.now; at = c.in-Err-NotRead.at; asks = is; reaches = load.2; may_fail = load.3; is = refl }, load.0, load.1),
      subst (λ (n : List ℕ). Replies (unread_answer n) c.in_ok-unread-in-Err-NotRead.field-0) c.name_at-in-Err-NotRead.ensures told,
      Receives-none (g.O.Sink.state c.args.out.now),
    )
