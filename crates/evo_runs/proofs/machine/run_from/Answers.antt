use Rattle.std.proofs.Common.{◌≡◌, ◌-◌, ◌++◌, length, arith, Ok}
use Rattle.std.proofs.lemmas.Result.{err_from_is_err_and}
use Rattle.std.proofs.lemmas.List.{length-append}
use Rattle.evo_runs.proofs.Follow.{reached-goes, reached-writes, reached-ends, goes-less, writes-less, line-some}
use Rattle.evo_runs.proofs.Sinks.{AppendsPrefix-front, RunsResult-ended, RunsResult-then}
use Rattle.evo_runs.proofs.machine.run_from.Goals as goal

pub loop-line-smaller-in-Goes : goal.loop-line-smaller-in-Goes
loop-line-smaller-in-Goes g c = goes-less c.args.image.now c.loop-line.invariant.loads _ _ (rw c.in-Goes.is at c.in_ok-do_steps.ensures)

pub loop-line-preserved-in-Goes : goal.loop-line-preserved-in-Goes
loop-line-preserved-in-Goes g c = record {
  loads = c.loop-line.invariant.loads;
  plans = c.loop-line.invariant.plans;
  unfailed = c.loop-line.invariant.unfailed;
  comes = λ new r h. c.loop-line.invariant.comes new r (λ run q. h run (reached-goes _ _ _ run (rw c.in-Goes.is at c.in_ok-do_steps.ensures) q));
}

pub returns-in_err-write-in-Writes-clause-runs : goal.returns-in_err-write-in-Writes-clause-runs
returns-in_err-write-in-Writes-clause-runs g c =
    let stop = c.from_residual-in_err-write-in-Writes in
    let p = err_from_is_err_and stop.result stop.ensures.1 in
    let why = c.in_err-write-in-Writes.ensures in
    c.loop-line.invariant.comes c.write.new.self stop.result (λ run q.
    let w = reached-writes _ _ _ _ _ run c.as_bytes.ensures.value (rw c.in-Writes.is at c.in_ok-do_steps.ensures) q in
    rw (w.1, p.1, p.2) (
      AppendsPrefix-front _ _ c.as_bytes.result.now w.0.out why.content,
      why.cause.0,
      λ t. why.cause.1 (g.met.S.Sink.takes_fewer _ _ _ (omega (arith, length-append c.as_bytes.result.now w.0.out)) t),
      (let some = line-some c.args.image.now _ _ _ _ c.as_bytes.ensures.value (rw c.in-Writes.is at c.in_ok-do_steps.ensures) in omega (arith, length-append c.as_bytes.result.now w.0.out, some)),
    ))

pub loop-line-smaller : goal.loop-line-smaller
loop-line-smaller g c = writes-less c.args.image.now c.loop-line.invariant.loads _ _ _ (rw c.in-Writes.is at c.in_ok-do_steps.ensures)

pub loop-line-preserved : goal.loop-line-preserved
loop-line-preserved g c =
    let ok = c.in_ok-write-in-Writes.ensures in
    let line = c.as_bytes.result.now in
    record {
      loads = c.loop-line.invariant.loads;
      plans = c.loop-line.invariant.plans;
      unfailed = λ e. absurd (let k = ok.failed in cc);
      comes = λ new r h. c.loop-line.invariant.comes new r (λ run q.
          let w = reached-writes _ _ _ _ _ run c.as_bytes.ensures.value (rw c.in-Writes.is at c.in_ok-do_steps.ensures) q in
          let behind : length (line ++ w.0.out) - length line ≡ length w.0.out = omega (arith, length-append line w.0.out) in
          rw w.1 (RunsResult-then line w.0 (g.S.Sink.state c.loop-line.out) (g.S.Sink.state c.write.new.self) (g.S.Sink.state new) r ok.content ok.cause (λ t. rw behind at (ok.takes _ (omega (arith, length-append line w.0.out)) t)) (h w.0 w.2)));
    }

pub returns-in-Ends-clause-runs : goal.returns-in-Ends-clause-runs
returns-in-Ends-clause-runs g c =
    c.loop-line.invariant.comes c.loop-line.out (Ok c.in-Ends.end) (λ run q. RunsResult-ended run c.in-Ends.end (g.S.Sink.state c.loop-line.out) (reached-ends _ _ _ run (rw c.in-Ends.is at c.in_ok-do_steps.ensures) q))
