use Rattle.std.proofs.Common.{◌≡◌, true, Result}
use Rattle.evo_execution.specs.declared.end.End.{End}
use Rattle.evo_execution.specs.Execution.{Run, Reaches}
use Rattle.evo_execution.specs.Loaded.{IsLoaded}
use Rattle.evo_execution.proofs.Falls.{measure}
use Rattle.evo_interpreter.specs.States.{state_of}
use Rattle.evo_runs.specs.declared.machine.RunStop.{RunStop}
use Rattle.evo_runs.specs.Quick.{plan_of}
use Rattle.evo_runs.specs.Runs.{RunsResult}
use Rattle.evo_runs.proofs.machine.run_from.Given as goal

-- what finishes the run from here finishes it from where it began
abbrev pub invariant-loop-line : goal.invariant-loop-line
invariant-loop-line g l = record {
  loads : IsLoaded l.image;
  plans : l.plans ≡ plan_of l.image;
  unfailed : (g.S.Sink.state l.out).failed ≡ true → (g.S.Sink.state l.initial.out).failed ≡ true;
  comes : (new : _) (r : Result End RunStop)
      → ((rest : Run) → Reaches l.image (state_of l.state) rest → RunsResult rest (g.S.Sink.state l.out) (g.S.Sink.state new) r)
      → (run : Run) → Reaches l.image (state_of l.initial.state) run → RunsResult run (g.S.Sink.state l.initial.out) (g.S.Sink.state new) r;
}

abbrev pub decreases-loop-line : goal.decreases-loop-line
decreases-loop-line g l = measure l.image (state_of l.state)
