use Rattle.std.proofs.Common.{drop}
use Rattle.evo_first_form.specs.Accepted.{AreBodiesKnown}
use Rattle.evo_front.proofs.calls.knows_bodies.Given as goal

-- all bodies are known just where those that are left are
abbrev pub invariant-loop-function : goal.invariant-loop-function
invariant-loop-function l = record {
  whole : AreBodiesKnown l.functions (drop l.function-index l.functions) → AreBodiesKnown l.functions l.functions;
  rest : AreBodiesKnown l.functions l.functions → AreBodiesKnown l.functions (drop l.function-index l.functions);
}
