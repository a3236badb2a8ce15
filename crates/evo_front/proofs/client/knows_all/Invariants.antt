use Rattle.std.proofs.Common.{drop}
use Rattle.evo_first_form.specs.Calls.{calls_of}
use Rattle.evo_first_form.specs.Accepted.{AreKnown}
use Rattle.evo_front.proofs.client.knows_all.Given as goal

-- all calls are known just where those that are left are
abbrev pub invariant-loop-print : goal.invariant-loop-print
invariant-loop-print l = record {
  whole : AreKnown l.functions (calls_of (drop l.print-index l.prints)) → AreKnown l.functions (calls_of l.prints);
  rest : AreKnown l.functions (calls_of l.prints) → AreKnown l.functions (calls_of (drop l.print-index l.prints));
}
