use Rattle.std.proofs.Common.{drop}
use Rattle.evo_first_form.specs.Calls.{calls_of_terms}
use Rattle.evo_first_form.specs.Accepted.{AreKnown}
use Rattle.evo_front.proofs.client.knows_terms.Given as goal

-- all calls are known just where those that are left are
abbrev pub invariant-loop-term : goal.invariant-loop-term
invariant-loop-term l = record {
  whole : AreKnown l.functions (calls_of_terms (drop l.term-index l.terms)) → AreKnown l.functions (calls_of_terms l.terms);
  rest : AreKnown l.functions (calls_of_terms l.terms) → AreKnown l.functions (calls_of_terms (drop l.term-index l.terms));
}
