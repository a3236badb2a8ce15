use Rattle.std.proofs.Common.{◌≡◌, drop}
use Rattle.evo_first_form.specs.Calls.{calls_of_terms}
use Rattle.evo_copies.specs.Reach.{reached}
use Rattle.evo_copies.proofs.copies.reach_terms.Given as goal

abbrev pub invariant-loop-term : goal.invariant-loop-term
invariant-loop-term l = reached l.view l.initial.copies (calls_of_terms l.terms) ≡ reached l.view l.copies (calls_of_terms (drop l.term-index l.terms))
