use Rattle.std.proofs.Common.{◌≡◌, ◌++◌, drop}
use Rattle.evo_first_form.specs.Calls.{calls_of_terms}
use Rattle.evo_first_code.specs.Objects.{needed}
use Rattle.evo_first_code.proofs.imports.add_terms.Given as goal

abbrev pub invariant-loop-term : goal.invariant-loop-term
invariant-loop-term l = l.initial.imports.items ++ needed l.library l.view (calls_of_terms l.terms) ≡ l.imports.items ++ needed l.library l.view (calls_of_terms (drop l.term-index l.terms))
