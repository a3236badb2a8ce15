use Rattle.std.proofs.Common.{◌≡◌, ◌++◌, drop}
use Rattle.evo_first_form.specs.Calls.{calls_of}
use Rattle.evo_first_code.specs.Objects.{needed}
use Rattle.evo_first_code.proofs.imports.add_prints.Given as goal

abbrev pub invariant-loop-print : goal.invariant-loop-print
invariant-loop-print l = l.initial.imports.items ++ needed l.library l.view (calls_of l.prints) ≡ l.imports.items ++ needed l.library l.view (calls_of (drop l.print-index l.prints))
