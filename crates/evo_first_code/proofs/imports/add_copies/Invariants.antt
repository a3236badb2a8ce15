use Rattle.std.proofs.Common.{◌≡◌, ◌++◌, drop}
use Rattle.evo_first_form.specs.Copies.{calls_of_copies}
use Rattle.evo_first_code.specs.Objects.{needed}
use Rattle.evo_first_code.proofs.imports.add_copies.Given as goal

abbrev pub invariant-loop-place : goal.invariant-loop-place
invariant-loop-place l = l.initial.imports.items ++ needed l.library l.view (calls_of_copies l.view l.copies) ≡ l.imports.items ++ needed l.library l.view (calls_of_copies l.view (drop l.place l.copies))
