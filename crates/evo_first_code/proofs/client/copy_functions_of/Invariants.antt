use Rattle.std.proofs.Common.{◌≡◌, ◌++◌, drop}
use Rattle.evo_first_code.specs.Objects.{copy_functions}
use Rattle.evo_first_code.proofs.client.copy_functions_of.Given as goal

abbrev pub invariant-loop-place : goal.invariant-loop-place
invariant-loop-place l = copy_functions l.library l.view l.copies ≡ l.functions.items ++ copy_functions l.library l.view (drop l.place l.copies)
