use Rattle.std.proofs.Common.{◌≡◌, ◌++◌, drop}
use Rattle.evo_first_code.specs.Objects.{library_functions}
use Rattle.evo_first_code.proofs.library.built_functions.Given as goal

abbrev pub invariant-loop-function : goal.invariant-loop-function
invariant-loop-function l = library_functions l.library l.functions ≡ l.built.items ++ library_functions l.library (drop l.function-index l.functions)
