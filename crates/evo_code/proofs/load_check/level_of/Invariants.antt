use Rattle.std.proofs.Common.{◌≡◌, drop}
use Rattle.evo_code.specs.Loads.{level_in}
use Rattle.evo_code.proofs.load_check.level_of.Given as goal

abbrev pub invariant-loop-function : goal.invariant-loop-function
invariant-loop-function l = level_in l.object.functions l.symbol ≡ level_in (drop l.function-index l.object.functions) l.symbol
