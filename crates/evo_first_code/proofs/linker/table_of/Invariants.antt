use Rattle.std.proofs.Common.{◌≡◌, ◌++◌, drop}
use Rattle.evo_base.specs.Names.{AreDistinct}
use Rattle.evo_execution.specs.Tables.{symbols_of}
use Rattle.evo_first_code.proofs.linker.table_of.Given as goal

abbrev pub invariant-loop-function : goal.invariant-loop-function
invariant-loop-function l = record {
  symbols : symbols_of l.functions ≡ l.symbols ++ symbols_of (drop l.function-index l.functions);
  distinct : AreDistinct l.symbols;
}
