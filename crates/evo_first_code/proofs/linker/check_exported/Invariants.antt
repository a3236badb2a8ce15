use Rattle.std.proofs.Common.{drop}
use Rattle.evo_first_code.specs.Works.{AreExported}
use Rattle.evo_first_code.proofs.linker.check_exported.Given as goal

abbrev pub invariant-loop-import : goal.invariant-loop-import
invariant-loop-import l = AreExported l.functions (drop l.import-index l.imports) → AreExported l.functions l.imports
