use Rattle.std.proofs.Common.{◌≡◌, drop}
use Rattle.std.specs.List.{list_any}
use Rattle.evo_code.specs.Loads.{is_import}
use Rattle.evo_code.proofs.checked.imports.Given as goal

abbrev pub invariant-loop-import : goal.invariant-loop-import
invariant-loop-import l = list_any (is_import l.kind l.symbol) l.object.imports ≡ list_any (is_import l.kind l.symbol) (drop l.import-index l.object.imports)
