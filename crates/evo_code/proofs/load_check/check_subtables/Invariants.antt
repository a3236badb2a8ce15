use Rattle.std.proofs.Common.{◌≡◌, drop}
use Rattle.std.specs.List.{list_all}
use Rattle.evo_code.specs.Loads.{subtable_passes}
use Rattle.evo_code.proofs.load_check.check_subtables.Given as goal

abbrev pub invariant-loop-subtable : goal.invariant-loop-subtable
invariant-loop-subtable l = list_all (subtable_passes l.object l.requirements) l.subtables ≡ list_all (subtable_passes l.object l.requirements) (drop l.subtable-index l.subtables)
