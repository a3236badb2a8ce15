use Rattle.std.proofs.Common.{◌≡◌, drop}
use Rattle.std.specs.List.{list_all}
use Rattle.evo_code.specs.Loads.{entry_passes, is_low}
use Rattle.evo_code.proofs.load_check.all_low.Given as goal

abbrev pub invariant-loop-entry : goal.invariant-loop-entry
invariant-loop-entry l = list_all (entry_passes l.object is_low) l.entries ≡ list_all (entry_passes l.object is_low) (drop l.entry-index l.entries)
