use Rattle.std.proofs.Common.{◌≡◌, drop}
use Rattle.std.specs.List.{list_all}
use Rattle.evo_code.specs.Loads.{entry_passes, is_timed}
use Rattle.evo_code.proofs.load_check.all_timed.Given as goal

abbrev pub invariant-loop-entry : goal.invariant-loop-entry
invariant-loop-entry l = list_all (entry_passes l.object is_timed) l.entries ≡ list_all (entry_passes l.object is_timed) (drop l.entry-index l.entries)
