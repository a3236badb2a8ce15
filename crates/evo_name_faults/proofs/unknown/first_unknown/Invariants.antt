use Rattle.std.proofs.Common.{◌≡◌, drop}
use Rattle.evo_declarations.specs.Views.{entries_of}
use Rattle.evo_declarations.specs.Worlds.{world_of}
use Rattle.evo_names.specs.Heads.{first_some}
use Rattle.evo_name_faults.specs.Unknown.{unknown_in}
use Rattle.evo_name_faults.proofs.unknown.first_unknown.Given as goal

abbrev pub invariant-loop-listed : goal.invariant-loop-listed
invariant-loop-listed l = first_some (unknown_in (world_of l.world)) (entries_of l.entries) ≡ first_some (unknown_in (world_of l.world)) (entries_of (drop l.listed-index l.entries))
