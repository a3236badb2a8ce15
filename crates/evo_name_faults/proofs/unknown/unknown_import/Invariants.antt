use Rattle.std.proofs.Common.{◌≡◌, drop}
use Rattle.evo_declarations.specs.Worlds.{world_of}
use Rattle.evo_names.specs.Heads.{first_some}
use Rattle.evo_name_faults.specs.Unknown.{import_in}
use Rattle.evo_name_faults.proofs.unknown.unknown_import.Given as goal

abbrev pub invariant-loop-name : goal.invariant-loop-name
invariant-loop-name l = first_some (import_in (world_of l.world)) l.imports ≡ first_some (import_in (world_of l.world)) (drop l.name-index l.imports)
