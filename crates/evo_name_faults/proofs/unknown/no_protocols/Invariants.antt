use Rattle.std.proofs.Common.{◌≡◌, drop}
use Rattle.evo_declarations.specs.Worlds.{world_of}
use Rattle.evo_name_faults.specs.Unknown.{no_protocols}
use Rattle.evo_name_faults.proofs.unknown.no_protocols.Given as goal

abbrev pub invariant-loop-name : goal.invariant-loop-name
invariant-loop-name l = no_protocols (world_of l.world) l.names ≡ no_protocols (world_of l.world) (drop l.name-index l.names)
