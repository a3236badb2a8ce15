use Rattle.std.proofs.Common.{◌≡◌, drop}
use Rattle.evo_declarations.specs.Worlds.{world_of}
use Rattle.evo_name_faults.specs.Unknown.{in_requirements}
use Rattle.evo_name_faults.proofs.unknown.in_requirements.Given as goal

abbrev pub invariant-loop-requirement : goal.invariant-loop-requirement
invariant-loop-requirement l = in_requirements (world_of l.world) l.requirements ≡ in_requirements (world_of l.world) (drop l.requirement-index l.requirements)
