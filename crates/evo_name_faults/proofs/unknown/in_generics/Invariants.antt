use Rattle.std.proofs.Common.{◌≡◌, drop}
use Rattle.evo_declarations.specs.Worlds.{world_of}
use Rattle.evo_name_faults.specs.Unknown.{in_generics}
use Rattle.evo_name_faults.proofs.unknown.in_generics.Given as goal

abbrev pub invariant-loop-generic : goal.invariant-loop-generic
invariant-loop-generic l = in_generics (world_of l.world) l.generics ≡ in_generics (world_of l.world) (drop l.generic-index l.generics)
