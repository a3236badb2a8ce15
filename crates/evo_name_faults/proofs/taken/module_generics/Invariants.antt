use Rattle.std.proofs.Common.{◌≡◌, drop}
use Rattle.evo_declarations.specs.Worlds.{world_of}
use Rattle.evo_name_faults.specs.Twice.{module_generics}
use Rattle.evo_name_faults.proofs.taken.module_generics.Given as goal

abbrev pub invariant-loop-generic : goal.invariant-loop-generic
invariant-loop-generic l = module_generics (world_of l.world) l.generics ≡ module_generics (world_of l.world) (drop l.generic-index l.generics)
