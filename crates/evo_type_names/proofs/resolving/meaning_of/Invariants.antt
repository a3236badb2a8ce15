use Rattle.std.proofs.Common.{◌-◌, length}
use Rattle.evo_declarations.specs.Worlds.{world_of}
use Rattle.evo_type_names.specs.Known.{AllKnown}
use Rattle.evo_type_names.proofs.resolving.meaning_of.Given as goal

abbrev pub invariant-tries : goal.invariant-tries
invariant-tries l = AllKnown (world_of l.space.world) l.known.items

abbrev pub decreases-tries : goal.decreases-tries
decreases-tries l = 18446744073709551615 - length l.known.items
