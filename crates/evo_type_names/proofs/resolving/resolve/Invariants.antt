use Rattle.std.proofs.Common.{◌+◌, ◌-◌, ◌*◌, ◌≤◌, length}
use Rattle.evo_declarations.specs.Worlds.{world_of}
use Rattle.evo_type_names.specs.Known.{AllKnown}
use Rattle.evo_type_names.specs.Resolving.{Chained, Distinct}
use Rattle.evo_type_names.proofs.resolving.resolve.Given as goal

abbrev pub invariant-loop-top : goal.invariant-loop-top
invariant-loop-top l = AllKnown (world_of l.space.world) l.known.items × Chained (world_of l.space.world) l.stack.items × Distinct l.stack.items × (length l.initial.known.items + 1 ≤ length l.known.items + length l.stack.items)

abbrev pub decreases-loop-top : goal.decreases-loop-top
decreases-loop-top l = 2 * (18446744073709551615 - length l.known.items) + (18446744073709551615 - length l.stack.items)
