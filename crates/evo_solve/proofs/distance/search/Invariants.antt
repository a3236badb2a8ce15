use Rattle.std.proofs.Common.{◌+◌, ◌<◌, length}
use Rattle.evo_solve.specs.Search.{Early, Level, StartsIn, nones}
use Rattle.evo_solve.proofs.distance.search.Given as goal

abbrev pub invariant-rounds : goal.invariant-rounds
invariant-rounds l = record { level : Level l.classes l.protocols l.fn._sought.class l.fn._sought.protocol l.far l.distances.items; early : Early l.classes l.protocols l.fn._sought.class l.fn._sought.protocol l.starts l.far; room : l.far + nones l.distances.items < length l.distances.items; starts : StartsIn l.starts l.distances.items }

abbrev pub decreases-rounds : goal.decreases-rounds
decreases-rounds l = nones l.distances.items
