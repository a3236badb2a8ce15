use Rattle.std.proofs.Common.{take}
use Rattle.evo_solve.specs.Equal.{alone, behind}
use Rattle.evo_solve.specs.Universe.{Added}
use Rattle.evo_solve.proofs.universe.add_path.Given as goal

abbrev pub invariant-loop-name : goal.invariant-loop-name
invariant-loop-name l = Added l.fn.nodes.items l.nodes.items l.at (behind (alone l.fn.first) (take l.name-index l.names))
