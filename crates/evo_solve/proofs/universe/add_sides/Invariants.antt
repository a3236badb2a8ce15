use Rattle.evo_solve.specs.Universe.{Placing}
use Rattle.evo_solve.proofs.universe.add_sides.Given as goal

abbrev pub invariant-loop-requirement : goal.invariant-loop-requirement
invariant-loop-requirement l = Placing l.written l.nodes.items l.pairs.items l.requirement-index
