use Rattle.evo_solve.proofs.Leading.{Led}
use Rattle.evo_solve.proofs.graph.class_at.Given as goal

abbrev pub invariant-loop-name : goal.invariant-loop-name
invariant-loop-name l = Led l.classes.nodes.items l.classes.reps.items l.first l.names l.name-index l.class
