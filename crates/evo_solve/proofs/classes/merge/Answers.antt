use Rattle.std.proofs.Common.{arith}
use Rattle.evo_solve.proofs.Closing.{merge_this, merge_other}
use Rattle.evo_solve.proofs.classes.merge.Goals as goal
use Rattle.evo_solve.proofs.classes.merge.Goals.{then-r-from, else-r-from}

pub loop-r-preserved : goal.loop-r-preserved
loop-r-preserved c = elim c.if-r-from.branch [
  | then-r-from w ↦ merge_this c.args.from c.args.to c.args.reps.now c.loop-r.reps c.if-r-from.reps c.loop-r.r-index c.loop-r.invariant (omega arith) w.if-r-from.true w.reps-is
  | else-r-from w ↦ merge_other c.args.from c.args.to c.args.reps.now c.loop-r.reps c.if-r-from.reps c.loop-r.r-index c.loop-r.invariant (omega arith) w.if-r-from.false w.reps-is
]
