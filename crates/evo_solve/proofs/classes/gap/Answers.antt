use Rattle.std.proofs.Common.{arith}
use Rattle.evo_solve.proofs.Closing.{closed_from}
use Rattle.evo_solve.proofs.classes.gap.Goals as goal

pub returns : goal.returns
returns c =
    closed_from c.args.nodes.now c.args.pairs.now c.args.reps.now
    (λ k p less at. c.loop-side.invariant k p (omega arith) at)
    (λ k m x y less ax ay l. c.loop-i.invariant k m x y (omega arith) ax ay l)
