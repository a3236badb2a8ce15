use Rattle.std.proofs.Common.{arith}
use Rattle.evo_solve.proofs.Comparing.{names_past, names_shorter}
use Rattle.evo_solve.proofs.order.compare_names.Goals as goal

pub returns-then-i-b : goal.returns-then-i-b
returns-then-i-b c = names_past c.args.a.now c.args.b.now c.loop-i.i (omega arith) (omega arith) c.loop-i.invariant.same

pub returns-then-a-b : goal.returns-then-a-b
returns-then-a-b c = names_shorter c.args.a.now c.args.b.now c.loop-i.i (omega arith) (omega arith) c.loop-i.invariant.same
