use Rattle.std.proofs.Common.{arith}
use Rattle.evo_solve.proofs.Standing.{consistent_none, consistent_all}
use Rattle.evo_solve.proofs.conflict.first_conflict.Goals as goal

pub loop-i-init : goal.loop-i-init
loop-i-init c = consistent_none

pub returns : goal.returns
returns c = consistent_all c.args.signature.now.requirements c.as_slice-written.result.now c.loop-i.i c.as_slice-written.ensures (omega arith) c.loop-i.invariant
