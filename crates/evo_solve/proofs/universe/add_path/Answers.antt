use Rattle.std.proofs.Common.{arith}
use Rattle.evo_solve.specs.Equal.{alone}
use Rattle.evo_solve.proofs.Growing.{added_next}
use Rattle.evo_solve.proofs.universe.add_path.Goals as goal

pub loop-name-preserved : goal.loop-name-preserved
loop-name-preserved c = added_next c.args.nodes.now.items c.loop-name.nodes.items c.add_name.new.nodes.items c.loop-name.at c.in_ok-at-2.at (alone c.args.first) c.args.names.now c.loop-name.name-index c.name-item.result c.loop-name.invariant c.in_ok-at-2.ensures (omega arith) c.name-item.is
