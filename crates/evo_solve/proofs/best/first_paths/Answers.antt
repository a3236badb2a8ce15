use Rattle.std.proofs.Common.{◌∙◌}
use Rattle.evo_solve.proofs.Offers.{least_more}
use Rattle.evo_solve.proofs.best.first_paths.Goals as goal

pub loop-preserved : goal.loop-preserved
loop-preserved c = record {
  size = c.in_ok-round.ensures.size ∙ c.loop.invariant.size;
  least = least_more c.args.nodes.now c.args.reps.now c.requires c.loop.counter c.loop.bests.items c.round.new.bests.items c.loop.invariant.least c.in_ok-round.ensures;
  sound = c.in_ok-round.ensures.sound c.loop.invariant.sound;
}
