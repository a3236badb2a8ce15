use Rattle.evo_declarations.proofs.Grouping.{grown_at}
use Rattle.evo_declarations.proofs.groups.groups_of.Goals as goal

pub loop-number-preserved : goal.loop-number-preserved
loop-number-preserved c = (c.in_ok-put.ensures.even, grown_at (λ t. t.now) c.args.texts.now c.loop-number.number _ c.loop-number.found c.put.new.found c.loop-number-test.true c.loop-number.invariant.1 c.in_ok-put.ensures.added)
