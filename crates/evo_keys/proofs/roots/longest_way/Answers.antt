use Rattle.evo_keys.proofs.Rooting.{way_with, way_alone}
use Rattle.evo_keys.proofs.roots.longest_way.Goals as goal

pub returns-in-Some : goal.returns-in-Some
returns-in-Some c = way_with c.args.bases c.in-Some.table _ _ c.in-Some.is c.count-declared.ensures.all c.count.ensures.all

pub returns-in-None : goal.returns-in-None
returns-in-None c = way_alone c.args.bases _ c.in-None.is c.count-declared.ensures.all
