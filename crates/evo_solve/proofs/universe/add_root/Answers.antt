use Rattle.std.proofs.Common.{subst}
use Rattle.evo_solve.specs.Equal.{alone}
use Rattle.evo_solve.specs.Universe.{HasPath}
use Rattle.evo_solve.proofs.Growing.{added_same}
use Rattle.evo_solve.proofs.universe.add_root.Goals as goal

pub returns-in-Some : goal.returns-in-Some
returns-in-Some c = added_same c.args.nodes.now.items c.in-Some.found (alone c.args.first) c.requires (subst (λ l. HasPath l c.in-Some.found (alone c.args.first)) c.deref.ensures.value c.in-Some.ensures)
