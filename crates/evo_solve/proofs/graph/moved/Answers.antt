use Rattle.std.proofs.Common.{ℕ, MatchOption, subst, sym}
use Rattle.evo_solve.specs.Search.{MovesBy}
use Rattle.evo_solve.proofs.graph.moved.Goals as goal

pub returns-in-Some : goal.returns-in-Some
returns-in-Some c = subst (λ o. MatchOption c.child.result ((d : ℕ) → MovesBy c.args.classes.now.nodes.items c.args.classes.now.reps.items c.args.class d o → ⊥) (λ d. MovesBy c.args.classes.now.nodes.items c.args.classes.now.reps.items c.args.class d o)) (sym c.in-Some.is) c.child.ensures
