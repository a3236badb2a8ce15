use Rattle.std.proofs.Common.{rules, ◌≡◌, Some, slice_get, subst}
use Rattle.evo_solve.specs.declared.universe.Node.{Node}
use Rattle.evo_solve.specs.Equal.{taken}
use Rattle.evo_solve.specs.Universe.{HasPath}
use Rattle.evo_solve.proofs.Growing.{added_behind, added_found}
use Rattle.evo_solve.proofs.universe.add_name.Goals as goal

pub returns : goal.returns
returns c = added_behind c.args.nodes.now.items c.push.new.self.items c.len-number.result c.args.below c.args.name.now c.index.result.now c.in_ok-path.path c.in_ok-name.name c.requires.grown c.requires.below c.index.ensures c.in_ok-path.ensures c.in_ok-name.ensures c.in_ok-push.ensures.items (search rules)

pub returns-in-Some : goal.returns-in-Some
returns-in-Some c = added_found c.args.nodes.now.items c.in-Some.found c.args.below c.args.name.now c.requires.grown c.requires.below (subst (λ l. (y : Node) → slice_get l c.args.below ≡ Some y → HasPath l c.in-Some.found (taken y.path c.args.name.now)) c.deref.ensures.value c.in-Some.ensures)
