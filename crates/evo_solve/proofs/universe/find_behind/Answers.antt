use Rattle.std.proofs.Common.{length, refl, ap, ◌∙◌, arith}
use Rattle.std.proofs.lemmas.Option.{slice_get_read}
use Rattle.evo_solve.specs.Equal.{taken}
use Rattle.evo_solve.proofs.Closing.{branched, same_node}
use Rattle.evo_solve.proofs.universe.find_behind.Goals as goal

pub returns-then-is_behind : goal.returns-then-is_behind
returns-then-is_behind c y at_y =
    let nodes = c.args.nodes.now in
    let x = c.index-nodes-i.result in
    let at = slice_get_read nodes (length nodes) c.loop-i.i x refl (omega arith) c.index-nodes-i.is in
    let b = branched nodes c.requires c.loop-i.i c.args.below c.args.name.now x at c.if-is_behind.ensures in
    (x, at, b.2 ∙ ap (λ z. taken z.path c.args.name.now) (same_node nodes c.args.below b.0 y b.1 at_y))
