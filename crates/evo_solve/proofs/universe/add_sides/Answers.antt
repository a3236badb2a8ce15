use Rattle.std.proofs.Common.{length, Some, refl, ◌∙◌, ap, arith}
use Rattle.std.proofs.lemmas.Option.{slice_get_read}
use Rattle.evo_solve.proofs.Growing.{placing_same}
use Rattle.evo_solve.proofs.universe.add_sides.Goals as goal

pub loop-requirement-preserved : goal.loop-requirement-preserved
loop-requirement-preserved c =
    let w = c.args.written.now in
    let n = c.loop-requirement.requirement-index in
    let here = slice_get_read w (length w) n c.requirement-item.result refl (omega arith) c.requirement-item.is ∙ ap Some c.in-Same.is in
    placing_same w c.loop-requirement.nodes.items c.add_type.new.nodes.items c.add_type-in-loop-requirement.new.nodes.items c.loop-requirement.pairs.items c.push.new.self.items n c.in_ok-left.left c.in_ok-right.right c.in-Same.one c.in-Same.field-1 c.in-Same.other c.loop-requirement.invariant here c.in_ok-left.ensures c.in_ok-right.ensures c.in_ok-push.ensures.items
