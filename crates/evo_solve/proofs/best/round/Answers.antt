use Rattle.std.proofs.Common.{length, refl, sym, ◌∙◌, ap, arith}
use Rattle.std.proofs.lemmas.Option.{slice_get_read}
use Rattle.evo_solve.specs.Universe.{offer, rep}
use Rattle.evo_solve.proofs.Offers.{relaxed_none, relaxed_keep, relaxed_skip, offered_in}
use Rattle.evo_solve.proofs.best.round.Goals as goal

pub loop-i-init : goal.loop-i-init
loop-i-init c = relaxed_none c.args.nodes.now c.args.reps.now c.requires.range c.args.bests.now.items

pub offer_of-requires : goal.offer_of-requires
offer_of-requires c =
    let at = slice_get_read c.args.nodes.now (length c.args.nodes.now) c.loop-i.i c.index-nodes-i.result refl (omega arith) c.index-nodes-i.is in
    offered_in c.args.nodes.now c.args.reps.now c.requires.range c.loop-i.bests.items c.deref.result.now c.deref.ensures.value (c.loop-i.invariant.size ∙ c.requires.size) c.loop-i.i c.index-nodes-i.result at

pub loop-i-preserved-in_default : goal.loop-i-preserved-in_default
loop-i-preserved-in_default c =
    let at = slice_get_read c.args.nodes.now (length c.args.nodes.now) c.loop-i.i c.index-nodes-i.result refl (omega arith) c.index-nodes-i.is in
    relaxed_skip c.args.nodes.now c.args.reps.now c.requires.range c.args.bests.now.items c.loop-i.bests.items c.loop-i.i c.index-nodes-i.result c.loop-i.invariant at
    (ap (λ l. offer c.args.reps.now l c.index-nodes-i.result) (sym c.deref.ensures.value) ∙ sym c.in_ok-path.ensures ∙ c.in_default.is)

pub loop-i-preserved : goal.loop-i-preserved
loop-i-preserved c =
    let at = slice_get_read c.args.nodes.now (length c.args.nodes.now) c.loop-i.i c.index-nodes-i.result refl (omega arith) c.index-nodes-i.is in
    relaxed_keep c.args.nodes.now c.args.reps.now c.requires.range c.args.bests.now.items c.loop-i.bests.items c.keep.new.bests.items c.loop-i.i (rep c.args.reps.now c.loop-i.i) c.index-nodes-i.result c.in-Some.path c.requires.size c.loop-i.invariant at
    (ap (λ l. offer c.args.reps.now l c.index-nodes-i.result) (sym c.deref.ensures.value) ∙ sym c.in_ok-path.ensures ∙ c.in-Some.is) refl c.keep.ensures
