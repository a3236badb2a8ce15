use Rattle.std.proofs.Common.{length, refl, arith}
use Rattle.std.proofs.lemmas.Option.{slice_get_read}
use Rattle.evo_solve.proofs.Leading.{led_none, led_more, led_nowhere, led_all, no_root}
use Rattle.evo_solve.proofs.graph.class_at.Goals as goal

pub loop-name-init : goal.loop-name-init
loop-name-init c = led_none c.args.classes.now.nodes.items c.args.classes.now.reps.items c.requires c.args.first.now c.args.names.now c.in-Some.class c.in-Some.ensures

pub loop-name-preserved : goal.loop-name-preserved
loop-name-preserved c = led_more c.args.classes.now.nodes.items c.args.classes.now.reps.items c.requires c.args.first.now c.args.names.now c.loop-name.name-index c.loop-name.class c.in-Some-child.next c.name-item.result c.loop-name.invariant (slice_get_read c.args.names.now (length c.args.names.now) c.loop-name.name-index c.name-item.result refl (omega arith) c.name-item.is) c.in-Some-child.ensures

pub returns-in_default : goal.returns-in_default
returns-in_default c = no_root c.args.classes.now.nodes.items c.args.classes.now.reps.items c.requires c.args.first.now c.args.names.now c.in_default.ensures

pub returns-in_default-child : goal.returns-in_default-child
returns-in_default-child c = led_nowhere c.args.classes.now.nodes.items c.args.classes.now.reps.items c.requires c.args.first.now c.args.names.now c.loop-name.name-index c.loop-name.class c.name-item.result c.loop-name.invariant (slice_get_read c.args.names.now (length c.args.names.now) c.loop-name.name-index c.name-item.result refl (omega arith) c.name-item.is) c.in_default-child.ensures

pub returns : goal.returns
returns c = led_all c.args.classes.now.nodes.items c.args.classes.now.reps.items c.requires c.args.first.now c.args.names.now c.loop-name.name-index c.loop-name.class c.loop-name.invariant (omega arith)
