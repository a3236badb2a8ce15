use Rattle.std.proofs.Common.{length, refl, arith}
use Rattle.std.proofs.lemmas.Option.{slice_get_read}
use Rattle.evo_solve.proofs.Founding.{extended_more}
use Rattle.evo_solve.proofs.conforming.add_declared.Goals as goal

pub loop-conformance-preserved : goal.loop-conformance-preserved
loop-conformance-preserved c =
    let d = c.args.declared.now in
    let n = c.loop-conformance.conformance-index in
    extended_more c.args.classes.now c.args.protocols.now d n c.args.starts.now.items c.loop-conformance.starts.items c.push.new.self.items c.conformance-item.result c.start_of-start.result c.loop-conformance.invariant (slice_get_read d (length d) n c.conformance-item.result refl (omega arith) c.conformance-item.is) c.start_of-start.ensures c.in_ok-push.ensures.items
