use Rattle.std.proofs.Common.{rules, false, ◌≡◌, ◌<◌, length, vec_len, sym, ◌∙◌, inr}
use Rattle.evo_driver.proofs.Gives.{failed_write, not_zero}
use Rattle.evo_driver.proofs.Written.{means_written}
use Rattle.evo_driver.proofs.top.swevo.Goals as goal

pub returns-then-is_err-clause-unwritten : goal.returns-then-is_err-clause-unwritten
returns-then-is_err-clause-unwritten g c w =
    let gives = c.in-Ok.ensures.gives in
    let full : c.is_empty.result ≡ false = search rules in
    let counted : 0 < vec_len c.in-Ok.reply.text = not_zero (vec_len c.in-Ok.reply.text) c.is_empty.result c.is_empty.ensures full in
    let some : 0 < length c.deref.result.now = rw c.deref.ensures.len counted in
    let fails = failed_write (g.E.Sink.state c.args.err.now) (g.E.Sink.state c.write.new.self) c.deref.result.now gives.0.err c.write.result
    (c.deref.ensures.value ∙ gives.2.text) some (sym c.is_err.ensures.value ∙ c.if-is_err.true) c.write.ensures.cause c.write.ensures.failed in
    (gives.0, gives.1, inr (gives.3, fails))

pub returns-else-not-is_empty-clause-unwritten : goal.returns-else-not-is_empty-clause-unwritten
returns-else-not-is_empty-clause-unwritten g c w =
    let gives = c.in-Ok.ensures.gives in
    absurd (means_written c.args.words.now (g.F.Files.state c.args.files.now) (g.F.Files.state c.perform.new.files) gives.0 gives.1 (sym gives.2.status_is ∙ w))
