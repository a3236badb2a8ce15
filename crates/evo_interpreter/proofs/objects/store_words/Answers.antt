use Rattle.std.proofs.Common.{refl}
use Rattle.evo_interpreter.proofs.Stores.{stored, not-stored}
use Rattle.evo_interpreter.proofs.objects.store_words.Goals as goal

pub returns-then-write : goal.returns-then-write
returns-then-write c = stored c.args.state.now c.args.number c.index_mut.result.now c.args.offset c.args.words c.write.new.self c.requires c.index_mut.ensures.value c.if-write.ensures.fits (c.if-write.ensures.written refl)

pub returns-else-write : goal.returns-else-write
returns-else-write c = not-stored c.args.state.now c.args.number c.index_mut.result.now c.args.offset c.args.words c.requires c.index_mut.ensures.value c.if-write.ensures.fits
