use Rattle.evo_interpreter.specs.Words.{word_of}
use Rattle.evo_interpreter.proofs.Lists.{words_at-inside}
use Rattle.evo_interpreter.proofs.words.Words.slice.Goals as goal

pub returns : goal.returns
returns c = words_at-inside word_of c.args.self.now c.deref.result.now c.args.at c.args.count (let a = c.self.view_is in let b = c.deref.ensures.value in cc) (let a = c.has.ensures in let b = c.if-not-has.false in cc)
