use Rattle.std.proofs.Common.{true, ◌≡◌}
use Rattle.evo_interpreter.specs.Words.{word_of}
use Rattle.evo_interpreter.proofs.Lists.{given}
use Rattle.evo_interpreter.proofs.words.Words.give.Goals as goal

pub returns : goal.returns
returns c =
    given word_of c.args.self.now c.args.others.now c.self.inside.words.items c.others.inside.words.items c.swap_words.new.words.items c.args.from c.args.count c.args.to
    (let a = c.self.view_is in cc) (let a = c.others.view_is in cc) c.requires.inside c.requires.fits (let a = c.swap_words.ensures in let b = c.deref_mut.ensures.value in cc)
