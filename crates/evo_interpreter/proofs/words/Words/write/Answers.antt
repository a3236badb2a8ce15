use Rattle.std.proofs.Common.{map, ap, ◌∙◌}
use Rattle.evo_interpreter.specs.Words.{word_of}
use Rattle.evo_interpreter.proofs.Lists.{map-put}
use Rattle.evo_interpreter.proofs.words.Words.write.Goals as goal

pub returns-clause-written : goal.returns-clause-written
returns-clause-written c = λ t. ap (map word_of) (c.write_words.ensures.written t) ∙ (map-put word_of c.self.inside.words.items c.args.at c.new.inside.words.items ∙ (let a = c.self.view_is in let b = c.new.view_is in cc))
