use Rattle.std.proofs.Common.{arith}
use Rattle.evo_interpreter.proofs.Lists.{set-put}
use Rattle.evo_interpreter.proofs.words.set_word.Goals as goal

pub returns-clause-written : goal.returns-clause-written
returns-clause-written c = λ _. set-put c.args.words.now.items c.args.at c.args.word (omega arith)
