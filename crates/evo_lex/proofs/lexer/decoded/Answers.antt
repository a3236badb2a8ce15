use Rattle.std.proofs.Common.{sym, ◌∙◌, ap}
use Rattle.std.specs.Str.{chars}
use Rattle.evo_lex.proofs.Cuts.{front_whole}
use Rattle.evo_lex.proofs.lexer.decoded.Goals as goal

pub returns-in-Ok-clause-front : goal.returns-in-Ok-clause-front
returns-in-Ok-clause-front c = ap chars c.in-Ok.ensures.cases.0 ∙ sym (front_whole c.args.text.now c.in-Ok.ensures.cases.1)
