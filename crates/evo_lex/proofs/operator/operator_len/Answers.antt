use Rattle.std.proofs.Common.{◌≡◌, take, true, rules}
use Rattle.evo_lex.specs.Front.{is_operator_word}
use Rattle.evo_lex.proofs.Operators.{some_operator}
use Rattle.evo_lex.proofs.operator.operator_len.Goals as goal

pub returns-then-is_operator_word-clause-within : goal.returns-then-is_operator_word-clause-within
returns-then-is_operator_word-clause-within c =
    let is : is_operator_word (take c.operator_run-len.result c.args.text.now) ≡ true = search rules in
    (some_operator c.operator_run-len.result c.args.text.now is, c.operator_run-len.ensures.within)
