use Rattle.std.proofs.Common.{◌≡◌, ◌∷◌, ◌^◌, suc, None, drop, get_or, drop-cons, ◌∙◌, ap, arith, rules}
use Rattle.std.specs.Prelude.{nat_le}
use Rattle.evo_lex.specs.Characters.{value_of, value_from, with_digit}
use Rattle.evo_lex.specs.Front.{when}
use Rattle.evo_lex.proofs.Values.{value_least, too_large}
use Rattle.evo_lex.proofs.number.value_said.Goals as goal

pub returns-in_err-value : goal.returns-in_err-value
returns-in_err-value c =
    let text = c.args.digits.now in
    let i = c.loop-c.c-index in
    let char = get_or text i 0 in
    let rest = drop (suc i) text in
    let more = with_digit c.args.base c.loop-c.value char in
    let cut : drop i text ≡ char ∷ rest = drop-cons text i 0 c.loop-c-test.true in
    let whole : value_of c.args.base text ≡ value_from c.args.base more rest = c.loop-c.invariant.rest ∙ ap (value_from c.args.base c.loop-c.value) cut in
    let least = value_least c.args.base more rest in
    let none : None ≡ when (nat_le more (2 ^ 63)) more = search rules in
    let large = too_large more (value_of c.args.base text) (2 ^ 63) (omega (arith, whole, least)) none in
    let result : c.from_residual.result ≡ None = search rules in
    result ∙ large
