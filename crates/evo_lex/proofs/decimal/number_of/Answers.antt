use Rattle.std.proofs.Common.{◌≡◌, rules, sym, ◌∙◌, ap}
use Rattle.std.specs.Fmt.{decimal}
use Rattle.std.proofs.lemmas.Fmt.{IsAscii-decimal, parse-decimal}
use Rattle.std.proofs.lemmas.Str.{IsUtf8-from_ascii}
use Rattle.evo_lex.proofs.Bytes.{unequal}
use Rattle.evo_lex.proofs.decimal.number_of.Goals as goal

pub returns-in_default : goal.returns-in_default
returns-in_default c n lt e = c.in_default.ensures.cases.0 (rw e (IsUtf8-from_ascii (decimal n) (IsAscii-decimal n lt)))

pub returns-in_default-parse : goal.returns-in_default-parse
returns-in_default-parse c n lt e =
    let text : c.in-Ok.digits.now ≡ c.args.text.now = search rules in
    c.in_default-parse.not-Ok n (parse-decimal 64 n _ _ lt lt (text ∙ e) c.parse.ensures.value.0)

pub returns : goal.returns
returns c n lt e =
    let text : c.in-Ok.digits.now ≡ c.args.text.now = search rules in
    let parsed = parse-decimal 64 n _ _ lt lt (text ∙ e) c.parse.ensures.value.0 in
    let same : c.in-Ok-parse.number ≡ n = cc in
    let again : c.as_bytes.result.now ≡ decimal c.in-Ok-parse.number = search rules in
    unequal c.as_bytes.result.now c.args.text.now (sym c.eq.ensures ∙ c.if-eq.false) (again ∙ ap decimal same ∙ sym e)
