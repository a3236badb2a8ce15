use Rattle.std.proofs.Common.{◌-◌, length, true, false, Some, sym, ap, ◌∙◌, arith}
use Rattle.std.specs.Str.{bytes_eq}
use Rattle.evo_interpreter.proofs.Endings.{before-short, before-at}
use Rattle.evo_interpreter.proofs.objects.before.Goals as goal

pub returns-then-text-ending : goal.returns-then-text-ending
returns-then-text-ending c = before-short c.args.ending.now c.args.text.now (omega arith)

pub returns-then-eq : goal.returns-then-eq
returns-then-eq c =
    let same = ap (bytes_eq c.args.ending.now) (sym c.split_at.ensures.back) ∙ (sym c.eq.ensures ∙ c.if-eq.true) in
    before-at c.args.ending.now c.args.text.now (length c.args.text.now - length c.args.ending.now) true c.requires (omega arith) same ∙ ap (λ t. Some t) (sym c.split_at.ensures.front)

pub returns-else-eq : goal.returns-else-eq
returns-else-eq c =
    let same = ap (bytes_eq c.args.ending.now) (sym c.split_at.ensures.back) ∙ (sym c.eq.ensures ∙ c.if-eq.false) in
    before-at c.args.ending.now c.args.text.now (length c.args.text.now - length c.args.ending.now) false c.requires (omega arith) same
