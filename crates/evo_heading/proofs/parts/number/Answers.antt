use Rattle.std.proofs.Common.{rules, ◌<◌, ◌^◌, sym, ◌∙◌, ap}
use Rattle.std.specs.Fmt.{decimal}
use Rattle.evo_heading.proofs.Numbers.{no_number, large_number, numbered}
use Rattle.evo_heading.proofs.parts.number.Goals as goal

pub returns-in_default : goal.returns-in_default
returns-in_default c = no_number c.args.text.now c.split_at.result.0.now c.split_at.result.1.now c.digits_len.result c.digits_len.ensures.value c.split_at.ensures.front c.split_at.ensures.back (rw c.in_default.is at c.in_ok-number.ensures)

pub returns-in_default-try_from : goal.returns-in_default-try_from
returns-in_default-try_from c =
    let written = rw c.in-Some.is at c.in_ok-number.ensures in
    large_number c.args.text.now c.split_at.result.0.now c.split_at.result.1.now c.digits_len.result c.digits_len.ensures.value c.split_at.ensures.front c.split_at.ensures.back c.in-Some.number written.1 written.0 c.in_default-try_from.ensures

pub returns : goal.returns
returns c =
    let small : c.in-Ok.number < 2 ^ 32 = search rules in
    let written = rw c.in-Some.is at c.in_ok-number.ensures in
    numbered c.args.text.now c.split_at.result.0.now c.split_at.result.1.now c.digits_len.result c.digits_len.ensures.value c.split_at.ensures.front c.split_at.ensures.back c.in-Ok.number small (written.0 ∙ ap decimal (sym c.in-Ok.ensures.1))
