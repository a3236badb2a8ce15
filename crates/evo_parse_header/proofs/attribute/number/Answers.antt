use Rattle.std.proofs.Common.{◌≤◌, ◌-◌, ◌^◌, arith}
use Rattle.evo_parse_header.proofs.Numbers.{integer_bound}
use Rattle.evo_parse_header.proofs.attribute.number.Goals as goal

pub overflow_cast-result : goal.overflow_cast-result
overflow_cast-result c =
    let bound : c.in_ok-value.value ≤ 2 ^ 32 - 1 = integer_bound (2 ^ 32 - 1) c.args.tokens.now c.in_ok-value.field-0-0 c.in_ok-value.value c.expect_integer.new.self c.in_ok-value.ensures in
    omega arith
