use Rattle.std.proofs.Common.{arith}
use Rattle.evo_tree.proofs.Sizes.{member_inside}
use Rattle.evo_reading_tests.proofs.expression.+shown.Goals as goal

pub show_members-show_call-requires : goal.show_members-show_call-requires
show_members-show_call-requires t c =
    let inside = member_inside c.args.items.now c.as_slice-member-items.result.now c.loop-member.member-index c.member-item.result c.as_slice-member-items.ensures c.loop-member-test.true c.member-item.is in
    (omega (arith, inside), tt)
