use Rattle.std.proofs.Common.{arith}
use Rattle.evo_tree.proofs.Sizes.{member_inside}
use Rattle.evo_tree_ops.proofs.copy_expression.+copies.Goals as goal

pub copy_members-copy_call-requires : goal.copy_members-copy_call-requires
copy_members-copy_call-requires t c =
    let inside = member_inside c.args.items.now c.as_slice-member-items.result.now c.loop-member.member-index c.member-item.result c.as_slice-member-items.ensures c.loop-member-test.true c.member-item.is in
    (omega (arith, inside), tt)
