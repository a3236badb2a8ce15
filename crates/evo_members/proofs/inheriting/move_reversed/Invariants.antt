use Rattle.std.proofs.Common.{◌≡◌, ◌++◌, reverse, vec_len}
use Rattle.evo_members.proofs.inheriting.move_reversed.Given as goal

abbrev pub invariant-loop-protocol : goal.invariant-loop-protocol
invariant-loop-protocol l = l.left.items ++ reverse l.named.items ≡ l.initial.left.items ++ reverse l.initial.named.items

abbrev pub decreases-loop-protocol : goal.decreases-loop-protocol
decreases-loop-protocol l = vec_len l.named
