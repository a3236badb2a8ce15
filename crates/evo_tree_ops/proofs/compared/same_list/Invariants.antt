use Rattle.std.proofs.Common.{◌≡◌, map, take}
use Rattle.evo_tree_ops.proofs.compared.same_list.Given as goal

abbrev pub invariant-loop-i : goal.invariant-loop-i
invariant-loop-i g l = map g.T.Compared.bare (take l.i l.xs) ≡ map g.T.Compared.bare (take l.i l.ys)
