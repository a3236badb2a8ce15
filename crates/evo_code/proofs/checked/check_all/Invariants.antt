use Rattle.std.proofs.Common.{◌≡◌, drop}
use Rattle.std.specs.List.{list_all}
use Rattle.evo_code.proofs.checked.check_all.Given as goal

abbrev pub invariant-loop-item : goal.invariant-loop-item
invariant-loop-item g l = list_all (g.T.Checked.passes l.object) l.items ≡ list_all (g.T.Checked.passes l.object) (drop l.item-index l.items)
