use Rattle.std.proofs.Common.{◌≡◌, ◌++◌, map, take}
use Rattle.evo_members.specs.Views.{in_home}
use Rattle.evo_members.proofs.declared.push_from.Given as goal

abbrev pub invariant-loop-listed : goal.invariant-loop-listed
invariant-loop-listed l = l.found.items ≡ l.initial.found.items ++ map (in_home l.home) (take l.listed-index l.entries)
