use Rattle.std.proofs.Common.{◌≡◌, ◌+◌, length}
use Rattle.evo_members.proofs.space.push_names.Given as goal

abbrev pub invariant-loop-name : goal.invariant-loop-name
invariant-loop-name l = length l.found.items ≡ length l.initial.found.items + l.name-index
