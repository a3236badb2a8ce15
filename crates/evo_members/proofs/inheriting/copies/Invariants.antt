use Rattle.std.proofs.Common.{◌≡◌, take}
use Rattle.evo_members.proofs.inheriting.copies.Given as goal

abbrev pub invariant-loop-key : goal.invariant-loop-key
invariant-loop-key l = l.found.items ≡ take l.key-index l.keys
