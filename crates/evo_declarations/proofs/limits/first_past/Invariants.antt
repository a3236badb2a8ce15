use Rattle.std.proofs.Common.{◌≡◌, drop}
use Rattle.evo_declarations.specs.Limits.{first_past}
use Rattle.evo_declarations.proofs.limits.first_past.Given as goal

abbrev pub invariant-loop-listed : goal.invariant-loop-listed
invariant-loop-listed l = first_past l.entries ≡ first_past (drop l.listed-index l.entries)
