use Rattle.std.proofs.Common.{take}
use Rattle.evo_solve.specs.Canonical.{IsConsistent}
use Rattle.evo_solve.proofs.conflict.first_conflict.Given as goal

abbrev pub invariant-loop-i : goal.invariant-loop-i
invariant-loop-i l = IsConsistent (take l.i l.written)
