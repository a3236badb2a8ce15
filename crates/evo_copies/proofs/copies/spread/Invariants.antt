use Rattle.std.proofs.Common.{List, ℕ}
use Rattle.evo_base.specs.Names.{AreDistinct}
use Rattle.evo_copies.specs.Reach.{Spreads, AreInlinable}
use Rattle.evo_copies.proofs.copies.spread.Given as goal

-- what the rest leads to, the whole leads to
abbrev pub invariant-loop-place : goal.invariant-loop-place
invariant-loop-place l = record {
  leads : (all : List (List ℕ)) → Spreads l.view l.place l.copies all → Spreads l.view 0 l.initial.copies all;
  distinct : AreDistinct l.copies;
  inlinable : AreInlinable l.view l.copies;
}
