use Rattle.std.proofs.Common.{◌≡◌, drop}
use Rattle.std.specs.Prelude.{max}
use Rattle.evo_first_code.specs.Objects.{most_terms}
use Rattle.evo_first_code.proofs.client.most_terms.Given as goal

abbrev pub invariant-loop-print : goal.invariant-loop-print
invariant-loop-print l = most_terms l.prints ≡ max l.most (most_terms (drop l.print-index l.prints))
