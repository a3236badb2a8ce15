use Rattle.std.proofs.Common.{◌≡◌, drop}
use Rattle.std.specs.List.{list_any}
use Rattle.evo_flow.specs.Switches.{takes_truth}
use Rattle.evo_flow.proofs.switches.truth_among.Given as goal

abbrev pub invariant-loop-pattern : goal.invariant-loop-pattern
invariant-loop-pattern l = list_any (takes_truth l.value) l.patterns ≡ list_any (takes_truth l.value) (drop l.pattern-index l.patterns)
