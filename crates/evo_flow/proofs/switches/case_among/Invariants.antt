use Rattle.std.proofs.Common.{◌≡◌, drop}
use Rattle.std.specs.List.{list_any}
use Rattle.evo_flow.specs.Switches.{takes_case}
use Rattle.evo_flow.proofs.switches.case_among.Given as goal

abbrev pub invariant-loop-pattern : goal.invariant-loop-pattern
invariant-loop-pattern l = list_any (takes_case l.key) l.patterns ≡ list_any (takes_case l.key) (drop l.pattern-index l.patterns)
