use Rattle.std.proofs.Common.{◌≡◌, drop}
use Rattle.evo_breaks.specs.Rules.{broken_by}
use Rattle.evo_breaks.proofs.passing.rules_pass.Given as goal

-- none is broken so far
abbrev pub invariant-loop-rule : goal.invariant-loop-rule
invariant-loop-rule l = broken_by l.list l.old l.new l.before l.after ≡ broken_by (drop l.rule-index l.list) l.old l.new l.before l.after
