use Rattle.std.proofs.Common.{◌≡◌, ◌++◌, drop}
use Rattle.evo_breaks.specs.Rules.{broken_by}
use Rattle.evo_breaks.proofs.tried.try_rules.Given as goal

-- what is found, and what the rules that are left find
abbrev pub invariant-loop-rule : goal.invariant-loop-rule
invariant-loop-rule l = l.initial.found.items ++ broken_by l.list l.old l.new l.before l.after ≡ l.found.items ++ broken_by (drop l.rule-index l.list) l.old l.new l.before l.after
