use Rattle.std.proofs.Common.{◌≡◌, ◌++◌, drop}
use Rattle.evo_first_form.specs.Interface.{declared_names}
use Rattle.evo_first_form.specs.Rules.{missing_from}
use Rattle.evo_rules.proofs.removed.missing_from.Given as goal

-- what is missing so far, and what is missing of those that are left
abbrev pub invariant-loop-declaration : goal.invariant-loop-declaration
invariant-loop-declaration l = missing_from l.table (declared_names l.declarations) ≡ l.missing.items ++ missing_from l.table (declared_names (drop l.declaration-index l.declarations))
