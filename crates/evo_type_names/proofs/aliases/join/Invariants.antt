use Rattle.std.proofs.Common.{◌≡◌, drop}
use Rattle.evo_names.specs.Written.{joined}
use Rattle.evo_type_names.specs.Aliases.{alias_keys}
use Rattle.evo_type_names.proofs.aliases.join.Given as goal

abbrev pub invariant-loop-alias : goal.invariant-loop-alias
invariant-loop-alias l = joined (alias_keys l.initial.aliases.items) (alias_keys l.others) ≡ joined (alias_keys l.aliases.items) (alias_keys (drop l.alias-index l.others))
