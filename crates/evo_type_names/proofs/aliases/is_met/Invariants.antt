use Rattle.std.proofs.Common.{◌≡◌, drop}
use Rattle.evo_names.specs.Written.{is_met}
use Rattle.evo_type_names.specs.Aliases.{alias_key, alias_keys}
use Rattle.evo_type_names.proofs.aliases.is_met.Given as goal

abbrev pub invariant-loop-other : goal.invariant-loop-other
invariant-loop-other l = is_met (alias_key l.fn.alias) (alias_keys l.aliases) ≡ is_met (alias_key l.fn.alias) (alias_keys (drop l.other-index l.aliases))
