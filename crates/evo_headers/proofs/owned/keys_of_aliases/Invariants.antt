use Rattle.std.proofs.Common.{◌≡◌, take}
use Rattle.evo_type_names.specs.Aliases.{alias_keys}
use Rattle.evo_headers.proofs.owned.keys_of_aliases.Given as goal

abbrev pub invariant-loop-alias : goal.invariant-loop-alias
invariant-loop-alias l = l.keys.items ≡ alias_keys (take l.alias-index l.aliases)
