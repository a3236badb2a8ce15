-- The protocol that a declaration is a member of.
use Rattle.std.specs.Prelude.{Option, Some, None, if◌then◌else◌}
use Rattle.std.specs.Option.{option_and_then}
use Rattle.evo_base.specs.declared.key.Key.{Key}
use Rattle.evo_keys.specs.declared.texts.FoundType.{FoundType}
use Rattle.evo_names.specs.Heads.{is_protocol}

abbrev pub protocol_round : Option FoundType → Option Key
protocol_round o = option_and_then (λ (f : FoundType). if is_protocol f.kind then Some f.key else None) o
