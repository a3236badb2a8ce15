-- Conformances that are declared, as they are sought.
use Rattle.std.specs.Prelude.{ℕ, List, [], Bool, true, false, flat_map, slice_get, if◌then◌else◌}
use Rattle.std.specs.Option.{option_map_or}
use Rattle.evo_base.specs.declared.key.Key.{Key}
use Rattle.evo_tree.specs.declared.name.TypeName.{TypeName}
use Rattle.evo_names.specs.Listed.{World, Declaration, declarations, list_of}
use Rattle.evo_names.specs.Heads.{declares, extends, protocol_named, protocols_named}

abbrev pub protocols_in : World → List TypeName → List Key
protocols_in w ts = flat_map (λ t. list_of (protocol_named w t)) ts

-- the type's own declaration, or an extension of it
abbrev pub conforms_by : Bool → Key → Declaration → Bool
conforms_by true k d = declares k d d.entry.kind
conforms_by false k d = extends k d d.entry.kind

abbrev pub conformed_by : Bool → Key → Declaration → List Key
conformed_by b k d = if conforms_by b k d then protocols_named d else []

abbrev pub conformed_at : World → Bool → Key → ℕ → List Key
conformed_at w b k i = option_map_or (conformed_by b k) (slice_get (declarations w) i) []
