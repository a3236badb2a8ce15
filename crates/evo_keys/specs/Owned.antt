-- Parts of keys, as they are made.
use Rattle.std.specs.Prelude.{List, [], ◌∷◌, ◌++◌, Option, Bool, if◌then◌else◌}
use Rattle.std.specs.Option.{option_and_then, option_map, option_or}
use Rattle.evo_base.specs.declared.place.Place.{Place}
use Rattle.evo_base.specs.declared.key.Key.{Key}
use Rattle.evo_base.specs.declared.key.Mark.TheVariants as mark
use Rattle.evo_tree.specs.declared.name.TypeName.{TypeName}
use Rattle.evo_names.specs.Listed.{Text, Entry, World, Declaration, name_of}
use Rattle.evo_names.specs.Heads.{Head, head_of}
use Rattle.evo_names.specs.Keys.{behind, body_key, own_key, root_of}

abbrev pub base_of : Entry → Option Text
base_of e = option_map (λ (n : Place × Text). n.1) (name_of e)

abbrev pub context_within : Key → List Text
context_within k = k.context ++ k.base ∷ []

-- with the mark of an override, or without it
abbrev pub marked_key : Bool → Declaration → Option Key
marked_key overriding d = if overriding then option_map (λ k. behind k mark.Override) (own_key d) else own_key d

abbrev pub extended_key : World → TypeName → Option Key
extended_key w t = option_map (λ (h : Head). h.key) (head_of w t.names)

abbrev pub root_key : Declaration → Option Key
root_key d = option_and_then own_key (root_of d)

abbrev pub overriding_key : Declaration → Option Key
overriding_key d = option_or (root_key d) (body_key d)
