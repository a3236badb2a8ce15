-- The base names by which declarations are found.
use Rattle.std.specs.Prelude.{◌≡◌, List, [], map, Some}
use Rattle.std.specs.Option.{option_map, option_map_or}
use Rattle.evo_base.specs.declared.place.Place.{Place}
use Rattle.evo_declarations.specs.Groups.{IsGrouped}
use Rattle.evo_declarations.specs.Worlds.{module_view}
use Rattle.evo_names.specs.Listed.{Text, Entry, Listing, World, name_of}
use Rattle.evo_keys.specs.declared.bases.ByBase.{ByBase}
use Rattle.evo_keys.specs.declared.bases.Bases.{Bases}

-- the name without labels; an extension has none
abbrev pub base_text : Entry → Text
base_text e = option_map_or (λ (n : Place × Text). n.1) (name_of e) []

abbrev pub base_texts : Listing → List Text
base_texts m = map base_text m.entries

abbrev pub world_with : Bases → World
world_with b = record { own = module_view b.own.names.now; imported = option_map (λ (m : ByBase). module_view m.names.now) b.imported }

-- the groups are those of the module's base names
abbrev pub IsByBase : ByBase → Type 0
IsByBase b = IsGrouped (base_texts (module_view b.names.now)) b.bases.now

pub record AreBases (b : Bases) : Type 0 where
  pub own : IsByBase b.own
  pub imported : (m : ByBase) → b.imported ≡ Some m → IsByBase m
