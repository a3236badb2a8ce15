-- The conformances that a module declares, as names in their types: where one is there twice, two such names meet.
use Rattle.std.specs.Prelude.{◌≡◌, List, [], ◌∷◌, ◌++◌, flat_map, length, Option, Some, None, Bool, true, false, slice_get, if◌then◌else◌}
use Rattle.std.specs.Option.{option_map, option_map_or, option_or, option_and_then}
use Rattle.evo_base.specs.declared.place.Place.{Place}
use Rattle.evo_base.specs.declared.key.Key.{Key}
use Rattle.evo_tree.specs.declared.name.TypeName.{TypeName}
use Rattle.evo_tree.specs.declared.declaration.DeclKind.TheOpen as de
use Rattle.evo_names.specs.declared.declared_name.DeclaredName.{DeclaredName}
use Rattle.evo_names.specs.declared.declared_name.Sort.TheVariants as sort
use Rattle.evo_names.specs.Listed.{Kind, Entry, Listing, World, alone, list_of}
use Rattle.evo_names.specs.Heads.{Head, first_some, head_of, type_key, declares, inherit_list, protocol_named}
use Rattle.evo_names.specs.Faults.{is_type, is_type_key}

-- a conformance of this type to this protocol, at this place, is named in the type by the protocol and its module
abbrev pub conformance_name : Key → Place → Key → DeclaredName
conformance_name k place p = record {
  place = place;
  «module» = k.module;
  context = k.module ∷ k.base ∷ [];
  base = p.base;
  labels = Some (p.module ∷ []);
  sort = sort.Function;
  requirement = false;
  extends = false;
  is_static = false;
  overrides = false;
}

-- what is declared or extended
abbrev pub type_of : World → Kind → Option Key
type_of w (de.Nominal k i ts ds) = Some (type_key w.own.name i.text)
type_of w (de.Extension t ts ds) = option_map (λ (h : Head). h.key) (head_of w t.names)
type_of w k = None

abbrev pub name_by : World → Key → TypeName → List DeclaredName
name_by w k t = list_of (option_map (conformance_name k t.place) (protocol_named w t))

abbrev pub names_by : World → Key → List TypeName → List DeclaredName
names_by w k ts = flat_map (name_by w k) ts

-- those of a declaration, where its type passes the test
abbrev pub tested_by : (Key → Bool) → World → Entry → Key → List DeclaredName
tested_by test w e k = if test k then names_by w k (inherit_list e.kind) else []

abbrev pub names_in : (Key → Bool) → World → Entry → List DeclaredName
names_in test w e = option_map_or (tested_by test w e) (type_of w e.kind) []

abbrev pub all_names : (Key → Bool) → World → List Entry → List DeclaredName
all_names test w es = flat_map (names_in test w) es

abbrev pub any_key : Key → Bool
any_key k = true

-- the import's
unfoldable pub imported_names : World → List DeclaredName
imported_names w = option_map_or (λ (m : Listing). all_names any_key (alone m) m.entries) w.imported []

-- the module's own, of types alone
unfoldable pub own_names : World → List DeclaredName
own_names w = all_names (is_type_key w) w w.own.entries

-- ---- whether a key is that of a type, by its declaration

abbrev pub type_by : World → Key → Entry → Option Bool
type_by w k e = if declares k (record { world = w; entry = e }) e.kind then Some (is_type e.kind) else None

abbrev pub type_in : World → Key → Option Bool
type_in w k = first_some (type_by w k) w.own.entries

abbrev pub imported_type : World → Key → Option Bool
imported_type w k = option_and_then (λ (m : Listing). type_in (alone m) k) w.imported
