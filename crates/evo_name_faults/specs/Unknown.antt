-- Names that are none: of imports, of what is extended, and of protocols.
use Rattle.std.specs.Prelude.{◌≡◌, List, [], ◌∷◌, Option, Some, None, Bool, false, if◌then◌else◌}
use Rattle.std.specs.Option.{option_map_or, option_or}
use Rattle.evo_base.specs.declared.key.Key.{Key}
use Rattle.evo_base.specs.declared.place.Place.{Place}
use Rattle.evo_tree.specs.declared.name.Identifier.{Identifier}
use Rattle.evo_tree.specs.declared.name.TypeName.{TypeName}
use Rattle.evo_tree.specs.declared.declaration.GenericParameter.{GenericParameter}
use Rattle.evo_tree.specs.declared.declaration.Requirement.{Requirement}
use Rattle.evo_tree.specs.declared.declaration.Header.{Header}
use Rattle.evo_tree.specs.declared.declaration.NominalKind.{NominalKind}
use Rattle.evo_tree.specs.declared.declaration.NominalKind.TheVariants as nominal
use Rattle.evo_tree.specs.declared.declaration.DeclKind.TheOpen as de
use Rattle.evo_names.specs.Listed.{Text, Kind, Entry, Listing, World}
use Rattle.evo_names.specs.Meets.{same_name}
use Rattle.evo_names.specs.Heads.{Head, first_some, head_of, class_named}
use Rattle.evo_names.specs.Faults.{is_imported, names_protocol, requirement_protocols}

abbrev pub is_library : World → Text → Bool
is_library w n = option_map_or (λ (m : Listing). same_name m.name n) w.imported false

abbrev pub import_in : World → Identifier → Option Place
import_in w i = if is_imported w i.text then None else Some i.place

abbrev pub unless_head : Option Head → Place → Option Place
unless_head None p = Some p
unless_head (Some h) p = None

-- what is extended is no type or protocol
abbrev pub extended_in : World → Kind → Option Place
extended_in w (de.Extension t ts ds) = unless_head (head_of w t.names) t.place
extended_in w k = None

abbrev pub no_protocol : World → TypeName → Option Place
no_protocol w t = if names_protocol w t then None else Some t.place

abbrev pub no_protocols : World → List TypeName → Option Place
no_protocols w ts = first_some (no_protocol w) ts

abbrev pub names_class : World → TypeName → Option Place
names_class w t = option_map_or (λ (k : Key). None) (class_named w t) (no_protocol w t)

-- the first name behind a class's own may be its superclass
abbrev pub behind_class : World → List TypeName → Option Place
behind_class w [] = None
behind_class w (t ∷ ts) = option_or (names_class w t) (no_protocols w ts)

abbrev pub in_generics : World → List GenericParameter → Option Place
in_generics w gs = first_some (λ (g : GenericParameter). no_protocols w g.protocols) gs

abbrev pub in_requirement : World → Requirement → Option Place
in_requirement w r = no_protocols w (requirement_protocols r)

abbrev pub in_requirements : World → List Requirement → Option Place
in_requirements w rs = first_some (in_requirement w) rs

abbrev pub in_header : World → Header → Option Place
in_header w h = option_or (in_generics w h.generics) (in_requirements w h.requirements)

abbrev pub in_nominal : World → NominalKind → List TypeName → Option Place
in_nominal w nominal.Class ts = behind_class w ts
in_nominal w k ts = no_protocols w ts

-- a name where a protocol is to stand
abbrev pub protocol_in : World → Kind → Option Place
protocol_in w (de.Function i h b) = in_header w h
protocol_in w (de.Initialiser h b) = in_header w h
protocol_in w (de.AssociatedType i ts t) = no_protocols w ts
protocol_in w (de.Nominal k i ts ds) = in_nominal w k ts
protocol_in w (de.Extension t ts ds) = no_protocols w ts
protocol_in w k = None

abbrev pub unknown_in : World → Entry → Option Place
unknown_in w e = option_or (extended_in w e.kind) (protocol_in w e.kind)

abbrev pub unknown_import : World → Option Place
unknown_import w = first_some (import_in w) w.own.imports

unfoldable pub unknown_name : World → Option Place
unknown_name w = option_or (unknown_import w) (first_some (unknown_in w) w.own.entries)
