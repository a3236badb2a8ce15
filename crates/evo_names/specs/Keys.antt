-- The keys of declarations.
use Rattle.std.specs.Prelude.{List, [], ◌∷◌, ◌++◌, flat_map, Option, Some, None, Bool, false, not, ◌&&◌, codes, if◌then◌else◌}
use Rattle.std.specs.Option.{option_map, option_or, option_and_then, option_map_or}
use Rattle.evo_base.specs.declared.place.Place.{Place}
use Rattle.evo_base.specs.declared.key.Key.{Key}
use Rattle.evo_base.specs.declared.key.Mark.{Mark}
use Rattle.evo_base.specs.declared.key.ProtocolName.{ProtocolName}
use Rattle.evo_base.specs.declared.key.Mark.TheVariants as mark
use Rattle.evo_tree.specs.declared.declaration.NominalKind.TheVariants as nominal
use Rattle.evo_tree.specs.declared.declaration.DeclKind.TheOpen as de
use Rattle.evo_names.specs.declared.declared_name.Sort.TheVariants as sort
use Rattle.evo_names.specs.declared.declared_name.DeclaredName.{DeclaredName}
use Rattle.evo_names.specs.Listed.{Text, Within, top, braces, extension, Kind, Entry, World, Declaration, list_of, own_declarations, name_of, has_name, labels_of, sort_of, is_function, is_requirement, in_extension, is_static, overrides, memberwise_labels}
use Rattle.evo_names.specs.Meets.{same_labels, key_by_name}
use Rattle.evo_names.specs.Seen.{Viewpoint}
use Rattle.evo_names.specs.Heads.{Head, first_some, first_that, in_braces, members, owner_of, superclass, lineage, sees}

-- ---- a declaration by its name

-- the module of the type in which it stands and the type's name; at top level the module alone. Members of an extension of what is no type have none.
abbrev pub context_of : World → Within → Option (List Text)
context_of w top = Some (w.own.name ∷ [])
context_of w (braces k n) = Some (w.own.name ∷ n ∷ [])
context_of w (extension t) = option_map (λ (h : Head). h.key.context ++ h.key.base ∷ []) (owner_of w (extension t))

abbrev pub declared_name_by : World → Entry → Place × Text → List Text → DeclaredName
declared_name_by w e name context = record {
  place = name.0;
  «module» = w.own.name;
  context = context;
  base = name.1;
  labels = labels_of e.kind;
  sort = sort_of e.kind;
  requirement = is_requirement e.within (sort_of e.kind);
  extends = in_extension e.within;
  is_static = is_static e;
  overrides = overrides e;
}

unfoldable pub declared_name : Declaration → Option DeclaredName
declared_name d = option_and_then (λ name. option_map (declared_name_by d.world d.entry name) (context_of d.world d.entry.within)) (name_of d.entry)

-- the initialiser that a struct has without writing it stands at the struct's name
abbrev pub memberwise_by : World → Kind → Option DeclaredName
memberwise_by w (de.Nominal nominal.Struct i ts ds) = option_map (λ labels. record {
  place = i.place;
  «module» = w.own.name;
  context = w.own.name ∷ i.text ∷ [];
  base = codes "init";
  labels = Some labels;
  sort = sort.Initialiser;
  requirement = false;
  extends = false;
  is_static = false;
  overrides = false;
}) (memberwise_labels w.own i.text)
memberwise_by w k = None

abbrev pub names_by : Declaration → List DeclaredName
names_by d = list_of (declared_name d) ++ list_of (memberwise_by d.world d.entry.kind)

-- each declaration of the module that has a name, a struct before the initialiser that it has without writing it
unfoldable pub declared_names : World → List DeclaredName
declared_names w = flat_map names_by (own_declarations w)

-- ---- the function that an override means

-- in the braces of a class, a function of this base and these labels that overrides none, and that is seen
abbrev pub is_root : Viewpoint → Text → Option (List Text) → Declaration → Bool
is_root v base labels d = in_braces d.entry.within && is_function (sort_of d.entry.kind) && has_name base d.entry && same_labels (labels_of d.entry.kind) labels && not (overrides d.entry) && sees v d

-- the nearest of the classes from here upwards that has one
unfoldable pub root_from : World → Viewpoint → List Key → Text → Option (List Text) → Option Declaration
root_from w v classes base labels = first_some (λ k. first_that (is_root v base labels) (members w k)) classes

-- the classes above the one in whose braces a declaration stands
abbrev pub classes_above : World → Within → List Key
classes_above w within = option_map_or (λ u. lineage w u) (option_and_then (λ (h : Head). superclass w h.key) (owner_of w within)) []

abbrev pub view_of : World → Within → Viewpoint
view_of w within = record { «module» = w.own.name; type_round = option_map (λ (h : Head). h.key) (owner_of w within) }

-- the root of a function that overrides
unfoldable pub root_of : Declaration → Option Declaration
root_of d = option_and_then (λ (name : Place × Text). root_from d.world (view_of d.world d.entry.within) (classes_above d.world d.entry.within) name.1 (labels_of d.entry.kind)) (name_of d.entry)

-- ---- keys

abbrev pub behind : Key → Mark → Key
behind k m = record k { part = record { marks = k.part.marks ++ m ∷ [] } }

-- the key that a declaration has by where it stands
abbrev pub own_key : Declaration → Option Key
own_key d = option_map key_by_name (declared_name d)

-- the key under which the body of a function that overrides stands: its own place, and a mark
abbrev pub body_key : Declaration → Option Key
body_key d = if overrides d.entry then option_map (λ k. behind k mark.Override) (own_key d) else own_key d

-- a function that overrides has its root's key; one without a root has that of its body. An extension has the key of its type.
unfoldable pub key_of : Declaration → Option Key
key_of d = elim d.entry.kind [
  | de.Function i h b ↦ if overrides d.entry then option_or (option_and_then own_key (root_of d)) (body_key d) else own_key d
  | de.Initialiser h b ↦ own_key d
  | de.Property k i t a ↦ own_key d
  | de.TypeAlias i t ↦ own_key d
  | de.AssociatedType i ts t ↦ own_key d
  | de.Case i ps ↦ own_key d
  | de.Nominal k i ts ds ↦ own_key d
  | de.Extension t ts ds ↦ option_map (λ (h : Head). h.key) (owner_of d.world (extension t))
]

abbrev pub protocol_name : Key → ProtocolName
protocol_name p = record { «module» = p.module; name = p.base }

-- a declared conformance of a type to a protocol, in this module
abbrev pub conformance_key : Text → Key → Key → Key
conformance_key module_name k p = record k { «module» = module_name; part = record { marks = mark.Conformance (protocol_name p) ∷ [] } }

-- what stands for the parts of a declaration
abbrev pub getter_key : Key → Key
getter_key k = behind k mark.Get

abbrev pub setter_key : Key → Key
setter_key k = behind k mark.Set

-- a client's copy of an inlinable body
abbrev pub copy_key : Key → Key
copy_key k = behind k mark.Copy

-- a function that stands between a requirement and what meets it, by the conformance and the requirement's symbol
abbrev pub thunk_key : Key → Text → Key
thunk_key conformance symbol = behind conformance (mark.Thunk symbol)

-- the table of an inherited protocol within that of a protocol
abbrev pub inherited_key : Key → Key → Key
inherited_key p q = record p { part = record { marks = mark.Inherited (protocol_name q) ∷ [] } }

-- the table of a constraint of an associated type, by the associated type's own key
abbrev pub constraint_key : Key → Key → Key
constraint_key a q = record a { part = record { marks = mark.Associated (protocol_name q) ∷ [] } }

-- the statements at the top level of a client
abbrev pub start_key : Key
start_key = record { «module» = codes "main"; context = []; base = codes "main"; labels = None; part = record { marks = mark.Start ∷ [] } }
