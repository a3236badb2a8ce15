-- The declarations of a module as one list, in the order of the text: what stands at top level, and behind a type or an extension its members.
use Rattle.std.specs.Prelude.{ℕ, List, [], ◌∷◌, ◌++◌, map, filter, flat_map, Option, Some, None, Bool, true, false, ◌&&◌, ◌||◌, codes, if◌then◌else◌}
use Rattle.std.specs.List.{list_any}
use Rattle.std.specs.Option.{option_map_or}
use Rattle.std.specs.Str.{bytes_eq}
use Rattle.evo_base.specs.declared.place.Place.{Place}
use Rattle.evo_tree.specs.Declarations.{has_modifier}
use Rattle.evo_tree.specs.declared.name.Identifier.{Identifier}
use Rattle.evo_tree.specs.declared.name.TypeName.{TypeName}
use Rattle.evo_tree.specs.declared.declaration.Attr.{Attr}
use Rattle.evo_tree.specs.declared.declaration.Modifier.{Modifier}
use Rattle.evo_tree.specs.declared.declaration.ModifierKind.TheVariants as modifier
use Rattle.evo_tree.specs.declared.declaration.ParameterLabel.TheVariants as label
use Rattle.evo_tree.specs.declared.declaration.Parameter.{Parameter}
use Rattle.evo_tree.specs.declared.declaration.Header.{Header}
use Rattle.evo_tree.specs.declared.declaration.GenericParameter.{GenericParameter}
use Rattle.evo_tree.specs.declared.declaration.Accessors.{Accessors}
use Rattle.evo_tree.specs.declared.declaration.Accessors.TheVariants as accessors
use Rattle.evo_tree.specs.declared.declaration.NominalKind.{NominalKind}
use Rattle.evo_tree.specs.declared.declaration.NominalKind.TheVariants as nominal
use Rattle.evo_tree.specs.declared.declaration.Decl.{Decl, out-Decl}
use Rattle.evo_tree.specs.declared.declaration.DeclKind.{DeclKind, DeclKind-F, out-DeclKind}
use Rattle.evo_tree.specs.declared.declaration.DeclKind.TheOpen as de
use Rattle.evo_tree.specs.declared.module.Item.{Item}
use Rattle.evo_tree.specs.declared.module.Item.TheVariants as item
use Rattle.evo_tree.specs.declared.module.Form.{Form}
use Rattle.evo_tree.specs.declared.module.Form.TheVariants as form
use Rattle.evo_tree.specs.declared.module.ModuleTree.{ModuleTree}
use Rattle.evo_names.specs.declared.declared_name.Sort.{Sort}
use Rattle.evo_names.specs.declared.declared_name.Sort.TheVariants as sort

abbrev pub Text : Type 0
Text = List ℕ

-- ---- the list

-- what a declaration stands in
pub data Within : Type 0 where
  top : Within
  -- the braces of a type or protocol, by its kind and name
  braces : NominalKind → Text → Within
  -- an extension, by the type that it names
  extension : TypeName → Within

-- what is declared
abbrev pub Kind : Type 0
Kind = DeclKind-F DeclKind Decl

-- a declaration of the list
pub record Entry : Type 0 where
  pub within : Within
  pub place : Place
  pub attrs : List Attr
  pub modifiers : List Modifier
  pub kind : Kind

-- a module as the list of its declarations
pub record Listing : Type 0 where
  pub form : Form
  pub name : Text
  pub imports : List Identifier
  pub entries : List Entry

abbrev pub kind_of : Decl → Kind
kind_of d = out-DeclKind (out-Decl d).kind

abbrev pub entry : Within → Decl → Entry
entry w d = record { within = w; place = (out-Decl d).place; attrs = (out-Decl d).attrs; modifiers = (out-Decl d).modifiers; kind = kind_of d }

abbrev pub member_entries : Kind → List Entry
member_entries (de.Nominal k i ts ds) = map (entry (braces k i.text)) ds
member_entries (de.Extension t ts ds) = map (entry (extension t)) ds
member_entries k = []

abbrev pub item_entries : Item → List Entry
item_entries (item.Decl d) = entry top d ∷ member_entries (kind_of d)
item_entries (item.Stmt s) = []

unfoldable pub listing_of : ModuleTree → Listing
listing_of m = record { form = m.form; name = m.name; imports = m.imports; entries = flat_map item_entries m.items }

-- a module with the interface that it imports
pub record World : Type 0 where
  pub own : Listing
  pub imported : Option Listing

-- a declaration in the world of its module
pub record Declaration : Type 0 where
  pub world : World
  pub entry : Entry

-- an interface sees itself alone
abbrev pub alone : Listing → World
alone m = record { own = m; imported = None }

abbrev pub own_declarations : World → List Declaration
own_declarations w = map (λ e. record { world = w; entry = e }) w.own.entries

abbrev pub imported_declarations : World → List Declaration
imported_declarations w = option_map_or (λ m. own_declarations (alone m)) w.imported []

-- those of the import, and then the module's own
unfoldable pub declarations : World → List Declaration
declarations w = imported_declarations w ++ own_declarations w

-- ---- the parts of a declaration

abbrev pub list_of : {A : Type 0} → Option A → List A
list_of None = []
list_of (Some x) = x ∷ []

-- the place and the text of a name. An initialiser has the place of its word, and an extension has no name.
abbrev pub name_by : Place → Kind → Option (Place × Text)
name_by p (de.Function i h b) = Some (i.place, i.text)
name_by p (de.Initialiser h b) = Some (p, codes "init")
name_by p (de.Property k i t a) = Some (i.place, i.text)
name_by p (de.TypeAlias i t) = Some (i.place, i.text)
name_by p (de.AssociatedType i ts t) = Some (i.place, i.text)
name_by p (de.Case i ps) = Some (i.place, i.text)
name_by p (de.Nominal k i ts ds) = Some (i.place, i.text)
name_by p (de.Extension t ts ds) = None

abbrev pub name_of : Entry → Option (Place × Text)
name_of e = name_by e.place e.kind

abbrev pub has_name : Text → Entry → Bool
has_name n e = option_map_or (λ (x : Place × Text). bytes_eq x.1 n) (name_of e) false

-- a parameter without a label has `_`
abbrev pub label_of : Parameter → Text
label_of p = elim p.label [ label.Same ↦ p.name.text | label.Blank ↦ codes "_" | label.Written i ↦ i.text ]

abbrev pub header_of : Kind → Option Header
header_of (de.Function i h b) = Some h
header_of (de.Initialiser h b) = Some h
header_of k = None

-- only functions and initialisers have labels
abbrev pub labels_of : Kind → Option (List Text)
labels_of (de.Function i h b) = Some (map label_of h.parameters)
labels_of (de.Initialiser h b) = Some (map label_of h.parameters)
labels_of k = None

abbrev pub generics_of : Kind → List GenericParameter
generics_of k = option_map_or (λ (h : Header). h.generics) (header_of k) []

abbrev pub sort_of : Kind → Sort
sort_of (de.Function i h b) = sort.Function
sort_of (de.Initialiser h b) = sort.Initialiser
sort_of (de.Property k i t a) = sort.Property
sort_of (de.TypeAlias i t) = sort.Alias
sort_of (de.AssociatedType i ts t) = sort.Alias
sort_of (de.Case i ps) = sort.Case
sort_of (de.Nominal k i ts ds) = sort.Type
sort_of (de.Extension t ts ds) = sort.Type

abbrev pub is_function : Sort → Bool
is_function sort.Function = true
is_function s = false

abbrev pub is_initialiser : Sort → Bool
is_initialiser sort.Initialiser = true
is_initialiser s = false

abbrev pub is_required : Sort → Bool
is_required sort.Function = true
is_required sort.Property = true
is_required s = false

-- a function or a property in the braces of a protocol
abbrev pub is_requirement : Within → Sort → Bool
is_requirement (braces nominal.Protocol n) s = is_required s
is_requirement w s = false

abbrev pub is_top : Within → Bool
is_top top = true
is_top w = false

abbrev pub in_extension : Within → Bool
in_extension (extension t) = true
in_extension w = false

abbrev pub is_static : Entry → Bool
is_static e = has_modifier modifier.Static e.modifiers

-- a function that overrides; an initialiser that does has a key of its own
abbrev pub overrides : Entry → Bool
overrides e = is_function (sort_of e.kind) && has_modifier modifier.Override e.modifiers

-- ---- the initialiser that a struct has without writing it

abbrev pub is_stored : Accessors → Bool
is_stored accessors.Stored = true
is_stored a = false

abbrev pub stored_by : Kind → List Text
stored_by (de.Property k i t a) = if is_stored a then i.text ∷ [] else []
stored_by k = []

abbrev pub stands_in_braces : Text → Within → Bool
stands_in_braces n (braces k m) = bytes_eq m n
stands_in_braces n w = false

-- what stands in the braces of the type of this name
abbrev pub in_braces_of : Listing → Text → List Entry
in_braces_of m n = filter (λ (e : Entry). stands_in_braces n e.within) m.entries

abbrev pub is_interface : Form → Bool
is_interface form.Interface = true
is_interface f = false

-- the labels of the initialiser that a struct of this name has where its braces have none: its stored properties, in order
abbrev pub memberwise_labels : Listing → Text → Option (List Text)
memberwise_labels m n = if is_interface m.form || list_any (λ (e : Entry). is_initialiser (sort_of e.kind)) (in_braces_of m n) then None else Some (flat_map (λ (e : Entry). stored_by e.kind) (in_braces_of m n))
