-- The faults of names in headers: a name that is declared twice or taken, one that is none, and the item past a limit.
use Rattle.std.specs.Prelude.{◌≡◌, ℕ, zero, ◌<◌, List, [], ◌∷◌, ◌++◌, map, flat_map, filter, length, slice_get, Some, None, Bool, true, false, not, ◌||◌, codes, if◌then◌else◌, IsTrue, ◌⊎◌, ◌&&◌}
use Rattle.std.specs.Option.{option_map_or}
use Rattle.evo_base.specs.declared.place.Place.{Place}
use Rattle.evo_base.specs.declared.key.Key.{Key}
use Rattle.evo_base.specs.declared.fault_kind.FaultKind.{FaultKind}
use Rattle.evo_base.specs.declared.fault_kind.FaultKind.TheVariants as kind
use Rattle.evo_tree.specs.declared.name.Identifier.{Identifier}
use Rattle.evo_tree.specs.declared.name.TypeName.{TypeName}
use Rattle.evo_tree.specs.declared.declaration.GenericParameter.{GenericParameter}
use Rattle.evo_tree.specs.declared.declaration.Parameter.{Parameter}
use Rattle.evo_tree.specs.declared.declaration.Payload.{Payload}
use Rattle.evo_tree.specs.declared.declaration.Requirement.{Requirement}
use Rattle.evo_tree.specs.declared.declaration.Requirement.TheVariants as requirement
use Rattle.evo_tree.specs.declared.declaration.Header.{Header}
use Rattle.evo_tree.specs.declared.declaration.NominalKind.TheVariants as nominal
use Rattle.evo_tree.specs.declared.declaration.Decl.{Decl}
use Rattle.evo_tree.specs.declared.declaration.DeclKind.TheOpen as de
use Rattle.evo_resolved.specs.declared.resolved_type.RType.{RType}
use Rattle.evo_resolved.specs.declared.resolved_type.RType.TheVariants as ty
use Rattle.evo_names.specs.declared.declared_name.DeclaredName.{DeclaredName}
use Rattle.evo_names.specs.Listed.{Text, Within, Kind, Listing, World, Declaration, list_of, own_declarations, imported_declarations, name_of, header_of, generics_of, is_top, overrides, Entry}
use Rattle.evo_names.specs.Meets.{IsTwice, same_name}
use Rattle.evo_names.specs.Heads.{Head, head_of, owner_of, declaration_of, declares, extends, inherit_list, protocol_named, class_named, is_protocol, is_language_type, conformances, is_among, top_view, sees}
use Rattle.evo_names.specs.Keys.{declared_name, declared_names, root_of}
use Rattle.evo_names.specs.Seen.{Viewpoint}
use Rattle.evo_tree.specs.Declarations.{has_modifier}
use Rattle.evo_tree.specs.declared.declaration.ModifierKind.TheVariants as modifier
use Rattle.evo_names.specs.Written.{Around, nowhere, in_type, in_protocol, Scope, Means}

-- ---- the parts of a header

abbrev pub requirement_types : Requirement → List TypeName
requirement_types (requirement.Conforms t ps) = t ∷ []
requirement_types (requirement.Same t p u) = t ∷ u ∷ []

abbrev pub requirement_protocols : Requirement → List TypeName
requirement_protocols (requirement.Conforms t ps) = ps
requirement_protocols (requirement.Same t p u) = []

abbrev pub header_types : Header → List TypeName
header_types h = map (λ (p : Parameter). p.type_name) h.parameters ++ list_of h.result ++ flat_map requirement_types h.requirements

abbrev pub header_protocols : Header → List TypeName
header_protocols h = flat_map (λ (g : GenericParameter). g.protocols) h.generics ++ flat_map requirement_protocols h.requirements

-- the types that a header writes, but for the names of what is inherited, conformed to or extended
abbrev pub types_of : Kind → List TypeName
types_of (de.Function i h b) = header_types h
types_of (de.Initialiser h b) = header_types h
types_of (de.Property k i t a) = t ∷ []
types_of (de.TypeAlias i t) = t ∷ []
types_of (de.AssociatedType i ts t) = list_of t
types_of (de.Case i ps) = map (λ (p : Payload). p.type_name) ps
types_of k = []

-- the names that are to be protocols
abbrev pub protocols_of : Kind → List TypeName
protocols_of (de.Function i h b) = header_protocols h
protocols_of (de.Initialiser h b) = header_protocols h
protocols_of (de.AssociatedType i ts t) = ts
protocols_of k = inherit_list k

-- the first name behind a class's own may be its superclass
abbrev pub is_superclass : World → Kind → ℕ → TypeName → Bool
is_superclass w (de.Nominal nominal.Class i ts ds) zero t = option_map_or (λ (k : Key). true) (class_named w t) false
is_superclass w k n t = false

abbrev pub names_protocol : World → TypeName → Bool
names_protocol w t = option_map_or (λ (k : Key). true) (protocol_named w t) false

-- ---- the scope of a header

-- `Self` is the parameter 0 in a protocol
abbrev pub around_head : Head → Around
around_head h = if is_protocol h.kind then in_protocol h.key (ty.Param 0) else in_type h.key

abbrev pub around_of : World → Within → Around
around_of w within = option_map_or around_head (owner_of w within) nowhere

unfoldable pub scope_of : Declaration → Scope
scope_of d = record { home = d.world; around = around_of d.world d.entry.within; generics = map (λ (g : GenericParameter). g.name.text) (generics_of d.entry.kind) }

-- ---- names that are taken

abbrev pub is_module : World → Text → Bool
is_module w n = same_name n w.own.name || same_name n (codes "Swift")

abbrev pub is_function_of_language : Text → Bool
is_function_of_language n = same_name n (codes "print") || same_name n (codes "precondition") || same_name n (codes "fatalError")

-- at top level
abbrev pub is_taken : World → Text → Bool
is_taken w n = is_module w n || is_language_type n || is_function_of_language n

abbrev pub is_alias : Kind → Bool
is_alias (de.TypeAlias i t) = true
is_alias (de.AssociatedType i ts t) = true
is_alias k = false

-- what a module may import
abbrev pub is_imported : World → Text → Bool
is_imported w n = same_name n (codes "Swift") || option_map_or (λ (m : Listing). same_name m.name n) w.imported false

-- ---- what stands at a place

-- it is in the list at this number
abbrev pub At : {A : Type 0} → List A → ℕ → A → Type 0
At xs i x = slice_get xs i ≡ Some x

abbrev pub writes_access : Entry → Bool
writes_access e = has_modifier modifier.Open e.modifiers || has_modifier modifier.Public e.modifiers || has_modifier modifier.Internal e.modifiers || has_modifier modifier.Private e.modifiers

-- an override without an access of its own is seen where its root is
abbrev pub is_visible : Viewpoint → Declaration → Bool
is_visible v d = if overrides d.entry && not (writes_access d.entry) then option_map_or (sees v) (root_of d) false else sees v d

-- what a client sees of the import, by name
unfoldable pub seen_names : World → List DeclaredName
seen_names w = flat_map (λ (d : Declaration). list_of (declared_name d)) (filter (is_visible (top_view w)) (imported_declarations w))

abbrev pub is_type : Kind → Bool
is_type (de.Nominal k i ts ds) = not (is_protocol k)
is_type k = true

-- it is that of a type, and of no protocol; the language's types are declared nowhere
abbrev pub is_type_key : World → Key → Bool
is_type_key w k = option_map_or (λ (d : Declaration). is_type d.entry.kind) (declaration_of w k) true

-- of a type or an extension of it, the name at this number is that of a protocol to which the type conforms by it
pub record Conforms (w : World) (k p : Key) (d i : ℕ) (t : TypeName) : Type 0 where
  pub declaration : Declaration
  pub at : At (own_declarations w) d declaration
  pub of_type : IsTrue (declares k declaration declaration.entry.kind || extends k declaration declaration.entry.kind)
  pub name : At (inherit_list declaration.entry.kind) i t
  pub protocol : protocol_named w t ≡ Some p

-- one stands before the other: in an earlier declaration, or in one and earlier there
abbrev pub Before : ℕ → ℕ → ℕ → ℕ → Type 0
Before d i e j = (d < e) ⊎ ((d ≡ e) × (i < j))

abbrev pub payload_place : Payload → Place
payload_place p = option_map_or (λ (i : Identifier). i.place) p.label p.type_name.place

abbrev pub most_declarations : ℕ
most_declarations = 4096

-- a fault of this kind stands at this place
pub data IsFault (w : World) : FaultKind → Place → Type 0 where
  -- two declarations meet, and this is the later one. What a client sees of the import comes first: its extensions' members meet that too.
  meet : {p : Place} → IsTwice (seen_names w ++ declared_names w) (length (seen_names w)) p → IsFault w kind.Twice p
  -- a name at top level that is taken
  taken : {p : Place} {n : Text} (i : ℕ) (d : Declaration) → At (own_declarations w) i d → IsTrue (is_top d.entry.within) → name_of d.entry ≡ Some (p, n) → IsTrue (is_taken w n) → IsFault w kind.Twice p
  -- a `typealias` or an associated type with the name of a module
  alias : {p : Place} {n : Text} (i : ℕ) (d : Declaration) → At (own_declarations w) i d → IsTrue (is_alias d.entry.kind) → name_of d.entry ≡ Some (p, n) → IsTrue (is_module w n) → IsFault w kind.Twice p
  -- a generic parameter with the name of a module, or of an earlier one
  generic : (i j : ℕ) (d : Declaration) (g : GenericParameter) → At (own_declarations w) i d → At (generics_of d.entry.kind) j g → IsTrue (is_module w g.name.text) → IsFault w kind.Twice g.name.place
  generics : (i j k : ℕ) (d : Declaration) (g h : GenericParameter) → At (own_declarations w) i d → At (generics_of d.entry.kind) j g → At (generics_of d.entry.kind) k h → j < k → g.name.text ≡ h.name.text → IsFault w kind.Twice h.name.place
  -- a second conformance of a type to a protocol, at its name; or one that the import has too
  conformance : {k p : Key} {d i e j : ℕ} {t u : TypeName} → IsTrue (is_type_key w k) → Conforms w k p d i t → Conforms w k p e j u → Before d i e j → IsFault w kind.Twice u.place
  foreign : {k p : Key} {d i : ℕ} {t : TypeName} (m : Listing) → w.imported ≡ Some m → IsTrue (is_type_key w k) → IsTrue (is_among p (conformances (record { own = m; imported = None }) k)) → Conforms w k p d i t → IsFault w kind.Twice t.place
  -- an import of what is neither the library's module nor `Swift`
  «import» : (i : Identifier) (j : ℕ) → At w.own.imports j i → is_imported w i.text ≡ false → IsFault w kind.Unknown i.place
  -- an extension of what is no type or protocol
  extended : {t : TypeName} {ts : List TypeName} {ds : List Decl} (i : ℕ) (d : Declaration) → At (own_declarations w) i d → d.entry.kind ≡ de.Extension t ts ds → head_of w t.names ≡ None → IsFault w kind.Unknown t.place
  -- a name that is to be a protocol, and is none
  protocol : (i j : ℕ) (d : Declaration) (t : TypeName) → At (own_declarations w) i d → At (protocols_of d.entry.kind) j t → names_protocol w t ≡ false → is_superclass w d.entry.kind j t ≡ false → IsFault w kind.Unknown t.place
  -- a written type that means nothing, as one that leads to itself
  written : (i j : ℕ) (d : Declaration) (t : TypeName) → At (own_declarations w) i d → At (types_of d.entry.kind) j t → ((met : List Key) (u : RType) → Means w (scope_of d) t.names met u → ⊥) → IsFault w kind.Unknown t.place
  -- the item past a limit
  declarations : (d : Declaration) → At (own_declarations w) most_declarations d → IsFault w kind.TooMany d.entry.place
  parameters : (i : ℕ) (d : Declaration) (h : Header) (p : Parameter) → At (own_declarations w) i d → header_of d.entry.kind ≡ Some h → At h.parameters 16 p → IsFault w kind.TooMany p.place
  generic_parameters : (i : ℕ) (d : Declaration) (g : GenericParameter) → At (own_declarations w) i d → At (generics_of d.entry.kind) 4 g → IsFault w kind.TooMany g.name.place
  payload : {c : Identifier} {ps : List Payload} (i : ℕ) (d : Declaration) (p : Payload) → At (own_declarations w) i d → d.entry.kind ≡ de.Case c ps → At ps 16 p → IsFault w kind.TooMany (payload_place p)
