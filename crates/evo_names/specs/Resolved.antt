-- What declarations are once their names are resolved: each written type with what it means, each name of a protocol, a superclass or an extended type with its key.
use Rattle.std.specs.Prelude.{◌≡◌, ℕ, List, [], ◌∷◌, ◌++◌, map, filter, flat_map, Option, Some, None, Bool, true, false, not, ◌&&◌, codes, if◌then◌else◌}
use Rattle.std.specs.Option.{option_map, option_and_then, option_map_or}
use Rattle.evo_base.specs.declared.place.Place.{Place}
use Rattle.evo_base.specs.declared.key.Key.{Key}
use Rattle.evo_tree.specs.declared.name.Identifier.{Identifier}
use Rattle.evo_tree.specs.declared.name.TypeName.{TypeName}
use Rattle.evo_tree.specs.declared.statement.Block.{Block}
use Rattle.evo_tree.specs.declared.statement.Introducer.{Introducer}
use Rattle.evo_tree.specs.declared.declaration.Accessors.{Accessors}
use Rattle.evo_tree.specs.declared.declaration.Accessors.TheVariants as accessors
use Rattle.evo_tree.specs.declared.declaration.GenericParameter.{GenericParameter}
use Rattle.evo_tree.specs.declared.declaration.Parameter.{Parameter}
use Rattle.evo_tree.specs.declared.declaration.Payload.{Payload}
use Rattle.evo_tree.specs.declared.declaration.Requirement.{Requirement}
use Rattle.evo_tree.specs.declared.declaration.Requirement.TheVariants as requirement
use Rattle.evo_tree.specs.declared.declaration.Header.{Header}
use Rattle.evo_tree.specs.declared.declaration.Modifier.{Modifier}
use Rattle.evo_tree.specs.declared.declaration.ModifierKind.TheVariants as modifier
use Rattle.evo_tree.specs.declared.declaration.NominalKind.{NominalKind}
use Rattle.evo_tree.specs.declared.declaration.NominalKind.TheVariants as nominal
use Rattle.evo_tree.specs.declared.declaration.Decl.{Decl}
use Rattle.evo_tree.specs.declared.declaration.DeclKind.TheOpen as de
use Rattle.evo_resolved.specs.declared.resolved_type.RTypeName.{RTypeName}
use Rattle.evo_resolved.specs.declared.resolved_type.RReference.{RReference}
use Rattle.evo_resolved.specs.declared.declaration.RRequirement.{RRequirement}
use Rattle.evo_resolved.specs.declared.declaration.RRequirement.TheVariants as rr
use Rattle.evo_resolved.specs.declared.declaration.Signature.{Signature}
use Rattle.evo_resolved.specs.declared.declaration.RParameter.{RParameter}
use Rattle.evo_resolved.specs.declared.declaration.RHeader.{RHeader}
use Rattle.evo_resolved.specs.declared.declaration.RPayload.{RPayload}
use Rattle.evo_resolved.specs.declared.declaration.Kept.{Kept}
use Rattle.evo_resolved.specs.declared.declaration.Kept.TheVariants as kept
use Rattle.evo_resolved.specs.declared.declaration.Standing.{Standing}
use Rattle.evo_resolved.specs.declared.declaration.Standing.TheVariants as standing
use Rattle.evo_resolved.specs.declared.declaration.RDeclKind.{RDeclKind}
use Rattle.evo_resolved.specs.declared.declaration.RDeclKind.TheVariants as rk
use Rattle.evo_resolved.specs.declared.declaration.RDecl.{RDecl}
use Rattle.evo_resolved.specs.declared.body.Body.{Body}
use Rattle.evo_names.specs.Listed.{Text, Within, top, braces, extension, Kind, Entry, World, Declaration, own_declarations, label_of, name_of, is_stored, in_braces_of, memberwise_labels}
use Rattle.evo_names.specs.Seen.{is_private}
use Rattle.evo_names.specs.Heads.{Head, type_key, head_of, owner_of, protocol_named, class_named, is_protocol}
use Rattle.evo_names.specs.Keys.{key_of}
use Rattle.evo_names.specs.Written.{Scope, Means}
use Rattle.evo_names.specs.Faults.{scope_of}
use Rattle.evo_names.specs.Search.{memberwise_level}
use Rattle.evo_names.specs.Bodies.{WrittenBody, owner_key}

-- ---- lists and options

-- item by item, in order
pub data Pairs {A B : Type 0} (R : A → B → Type 0) : List A → List B → Type 0 where
  no_more : Pairs R [] []
  one_more : {x : A} {y : B} {xs : List A} {ys : List B} → R x y → Pairs R xs ys → Pairs R (x ∷ xs) (y ∷ ys)

-- both are there, or neither is
pub data Both {A B : Type 0} (R : A → B → Type 0) : Option A → Option B → Type 0 where
  neither : Both R None None
  each : {x : A} {y : B} → R x y → Both R (Some x) (Some y)

-- ---- types and references

-- a written type, by what it means in its scope
pub record IsType (s : Scope) (t : TypeName) (r : RTypeName) : Type 0 where
  pub place : r.place ≡ t.place
  pub means : Means s.home s t.names r.aliases r.ty

-- a name of a header, by what it names
pub record IsReference (named : TypeName → Option Key) (t : TypeName) (r : RReference) : Type 0 where
  pub place : r.place ≡ t.place
  pub key : named t ≡ Some r.key

-- ---- signatures

-- a requirement as it is written, one for each protocol
pub data WrittenRequirement : Type 0 where
  conforms : TypeName → TypeName → WrittenRequirement
  same : TypeName → Place → TypeName → WrittenRequirement

abbrev pub of_generic : GenericParameter → List WrittenRequirement
of_generic g = map (conforms (record { place = g.name.place; names = g.name.text ∷ [] })) g.protocols

abbrev pub of_where : Requirement → List WrittenRequirement
of_where (requirement.Conforms t ps) = map (conforms t) ps
of_where (requirement.Same t p u) = same t p u ∷ []

-- those of the generic parameters, and then those behind `where`
abbrev pub written_requirements : Header → List WrittenRequirement
written_requirements h = flat_map of_generic h.generics ++ flat_map of_where h.requirements

pub data IsRequirement (s : Scope) : WrittenRequirement → RRequirement → Type 0 where
  conforming : {t p : TypeName} {r : RTypeName} {q : RReference} → IsType s t r → IsReference (protocol_named s.home) p q → IsRequirement s (conforms t p) (rr.Conforms r q)
  equal : {t u : TypeName} {p : Place} {r v : RTypeName} → IsType s t r → IsType s u v → IsRequirement s (same t p u) (rr.Same r p v)

-- the protocol of whose braces or extension it is a member, and whose `Self` is then the parameter 0
abbrev pub protocol_of : Declaration → Option Key
protocol_of d = option_and_then (λ (h : Head). if is_protocol h.kind then Some h.key else None) (owner_of d.world d.entry.within)

pub record IsSignature (d : Declaration) (h : Header) (r : Signature) : Type 0 where
  pub «protocol» : r.protocol ≡ protocol_of d
  pub generics : r.generics ≡ map (λ (g : GenericParameter). g.name.text) h.generics
  pub requirements : Pairs (IsRequirement (scope_of d)) (written_requirements h) r.requirements

-- ---- headers

pub record IsParameter (s : Scope) (p : Parameter) (r : RParameter) : Type 0 where
  pub place : r.place ≡ p.place
  pub label : r.label ≡ label_of p
  pub name : r.name ≡ p.name.text
  pub type : IsType s p.type_name r.written

pub record IsHeader (d : Declaration) (h : Header) (r : RHeader) : Type 0 where
  pub signature : IsSignature d h r.signature
  pub parameters : Pairs (IsParameter (scope_of d)) h.parameters r.parameters
  pub result : Both (IsType (scope_of d)) h.result r.result

pub record IsPayload (s : Scope) (p : Payload) (r : RPayload) : Type 0 where
  pub label : r.label ≡ option_map (λ (i : Identifier). i.text) p.label
  pub type : IsType s p.type_name r.written

abbrev pub kept_as : Accessors → Kept
kept_as accessors.Stored = kept.Stored
kept_as accessors.Get = kept.Computed false
kept_as accessors.GetSet = kept.Computed true
kept_as (accessors.Block b) = kept.Computed false
kept_as (accessors.Blocks b c) = kept.Computed (option_map_or (λ (x : Block). true) c false)

-- a class's superclass, which is the first name behind its own where that is a class, and the other names
abbrev pub parted : World → NominalKind → List TypeName → Option TypeName × List TypeName
parted w nominal.Class (t ∷ ts) = option_map_or (λ k. (Some t, ts)) (class_named w t) (None, t ∷ ts)
parted w k ts = (None, ts)

-- ---- declarations

pub data IsKind (d : Declaration) : Kind → RDeclKind → Type 0 where
  function : {i : Identifier} {h : Header} {b : Option Block} {r : RHeader} → IsHeader d h r → IsKind d (de.Function i h b) (rk.Function r)
  initialiser : {h : Header} {b : Option Block} {r : RHeader} → IsHeader d h r → IsKind d (de.Initialiser h b) (rk.Initialiser r)
  property : {k : Introducer} {i : Identifier} {t : TypeName} {a : Accessors} {r : RTypeName} → IsType (scope_of d) t r → IsKind d (de.Property k i t a) (rk.Property k r (kept_as a))
  alias : {i : Identifier} {t : TypeName} {r : RTypeName} → IsType (scope_of d) t r → IsKind d (de.TypeAlias i t) (rk.TypeAlias r)
  associated : {i : Identifier} {ps : List TypeName} {t : Option TypeName} {qs : List RReference} {r : Option RTypeName} → Pairs (IsReference (protocol_named d.world)) ps qs → Both (IsType (scope_of d)) t r → IsKind d (de.AssociatedType i ps t) (rk.AssociatedType qs r)
  one_case : {i : Identifier} {ps : List Payload} {rs : List RPayload} → Pairs (IsPayload (scope_of d)) ps rs → IsKind d (de.Case i ps) (rk.Case rs)
  type : {k : NominalKind} {i : Identifier} {ts : List TypeName} {ds : List Decl} {s : Option RReference} {qs : List RReference} → Both (IsReference (class_named d.world)) (parted d.world k ts).0 s → Pairs (IsReference (protocol_named d.world)) (parted d.world k ts).1 qs → IsKind d (de.Nominal k i ts ds) (rk.Nominal k s qs)
  extended : {t : TypeName} {ts : List TypeName} {ds : List Decl} {h : Head} {r : RReference} {qs : List RReference} → head_of d.world t.names ≡ Some h → r.place ≡ t.place → r.key ≡ h.key → Pairs (IsReference (protocol_named d.world)) ts qs → IsKind d (de.Extension t ts ds) (rk.Extension h.kind r qs)

abbrev pub standing_of : World → Within → Option Standing
standing_of w top = Some standing.TopLevel
standing_of w (braces k n) = Some (standing.Braces k (type_key w.own.name n))
standing_of w (extension t) = option_map (λ (h : Head). standing.Extension h.kind h.key) (head_of w t.names)

abbrev pub name_place : Entry → Place
name_place e = option_map_or (λ (n : Place × Text). n.0) (name_of e) e.place

-- a declaration of the text, and what it is once its names are resolved
pub record IsDeclared (d : Declaration) (r : RDecl) : Type 0 where
  pub place : r.place ≡ d.entry.place
  pub name : r.name_place ≡ name_place d.entry
  pub key : key_of d ≡ Some r.key
  pub own : owner_key d d.entry.kind ≡ Some r.own
  pub standing : standing_of d.world d.entry.within ≡ Some r.standing
  pub attrs : r.attrs ≡ d.entry.attrs
  pub modifiers : r.modifiers ≡ d.entry.modifiers
  pub kind : IsKind d d.entry.kind r.kind

-- the declarations of a module, in the order of the text
abbrev pub AreDeclared : World → List RDecl → Type 0
AreDeclared w rs = Pairs IsDeclared (own_declarations w) rs

-- ---- initialisers that structs have without writing them

abbrev pub declared_in : World → Entry → Declaration
declared_in w e = record { world = w; entry = e }

-- a stored property is a parameter with its name as label
pub data IsStored (w : World) : Entry → RParameter → Type 0 where
  stored : {e : Entry} {k : Introducer} {i : Identifier} {t : TypeName} {r : RTypeName} → e.kind ≡ de.Property k i t accessors.Stored → IsType (scope_of (declared_in w e)) t r → IsStored w e (record { place = i.place; label = i.text; name = i.text; written = r })

abbrev pub has_stored : Kind → Bool
has_stored (de.Property k i t a) = is_stored a
has_stored k = false

abbrev pub stored_of : World → Text → List Entry
stored_of w n = filter (λ (e : Entry). has_stored e.kind) (in_braces_of w.own n)

-- private where a stored property is
abbrev pub memberwise_modifiers : World → Identifier → List Modifier
memberwise_modifiers w i = if is_private (memberwise_level (in_braces_of w.own i.text)) then record { place = i.place; kind = modifier.Private } ∷ [] else []

abbrev pub memberwise_key : World → Identifier → List Text → Key
memberwise_key w i labels = record (type_key w.own.name i.text) { context = w.own.name ∷ i.text ∷ []; base = codes "init"; labels = Some labels }

pub record IsMemberwise (w : World) (i : Identifier) (r : RDecl) : Type 0 where
  pub labels : List Text
  pub unwritten : memberwise_labels w.own i.text ≡ Some labels
  pub parameters : List RParameter
  pub stored : Pairs (IsStored w) (stored_of w i.text) parameters
  pub whole : r ≡ record {
    place = i.place;
    name_place = i.place;
    key = memberwise_key w i labels;
    own = memberwise_key w i labels;
    standing = standing.Braces nominal.Struct (type_key w.own.name i.text);
    attrs = [];
    modifiers = memberwise_modifiers w i;
    kind = rk.Initialiser (record { signature = record { «protocol» = None; generics = []; requirements = [] }; parameters = parameters; result = None });
  }

abbrev pub struct_by : World → Kind → List Identifier
struct_by w (de.Nominal nominal.Struct i ts ds) = option_map_or (λ labels. i ∷ []) (memberwise_labels w.own i.text) []
struct_by w k = []

-- the structs that have one, in the order of the text
abbrev pub unwritten_structs : World → List Identifier
unwritten_structs w = flat_map (λ (e : Entry). struct_by w e.kind) w.own.entries

abbrev pub AreMemberwise : World → List RDecl → Type 0
AreMemberwise w rs = Pairs (IsMemberwise w) (unwritten_structs w) rs

-- ---- bodies

-- a body, with its declaration resolved
pub record IsBody (b : WrittenBody) (r : Body) : Type 0 where
  pub owner : r.owner ≡ b.owner
  pub declaration : Both IsDeclared b.declaration r.decl
  pub part : r.part ≡ b.part
  pub block : r.block ≡ b.block
