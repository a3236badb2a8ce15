-- Where an expression stands, what the declarations that it sees ask of uses, and whether they may be used there.
use Rattle.std.specs.Prelude.{◌≡◌, ℕ, List, [], ◌∷◌, map, flat_map, Option, Some, None, Bool, true, false, not, ◌&&◌, ◌||◌, nat_lt, ◌==◌, slice_get, if◌then◌else◌}
use Rattle.std.specs.List.{list_any, list_all}
use Rattle.std.specs.Option.{option_map_or}
use Rattle.evo_base.specs.declared.key.Key.{Key}
use Rattle.evo_base.specs.declared.place.Release.{Release}
use Rattle.evo_tree.specs.Declarations.{has_modifier}
use Rattle.evo_tree.specs.declared.name.Identifier.{Identifier}
use Rattle.evo_tree.specs.declared.statement.Introducer.{Introducer}
use Rattle.evo_tree.specs.declared.statement.Introducer.TheVariants as introducer
use Rattle.evo_tree.specs.declared.declaration.Availability.TheVariants as availability
use Rattle.evo_tree.specs.declared.declaration.AttrKind.{AttrKind}
use Rattle.evo_tree.specs.declared.declaration.AttrKind.TheVariants as attr
use Rattle.evo_tree.specs.declared.declaration.Attr.{Attr}
use Rattle.evo_tree.specs.declared.declaration.ModifierKind.TheVariants as modifier
use Rattle.evo_tree.specs.declared.declaration.NominalKind.TheVariants as nominal
use Rattle.evo_resolved.specs.declared.resolved_type.RType.{RType}
use Rattle.evo_resolved.specs.declared.resolved_type.RType.TheVariants as ty
use Rattle.evo_resolved.specs.declared.resolved_type.RTypeName.{RTypeName}
use Rattle.evo_resolved.specs.declared.path.ConfPath.{ConfPath}
use Rattle.evo_resolved.specs.declared.declaration.RRequirement.{RRequirement}
use Rattle.evo_resolved.specs.declared.declaration.RRequirement.TheVariants as requirement
use Rattle.evo_resolved.specs.declared.declaration.Signature.{Signature}
use Rattle.evo_resolved.specs.declared.declaration.RParameter.{RParameter}
use Rattle.evo_resolved.specs.declared.declaration.RPayload.{RPayload}
use Rattle.evo_resolved.specs.declared.declaration.Kept.{Kept}
use Rattle.evo_resolved.specs.declared.declaration.Kept.TheVariants as kept
use Rattle.evo_resolved.specs.declared.declaration.Standing.{Standing}
use Rattle.evo_resolved.specs.declared.declaration.Standing.TheVariants as standing
use Rattle.evo_resolved.specs.declared.declaration.RDeclKind.{RDeclKind}
use Rattle.evo_resolved.specs.declared.declaration.RDeclKind.TheVariants as kind
use Rattle.evo_resolved.specs.declared.declaration.RDecl.{RDecl}
use Rattle.evo_resolved.specs.declared.expression.Reach.{Reach}
use Rattle.evo_resolved.specs.declared.expression.Reach.TheVariants as reach
use Rattle.evo_names.specs.declared.declared_name.DeclaredName.{DeclaredName}
use Rattle.evo_names.specs.Listed.{World, Declaration, declarations, is_static, overrides}
use Rattle.evo_names.specs.Meets.{same_name, same_names, same_labels}
use Rattle.evo_names.specs.Heads.{Head, is_among, owner_of}
use Rattle.evo_names.specs.Seen.{Viewpoint}
use Rattle.evo_names.specs.Keys.{declared_name}
use Rattle.evo_names.specs.Written.{Around, nowhere, in_protocol, Scope, view}
use Rattle.evo_names.specs.Faults.{scope_of}
use Rattle.evo_names.specs.Resolved.{IsDeclared, IsMemberwise, unwritten_structs}
use Rattle.evo_names.specs.Dispatch.{reach_of}
use Rattle.evo_names.specs.Typing.{is_class_key, is_class_type, ancestors, infix_type}
use Rattle.evo_solve.specs.declared.path.Word.{Word}
use Rattle.evo_solve.specs.declared.declarations.Declarations.{Declarations}
use Rattle.evo_solve.specs.Words.{table_words}
use Rattle.evo_solve.specs.Ways.{Route, IsWay, goal_of}
use Rattle.evo_solve.specs.Stands.{StandsFor}
use Rattle.evo_typing.specs.Shapes as shapes
use Rattle.evo_typing.specs.Shapes.{Shape, Owner, of_type, of_protocol, Declared, Local}

-- ---- where it stands

pub record Site : Type 0 where
  pub world : World
  -- what is declared of conformances
  pub declarations : Declarations
  -- that of the interface which a client imports
  pub release : Option Release
  -- the declaration of the body; a client's top level has none
  pub declaration : Option Declaration
  pub signature : Signature
  -- the type in which the body stands
  pub around : Option RType
  -- `self` may be set
  pub mutable_self : Bool
  -- the parameters and locals that are in scope
  pub locals : List Local
  -- the types of all parameters and locals of the body, by their numbers
  pub types : List RType

abbrev pub in_static : Site → Bool
in_static s = option_map_or (λ (d : Declaration). is_static d.entry) s.declaration false

-- the type of `self`
abbrev pub self_of : Site → Option RType
self_of s = if in_static s then None else s.around

abbrev pub bare_scope : World → Scope
bare_scope w = record { home = w; around = nowhere; generics = [] }

-- in which written types have their meaning
abbrev pub scope : Site → Scope
scope s = option_map_or scope_of s.declaration (bare_scope s.world)

abbrev pub viewpoint : Site → Viewpoint
viewpoint s = view (scope s)

abbrev pub in_a_protocol : Around → Bool
in_a_protocol (in_protocol k t) = true
in_a_protocol a = false

-- what `Self` means: it is there in protocols and their extensions alone
abbrev pub self_type : Site → Option RType
self_type s = if in_a_protocol (scope s).around then s.around else None

-- ---- what a use has to fit

abbrev pub owner_by : Standing → Owner
owner_by standing.TopLevel = shapes.nowhere
owner_by (standing.Braces nominal.Protocol k) = of_protocol k
owner_by (standing.Braces n k) = of_type k
owner_by (standing.Extension nominal.Protocol k) = of_protocol k
owner_by (standing.Extension n k) = of_type k

abbrev pub owner_protocol : Owner → Option Key
owner_protocol (of_protocol k) = Some k
owner_protocol o = None

-- the type of a new value or of a case
abbrev pub owner_type : Owner → RType
owner_type (of_type k) = ty.Named k
owner_type o = ty.NoValue

abbrev pub required_by : Signature → List (RType × Key)
required_by s = map (λ (w : Word). (w.subject, w.protocol)) (table_words s)

abbrev pub equal_by : RRequirement → List (RType × RType)
equal_by (requirement.Same l p r) = (l.ty, r.ty) ∷ []
equal_by (requirement.Conforms t p) = []

abbrev pub plain_signature : Option Key → Signature
plain_signature p = record { «protocol» = p; generics = []; requirements = [] }

abbrev pub shape_from : RDecl → Reach → Signature → List RType → RType → Bool → Shape
shape_from d r s params result settable = record {
  owner = owner_by d.standing;
  signature = s;
  required = required_by s;
  equal = flat_map equal_by s.requirements;
  params = params;
  result = result;
  mutates = has_modifier modifier.Mutating d.modifiers;
  settable = settable;
  reach = r;
}

abbrev pub type_or_none : Option RTypeName → RType
type_or_none t = option_map_or (λ (n : RTypeName). n.ty) t ty.NoValue

abbrev pub parameter_types : List RParameter → List RType
parameter_types ps = map (λ (p : RParameter). p.written.ty) ps

abbrev pub is_var : Introducer → Bool
is_var introducer.Var = true
is_var introducer.Let = false

-- a stored `var`, or a computed property with a setter
abbrev pub has_setter : Introducer → Kept → Bool
has_setter i kept.Stored = is_var i
has_setter i (kept.Computed setter) = setter

abbrev pub shape_by : RDecl → Reach → RDeclKind → Option Shape
shape_by d r (kind.Function h) = Some (shape_from d r h.signature (parameter_types h.parameters) (type_or_none h.result) false)
shape_by d r (kind.Initialiser h) = Some (shape_from d r h.signature (parameter_types h.parameters) (owner_type (owner_by d.standing)) false)
shape_by d r (kind.Property i t k) = Some (shape_from d r (plain_signature (owner_protocol (owner_by d.standing))) [] t.ty (has_setter i k))
shape_by d r (kind.Case ps) = Some (shape_from d r (plain_signature None) (map (λ (p : RPayload). p.written.ty) ps) (owner_type (owner_by d.standing)) false)
shape_by d r k = None

-- types, conformances and `typealias`es have none
unfoldable pub shape_of : RDecl → Reach → Option Shape
shape_of d r = shape_by d r d.kind

-- ---- by key

-- The declaration of the key asks this of its uses. What overrides is no use's; its root is.
pub data Stated (w : World) : Key → Shape → Type 0 where
  by_declaration : {k : Key} {s : Shape} (i : ℕ) (d : Declaration) (r : RDecl) → slice_get (declarations w) i ≡ Some d → overrides d.entry ≡ false → IsDeclared d r → r.key ≡ k → shape_of r (reach_of d) ≡ Some s → Stated w k s
  -- the initialiser that a struct has without writing it
  by_memberwise : {k : Key} {s : Shape} (i : ℕ) (n : Identifier) (r : RDecl) → slice_get (unwritten_structs w) i ≡ Some n → IsMemberwise w n r → r.key ≡ k → shape_of r reach.Static ≡ Some s → Stated w k s

-- a path leads to the conformance
abbrev pub LeadsTo : Site → ConfPath → RType → Key → Type 0
LeadsTo s path t p = (route : Route) × IsWay (goal_of s.signature s.declarations t p) route path

-- the first class stands properly above the second
abbrev pub is_above : World → Key → Key → Bool
is_above w top k = is_class_key w k && is_among top (ancestors w k)

abbrev pub declared_at : Site → Declared
declared_at s = record {
  shape = Stated s.world;
  stands = λ sig ts t u. StandsFor s.world s.declarations sig ts s.signature.requirements t u;
  leads = LeadsTo s;
  above = is_above s.world;
  is_class = is_class_type s.world;
  operated = infix_type s.world;
}

-- ---- whether a declaration may be used here

abbrev pub is_unavailable_kind : AttrKind → Bool
is_unavailable_kind (attr.Available availability.Unavailable) = true
is_unavailable_kind k = false

abbrev pub is_unavailable : List Attr → Bool
is_unavailable as' = list_any (λ (a : Attr). is_unavailable_kind a.kind) as'

abbrev pub is_later : Release → Release → Bool
is_later r q = nat_lt q.major r.major || ((r.major == q.major) && nat_lt q.minor r.minor)

abbrev pub introduced_after_kind : Release → AttrKind → Bool
introduced_after_kind r (attr.Available (availability.Introduced q)) = is_later q r
introduced_after_kind r k = false

abbrev pub introduced_after : Option Release → List Attr → Bool
introduced_after r as' = option_map_or (λ (q : Release). list_any (λ (a : Attr). introduced_after_kind q a.kind) as') r false

abbrev pub same_declared : DeclaredName → DeclaredName → Bool
same_declared a b = same_name a.module b.module && same_names a.context b.context && same_name a.base b.base && same_labels a.labels b.labels

abbrev pub is_it : DeclaredName → Declaration → Bool
is_it n d = option_map_or (λ m. same_declared n m) (declared_name d) false

-- the one that the body belongs to, or the type that this stands in
abbrev pub is_inside : Site → Declaration → Bool
is_inside s d = option_map_or (λ (b : Declaration). option_map_or (λ n. is_it n d) (declared_name b) false || option_map_or (λ (h : Head). option_map_or (λ (n : DeclaredName). same_name n.module h.key.module && same_names n.context (h.key.module ∷ []) && same_name n.base h.key.base) (declared_name d) false) (owner_of b.world b.entry.within) false) s.declaration false

-- not where it is unavailable, but within itself; in a client not where it came after the release of the interface
unfoldable pub may_use : Site → Declaration → Bool
may_use s d = (not (is_unavailable d.entry.attrs) || is_inside s d) && (same_name d.world.own.name s.world.own.name || not (introduced_after s.release d.entry.attrs))

abbrev pub is_keyed : Key → DeclaredName → Bool
is_keyed k n = same_name n.module k.module && same_names n.context k.context && same_name n.base k.base

-- whether the types or `typealias`es of these keys may be used
unfoldable pub may_use_types : Site → List Key → Bool
may_use_types s ks = list_all (λ k. list_all (λ (d : Declaration). not (option_map_or (is_keyed k) (declared_name d) false) || may_use s d) (declarations s.world)) ks
