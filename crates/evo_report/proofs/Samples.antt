-- Small interfaces from which the examples of the rules are made.
use Rattle.std.proofs.Common.{◌≡◌, ℕ, Bool, true, false, List, [], ◌∷◌, ◌++◌, Option, Some, None, codes}
use Rattle.evo_base.specs.declared.place.Place.{Place}
use Rattle.evo_base.specs.declared.key.Key.{Key}
use Rattle.evo_base.specs.declared.key.Mark.{Mark}
use Rattle.evo_base.specs.declared.key.Mark.TheVariants as mark
use Rattle.evo_tree.specs.declared.statement.Introducer.TheVariants as introducer
use Rattle.evo_tree.specs.declared.declaration.Availability.TheVariants as availability
use Rattle.evo_tree.specs.declared.declaration.AttrKind.{AttrKind}
use Rattle.evo_tree.specs.declared.declaration.AttrKind.TheVariants as attr
use Rattle.evo_tree.specs.declared.declaration.Attr.{Attr}
use Rattle.evo_tree.specs.declared.declaration.ModifierKind.{ModifierKind}
use Rattle.evo_tree.specs.declared.declaration.ModifierKind.TheVariants as modifier
use Rattle.evo_tree.specs.declared.declaration.Modifier.{Modifier}
use Rattle.evo_tree.specs.declared.declaration.NominalKind.{NominalKind}
use Rattle.evo_tree.specs.declared.declaration.NominalKind.TheVariants as nominal
use Rattle.evo_resolved.specs.declared.resolved_type.RType.{RType}
use Rattle.evo_resolved.specs.declared.resolved_type.RType.TheVariants as ty
use Rattle.evo_resolved.specs.declared.resolved_type.RTypeName.{RTypeName}
use Rattle.evo_resolved.specs.declared.resolved_type.RReference.{RReference}
use Rattle.evo_resolved.specs.declared.declaration.RDecl.{RDecl}
use Rattle.evo_resolved.specs.declared.declaration.RDeclKind.{RDeclKind}
use Rattle.evo_resolved.specs.declared.declaration.RDeclKind.TheVariants as kind
use Rattle.evo_resolved.specs.declared.declaration.RParameter.{RParameter}
use Rattle.evo_resolved.specs.declared.declaration.RPayload.{RPayload}
use Rattle.evo_resolved.specs.declared.declaration.RRequirement.{RRequirement}
use Rattle.evo_resolved.specs.declared.declaration.Kept.TheVariants as kept
use Rattle.evo_resolved.specs.declared.declaration.Standing.{Standing}
use Rattle.evo_resolved.specs.declared.declaration.Standing.TheVariants as standing
use Rattle.evo_resolved.specs.declared.module.ModuleKind.TheVariants as module_kind
use Rattle.evo_resolved.specs.declared.module.RConformance.{RConformance}
use Rattle.evo_resolved.specs.declared.module.RDefault.{RDefault}
use Rattle.evo_resolved.specs.declared.module.RProtocol.{RProtocol}
use Rattle.evo_resolved.specs.declared.module.RTypeWitness.{RTypeWitness}
use Rattle.evo_resolved.specs.declared.module.RModule.{RModule}
use Rattle.evo_code.specs.Symbols.{Text}

abbrev pub here : Place
here = record { line = 1; col = 1 }

abbrev pub lib : Text
lib = codes "Lib"

abbrev pub swift : Text
swift = codes "Swift"

abbrev pub key : Text → List Text → Text → Option (List Text) → List Mark → Key
key m context base labels marks = record { «module» = m; context = context; base = base; labels = labels; part = record { marks = marks } }

-- a type, a function without parameters, and members of a type
abbrev pub top : Text → Key
top n = key lib (lib ∷ []) n None []

abbrev pub top_function : Text → List Text → Key
top_function n labels = key lib (lib ∷ []) n (Some labels) []

abbrev pub inside : Text → Text → Key
inside t n = key lib (lib ∷ t ∷ []) n None []

abbrev pub method : Text → Text → List Text → Key
method t n labels = key lib (lib ∷ t ∷ []) n (Some labels) []

abbrev pub demand : Text → Text → Key
demand t n = key lib (lib ∷ t ∷ []) n (Some []) (mark.Requirement ∷ [])

abbrev pub conformance_key : Key → Text → Key
conformance_key k p = key lib k.context k.base None (mark.Conformance (record { «module» = lib; name = p }) ∷ [])

abbrev pub int_key : Key
int_key = key swift (swift ∷ []) (codes "Int") None []

abbrev pub bool_key : Key
bool_key = key swift (swift ∷ []) (codes "Bool") None []

abbrev pub written : RType → RTypeName
written t = record { place = here; aliases = []; ty = t }

abbrev pub int : RTypeName
int = written (ty.Named int_key)

abbrev pub bool : RTypeName
bool = written (ty.Named bool_key)

abbrev pub to : Key → RReference
to k = record { place = here; key = k }

abbrev pub word : ModifierKind → Modifier
word k = record { place = here; kind = k }

abbrev pub at : AttrKind → Attr
at k = record { place = here; kind = k }

abbrev pub public : List Modifier
public = word modifier.Public ∷ []

abbrev pub since : ℕ → ℕ → Attr
since major minor = at (attr.Available (availability.Introduced (record { major = major; minor = minor })))

abbrev pub decl : Key → Standing → List Attr → List Modifier → RDeclKind → RDecl
decl k s attrs modifiers what = record { place = here; name_place = here; key = k; own = k; standing = s; attrs = attrs; modifiers = modifiers; kind = what }

abbrev pub parameter : RTypeName → RParameter
parameter t = record { place = here; label = codes "x"; name = codes "x"; written = t }

abbrev pub function : List Text → List RRequirement → List RTypeName → Option RTypeName → RDeclKind
function generics requirements [] result = kind.Function (record { signature = record { protocol = None; generics = generics; requirements = requirements }; parameters = []; result = result })
function generics requirements (t ∷ []) result = kind.Function (record { signature = record { protocol = None; generics = generics; requirements = requirements }; parameters = parameter t ∷ []; result = result })
function generics requirements (t ∷ u ∷ ts) result = kind.Function (record { signature = record { protocol = None; generics = generics; requirements = requirements }; parameters = parameter t ∷ parameter u ∷ []; result = result })

-- a function without parameters that gives nothing
abbrev pub plain : RDeclKind
plain = function [] [] [] None

abbrev pub stored : RTypeName → RDeclKind
stored t = kind.Property introducer.Var t kept.Stored

abbrev pub computed : RTypeName → Bool → RDeclKind
computed t setter = kind.Property introducer.Var t (kept.Computed setter)

abbrev pub value : Option Text → RTypeName → RPayload
value l t = record { label = l; written = t }

-- an interface of these declarations, tables of protocols and conformances
abbrev pub interface : Text → List RDecl → List RProtocol → List RConformance → RModule
interface name ds ps cs = record { kind = module_kind.Interface; name = name; release = Some (record { major = 1; minor = 0 }); decls = ds; memberwise = []; protocols = ps; conformances = cs; bodies = [] }

abbrev pub simple : List RDecl → RModule
simple ds = interface lib ds [] []

abbrev pub table : Text → List RDefault → RProtocol
table p ds = record { key = top p; defaults = ds; subtables = [] }

abbrev pub conforms : Key → Text → List RTypeWitness → RConformance
conforms k p ts = record { key = conformance_key k p; conformer = k; protocol = to (top p); witnesses = []; types = ts; subtables = [] }
