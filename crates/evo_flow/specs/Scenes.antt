-- What a module and its import declare: stored properties, superclasses, and the enums of which a `switch` may list the cases alone.
use Rattle.std.specs.Prelude.{List, ◌++◌, filter, Bool, true, false, not, ◌&&◌, ◌||◌, Some, codes, if◌then◌else◌}
use Rattle.std.specs.List.{list_any}
use Rattle.std.specs.Str.{bytes_eq}
use Rattle.evo_base.specs.declared.key.Key.{Key}
use Rattle.evo_tree.specs.declared.declaration.Attr.{Attr}
use Rattle.evo_tree.specs.declared.declaration.AttrKind.TheVariants as attr
use Rattle.evo_tree.specs.declared.declaration.NominalKind.TheVariants as nominal
use Rattle.evo_tree.specs.declared.statement.Introducer.TheVariants as introducer
use Rattle.evo_resolved.specs.declared.resolved_type.RType.{RType}
use Rattle.evo_resolved.specs.declared.resolved_type.RType.TheVariants as ty
use Rattle.evo_resolved.specs.declared.declaration.Kept.TheVariants as kept
use Rattle.evo_resolved.specs.declared.declaration.Standing.{Standing}
use Rattle.evo_resolved.specs.declared.declaration.Standing.TheVariants as standing
use Rattle.evo_resolved.specs.declared.declaration.RDeclKind.{RDeclKind}
use Rattle.evo_resolved.specs.declared.declaration.RDeclKind.TheVariants as kind
use Rattle.evo_resolved.specs.declared.declaration.RDecl.{RDecl}
use Rattle.evo_resolved.specs.declared.module.ModuleKind.{ModuleKind}
use Rattle.evo_resolved.specs.declared.module.ModuleKind.TheVariants as form
use Rattle.evo_meaning.specs.Keys.{same_key}
use Rattle.evo_flow.specs.declared.site.Site.{Site}

-- the declarations that a body sees, and where it stands
pub record Scene : Type 0 where
  pub own : List RDecl
  pub imported : List RDecl
  pub in_client : Bool
  pub in_inlinable : Bool

abbrev pub is_client : ModuleKind → Bool
is_client form.Client = true
is_client form.Library = false
is_client form.Interface = false

abbrev pub scene_of : Site → Scene
scene_of s = record { own = s.own.now; imported = s.imported.now; in_client = is_client s.form; in_inlinable = s.inlinable }

abbrev pub seen : Scene → List RDecl
seen c = c.own ++ c.imported

-- ---- stored properties, which stand in braces alone

abbrev pub in_braces_of : Key → Standing → Bool
in_braces_of k standing.TopLevel = false
in_braces_of k (standing.Braces n t) = same_key t k
in_braces_of k (standing.Extension n t) = false

abbrev pub is_stored : RDeclKind → Bool
is_stored (kind.Property i t kept.Stored) = true
is_stored d = false

abbrev pub is_let : RDeclKind → Bool
is_let (kind.Property introducer.Let t k) = true
is_let d = false

abbrev pub is_stored_of : Key → RDecl → Bool
is_stored_of k d = is_stored d.kind && in_braces_of k d.standing

-- ---- superclasses

abbrev pub names_superclass : RDeclKind → Bool
names_superclass (kind.Nominal n (Some s) ps) = true
names_superclass d = false

abbrev pub is_subclass_by : Key → RDecl → Bool
is_subclass_by k d = names_superclass d.kind && same_key d.key k

abbrev pub is_subclass : Scene → Key → Bool
is_subclass c k = list_any (is_subclass_by k) (seen c)

-- ---- enums

abbrev pub is_enum : RDeclKind → Bool
is_enum (kind.Nominal nominal.Enum s ps) = true
is_enum d = false

abbrev pub is_enum_of : Key → RDecl → Bool
is_enum_of k d = is_enum d.kind && same_key d.key k

abbrev pub is_case : RDeclKind → Bool
is_case (kind.Case ps) = true
is_case d = false

abbrev pub is_case_of : Key → RDecl → Bool
is_case_of k d = is_case d.kind && in_braces_of k d.standing

abbrev pub says_frozen : Attr → Bool
says_frozen a = elim a.kind [ attr.Frozen ↦ true | attr.Inlinable ↦ false | attr.UsableFromInline ↦ false | attr.Available v ↦ false ]

abbrev pub is_frozen : RDecl → Bool
is_frozen d = list_any says_frozen d.attrs

-- an enum of the key that is frozen, or any where none can get further cases
abbrev pub is_settled : Key → Bool → RDecl → Bool
is_settled k all d = is_enum_of k d && (all || is_frozen d)

-- A library's enum may get further cases unless it is frozen: neither a client nor what is copied into clients knows them all.
abbrev pub is_closed : Scene → Key → Bool
is_closed c k = list_any (is_settled k (c.in_client || not c.in_inlinable)) c.own || list_any (is_settled k false) c.imported

-- ---- types of the language

abbrev pub is_of_language : Key → Bool
is_of_language k = bytes_eq k.module (codes "Swift")

-- what a `switch` looks at
pub data Subject : Type 0 where
  truth : Subject
  a_type : Key → Subject
  other : Subject

abbrev pub language_subject : Key → Subject
language_subject k = if bytes_eq k.base (codes "Bool") then truth else other

abbrev pub key_subject : Key → Subject
key_subject k = if is_of_language k then language_subject k else a_type k

abbrev pub subject_of : RType → Subject
subject_of (ty.Named k) = key_subject k
subject_of t = other
