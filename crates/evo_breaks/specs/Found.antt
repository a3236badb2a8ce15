-- What an interface declares under a key.
use Rattle.std.specs.Prelude.{◌≡◌, Bool, true, false, not, ◌&&◌, ◌||◌, List, Option, Some, None, if◌then◌else◌}
use Rattle.std.specs.Option.{option_and_then, option_map_or}
use Rattle.evo_base.specs.declared.key.Key.{Key}
use Rattle.evo_tree.specs.declared.declaration.NominalKind.{NominalKind}
use Rattle.evo_tree.specs.declared.declaration.NominalKind.TheVariants as nominal
use Rattle.evo_tree.specs.declared.declaration.ModifierKind.TheVariants as modifier
use Rattle.evo_tree.specs.Declarations.{has_modifier}
use Rattle.evo_resolved.specs.declared.declaration.RDecl.{RDecl}
use Rattle.evo_resolved.specs.declared.declaration.RDeclKind.{RDeclKind}
use Rattle.evo_resolved.specs.declared.declaration.RDeclKind.TheVariants as kind
use Rattle.evo_resolved.specs.declared.declaration.Standing.{Standing}
use Rattle.evo_resolved.specs.declared.declaration.Standing.TheVariants as standing
use Rattle.evo_resolved.specs.declared.module.RConformance.{RConformance}
use Rattle.evo_resolved.specs.declared.module.RModule.{RModule}
use Rattle.evo_resolved.specs.Found.{IsFound}
use Rattle.evo_resolved.specs.Named.{decl_key, is_declared, conformance_key, is_conformance}
use Rattle.evo_meaning.specs.Keys.{look_up}
use Rattle.evo_breaks.specs.declared.sort.Sort.{Sort}
use Rattle.evo_breaks.specs.declared.sort.Sort.TheVariants as sort

-- no two declarations and no two conformances have one key, but that an extension has that of what it extends
pub record HasOneForEachKey (m : RModule) : Type 0 where
  pub declarations : (k : Key) (x y : RDecl) → IsFound decl_key is_declared m.decls k x → IsFound decl_key is_declared m.decls k y → x ≡ y
  pub conformances : (k : Key) (x y : RConformance) → IsFound conformance_key is_conformance m.conformances k x → IsFound conformance_key is_conformance m.conformances k y → x ≡ y

-- the type or protocol that it is a member of
abbrev pub owner_by : Standing → Option Key
owner_by standing.TopLevel = None
owner_by (standing.Braces n k) = Some k
owner_by (standing.Extension n k) = Some k

abbrev pub owner_of : RDecl → Option Key
owner_of d = owner_by d.standing

-- it is a member of a protocol's braces
abbrev pub is_demanded : Standing → Bool
is_demanded (standing.Braces nominal.Protocol k) = true
is_demanded s = false

abbrev pub is_in_extension : Standing → Bool
is_in_extension (standing.Extension n k) = true
is_in_extension s = false

-- what is sought under a key, for each kind of declaration. A function that overrides stands for its root, and is sought by none.
abbrev pub member_sort : Standing → Sort
member_sort s = if is_demanded s then sort.Requirement else sort.Member

abbrev pub sort_by : Standing → Bool → RDeclKind → Sort
sort_by s overrides (kind.Function h) = if overrides then sort.Untried else member_sort s
sort_by s overrides (kind.Initialiser h) = member_sort s
sort_by s overrides (kind.Property i t k) = member_sort s
sort_by s overrides (kind.TypeAlias t) = sort.Untried
sort_by s overrides (kind.AssociatedType ps t) = sort.AssociatedType
sort_by s overrides (kind.Case ps) = sort.Case
sort_by s overrides (kind.Nominal n u ps) = sort.Nominal
sort_by s overrides (kind.Extension n t ps) = sort.Untried

abbrev pub sort_of : RDecl → Sort
sort_of d = sort_by d.standing (has_modifier modifier.Override d.modifiers) d.kind

abbrev pub same_sort : Sort → Sort → Bool
same_sort sort.Nominal sort.Nominal = true
same_sort sort.Member sort.Member = true
same_sort sort.Requirement sort.Requirement = true
same_sort sort.AssociatedType sort.AssociatedType = true
same_sort sort.Case sort.Case = true
same_sort sort.Untried sort.Untried = true
same_sort _ _ = false

-- ---- look-ups

unfoldable pub declared : RModule → Key → Option RDecl
declared m k = look_up decl_key is_declared m.decls k

unfoldable pub conformance_in : RModule → Key → Option RConformance
conformance_in m k = look_up conformance_key is_conformance m.conformances k

abbrev pub if_sort : Sort → Option RDecl → Option RDecl
if_sort s None = None
if_sort s (Some d) = if same_sort s (sort_of d) then Some d else None

-- the declaration of this sort under the key
unfoldable pub declared_as : Sort → RModule → Key → Option RDecl
declared_as s m k = if_sort s (declared m k)

abbrev pub type_in : RModule → Key → Option RDecl
type_in m k = declared_as sort.Nominal m k

-- the type or protocol of a member
abbrev pub type_round : RModule → RDecl → Option RDecl
type_round m d = option_and_then (type_in m) (owner_of d)

-- ---- types that stay

abbrev pub same_kind : NominalKind → NominalKind → Bool
same_kind nominal.Struct nominal.Struct = true
same_kind nominal.Enum nominal.Enum = true
same_kind nominal.Class nominal.Class = true
same_kind nominal.Protocol nominal.Protocol = true
same_kind _ _ = false

abbrev pub is_same_type_kind : RDeclKind → RDeclKind → Bool
is_same_type_kind (kind.Nominal a u ps) (kind.Nominal b v qs) = same_kind a b
is_same_type_kind _ _ = false

-- a type or protocol that the new interface does not declare, or as another kind
abbrev pub is_gone_as : Option RDecl → Option RDecl → Bool
is_gone_as None n = false
is_gone_as (Some d) None = true
is_gone_as (Some d) (Some n) = not (is_same_type_kind d.kind n.kind)

unfoldable pub is_gone : RModule → RModule → Key → Bool
is_gone old new k = is_gone_as (type_in old k) (type_in new k)

-- its type or protocol is one of these
abbrev pub is_with_gone : RModule → RModule → Option Key → Bool
is_with_gone old new None = false
is_with_gone old new (Some k) = is_gone old new k
