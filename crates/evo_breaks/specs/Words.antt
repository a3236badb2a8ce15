-- What the words before a declaration say to the rules.
use Rattle.std.specs.Prelude.{ℕ, Bool, true, false, not, ◌&&◌, ◌||◌, ltb, ◌==◌, List}
use Rattle.std.specs.List.{list_any, list_all}
use Rattle.evo_base.specs.declared.place.Release.{Release}
use Rattle.evo_tree.specs.Declarations.{has_modifier, has_attribute}
use Rattle.evo_tree.specs.declared.declaration.Availability.TheVariants as availability
use Rattle.evo_tree.specs.declared.declaration.AttrKind.{AttrKind}
use Rattle.evo_tree.specs.declared.declaration.AttrKind.TheVariants as attr
use Rattle.evo_tree.specs.declared.declaration.Attr.{Attr}
use Rattle.evo_tree.specs.declared.declaration.ModifierKind.TheVariants as modifier
use Rattle.evo_resolved.specs.declared.declaration.RDecl.{RDecl}

-- ---- truth values

-- it held, and holds no longer
abbrev pub is_lost : Bool → Bool → Bool
is_lost a b = a && not b

abbrev pub differs : Bool → Bool → Bool
differs true b = not b
differs false b = b

-- ---- access, as it is written

abbrev pub is_open : RDecl → Bool
is_open d = has_modifier modifier.Open d.modifiers

abbrev pub is_public : RDecl → Bool
is_public d = is_open d || has_modifier modifier.Public d.modifiers

-- inlinable bodies of other modules may use it
abbrev pub is_usable : RDecl → Bool
is_usable d = is_public d || has_attribute attr.UsableFromInline d.attrs

abbrev pub is_final : RDecl → Bool
is_final d = has_modifier modifier.Final d.modifiers

abbrev pub is_static : RDecl → Bool
is_static d = has_modifier modifier.Static d.modifiers

abbrev pub is_mutating : RDecl → Bool
is_mutating d = has_modifier modifier.Mutating d.modifiers

abbrev pub is_frozen : RDecl → Bool
is_frozen d = has_attribute attr.Frozen d.attrs

-- ---- the release that introduced it

abbrev pub is_later : Release → Release → Bool
is_later a b = ltb b.major a.major || ((a.major == b.major) && ltb b.minor a.minor)

abbrev pub first_release : Release
first_release = record { major = 0; minor = 0 }

abbrev pub release_of : AttrKind → Release
release_of (attr.Available (availability.Introduced r)) = r
release_of k = first_release

-- a release that is later than this one and all of these
abbrev pub is_after : List Attr → Release → Bool
is_after attrs r = is_later r first_release && list_all (λ (a : Attr). is_later r (release_of a.kind)) attrs

-- the greatest release that the second names is later than the greatest that the first names; where none is named it is 0.0
abbrev pub is_introduced_later : List Attr → List Attr → Bool
is_introduced_later old new = list_any (λ (a : Attr). is_after old (release_of a.kind)) new
