-- Levels of access, and what is seen from where.
use Rattle.std.specs.Prelude.{ℕ, Bool, true, false, not, ◌&&◌, ◌||◌, Option, Some, None, nat_lt, if◌then◌else◌}
use Rattle.std.specs.Option.{option_map_or}
use Rattle.evo_base.specs.declared.key.Key.{Key}
use Rattle.evo_tree.specs.Declarations.{has_modifier, has_attribute}
use Rattle.evo_tree.specs.declared.declaration.AttrKind.TheVariants as attr
use Rattle.evo_tree.specs.declared.declaration.ModifierKind.TheVariants as modifier
use Rattle.evo_names.specs.Listed.{Text, Entry}
use Rattle.evo_names.specs.Meets.{same_name}

-- how far a declaration is seen
pub data Level : Type 0 where
  private_level : Level
  internal_level : Level
  -- seen by inlinable bodies of other modules, and not by their sources
  usable_level : Level
  -- `public` or `open`
  public_level : Level

abbrev pub rank : Level → ℕ
rank private_level = 0
rank internal_level = 1
rank usable_level = 2
rank public_level = 3

abbrev pub lesser : Level → Level → Level
lesser a b = if nat_lt (rank a) (rank b) then a else b

abbrev pub is_private : Level → Bool
is_private private_level = true
is_private l = false

abbrev pub is_public : Level → Bool
is_public public_level = true
is_public l = false

-- what is written of it: an access, and whether inlinable bodies may use it
abbrev pub written_level : Entry → Level
written_level e = if has_modifier modifier.Open e.modifiers || has_modifier modifier.Public e.modifiers then public_level
    else if has_modifier modifier.Private e.modifiers then private_level
    else if has_attribute attr.UsableFromInline e.attrs || has_attribute attr.Inlinable e.attrs then usable_level
    else internal_level

-- two types are the same: their keys have no labels and no marks, and no context but their module
abbrev pub same_type : Key → Key → Bool
same_type a b = same_name a.module b.module && same_name a.base b.base

-- where one looks from: the module, and the type in whose braces or extensions one stands
pub record Viewpoint : Type 0 where
  pub «module» : Text
  pub type_round : Option Key

-- what a declaration shows: its module, the type that it is a member of, its own level, and that of what it stands in
pub record Shown : Type 0 where
  pub «module» : Text
  pub owner : Option Key
  pub own : Level
  pub context : Level

abbrev pub same_owner : Option Key → Option Key → Bool
same_owner a None = true
same_owner a (Some k) = option_map_or (λ (t : Key). same_type t k) a false

-- The one rule on what is seen. What is `public`, with all round it, is seen everywhere, and what is less than that in its own module. A `private` member is seen in its type and in that type's extensions; at top level what is `private` is seen in the whole module.
unfoldable pub is_seen : Viewpoint → Shown → Bool
is_seen v d = is_public (lesser d.own d.context) || (same_name v.module d.module && (not (is_private d.own) || same_owner v.type_round d.owner))
