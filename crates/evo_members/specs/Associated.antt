-- Associated types of protocols, as they are sought.
use Rattle.std.specs.Prelude.{◌≡◌, ℕ, List, [], ◌∷◌, Option, Some, None, Bool, true, false, ◌&&◌, slice_get, if◌then◌else◌}
use Rattle.std.specs.Option.{option_map, option_map_or}
use Rattle.evo_base.specs.declared.key.Key.{Key}
use Rattle.evo_tree.specs.declared.name.TypeName.{TypeName}
use Rattle.evo_tree.specs.declared.declaration.DeclKind.TheOpen as de
use Rattle.evo_members.specs.Sought.{by_number, stands}
use Rattle.evo_names.specs.Listed.{Text, Kind, World, Declaration, declarations}
use Rattle.evo_names.specs.Meets.{same_name}
use Rattle.evo_names.specs.Heads.{first_some, is_among}
use Rattle.evo_names.specs.Written.{Start, associated_of, default_of, is_some, may_meet, nearest_alias}

abbrev pub is_named : Text → Kind → Bool
is_named n (de.AssociatedType i ts t) = same_name i.text n
is_named n k = false

abbrev pub is_associated : Key → Text → Bool → Declaration → Bool
is_associated p n b d = is_named n d.entry.kind && stands b p d

abbrev pub number_associated : World → Key → Text → Bool → ℕ → Bool
number_associated w p n b i = option_map_or (is_associated p n b) (slice_get (declarations w) i) false

abbrev pub default_in : Kind → Option TypeName
default_in (de.AssociatedType i ts t) = t
default_in k = None

abbrev pub defaulted : Declaration → Declaration × Option TypeName
defaulted d = (d, default_in d.entry.kind)

-- an associated type of the protocol in braces or in an extension, with its default
abbrev pub associated_if : Key → Text → Bool → Declaration → Option (Declaration × Option TypeName)
associated_if p n b d = if is_associated p n b d then Some (defaulted d) else None

-- the first one of the list is the one of this number
abbrev pub IsFirst : World → Key → Text → Bool → Option ℕ → Type 0
IsFirst w p n b None = first_some (associated_if p n b) (declarations w) ≡ None
IsFirst w p n b (Some i) = (number_associated w p n b i ≡ true) × (first_some (associated_if p n b) (declarations w) ≡ by_number (associated_if p n b) (declarations w) i)

-- the declaration of this number, with its default
abbrev pub with_default : World → ℕ → Option (Declaration × Option TypeName)
with_default w i = option_map defaulted (slice_get (declarations w) i)

-- the protocol's associated type of this name has this number
abbrev pub IsAssociated : World → Key → Text → Option ℕ → Type 0
IsAssociated w p n None = associated_of w p n ≡ None
IsAssociated w p n (Some i) = (is_some (associated_of w p n) ≡ true) × (associated_of w p n ≡ with_default w i)

abbrev pub default_at : World → ℕ → Bool
default_at w i = option_map_or (λ (d : Declaration). is_some (default_in d.entry.kind)) (slice_get (declarations w) i) false

abbrev pub provider_if : World → List Key → Text → Key → List Key
provider_if w ks n p = if is_some (associated_of w p n) && is_among p ks then p ∷ [] else []

-- what the conformance to a protocol records
unfoldable pub recorded_by : World → Key → Text → Key → Option Start
recorded_by w k n p = nearest_alias w (may_meet w k p) k n

abbrev pub recorded_in : World → Key → Text → List Key → Option Start
recorded_in w k n ps = first_some (recorded_by w k n) ps

abbrev pub defaults_in : World → Key → Text → List Key → Option Start
defaults_in w k n ps = first_some (default_of w k n) ps
