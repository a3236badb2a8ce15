-- What is sought in the list of all declarations.
use Rattle.std.specs.Prelude.{ℕ, List, [], ◌∷◌, Option, Some, None, Bool, true, false, not, ◌&&◌, slice_get, if◌then◌else◌}
use Rattle.std.specs.Option.{option_map_or, option_and_then}
use Rattle.evo_base.specs.declared.key.Key.{Key}
use Rattle.evo_tree.specs.declared.name.TypeName.{TypeName}
use Rattle.evo_tree.specs.declared.declaration.DeclKind.TheOpen as de
use Rattle.evo_declarations.specs.Views.{key_of_type, view_of}
use Rattle.evo_members.specs.declared.member.Test.{Test}
use Rattle.evo_members.specs.declared.member.Test.TheVariants as test
use Rattle.evo_members.specs.Located.{start_in}
use Rattle.evo_names.specs.Listed.{Text, Kind, World, Declaration, declarations}
use Rattle.evo_names.specs.Meets.{same_name}
use Rattle.evo_names.specs.Heads.{declares, class_named, first_some, in_braces, is_member_of, sees, superclass, climb}
use Rattle.evo_names.specs.Written as written
use Rattle.evo_names.specs.Written.{Start, may_meet}

-- the declaration of this number
abbrev pub by_number : {A B : Type 0} → (A → Option B) → List A → ℕ → Option B
by_number f xs i = option_and_then f (slice_get xs i)

abbrev pub if_declares : Key → Declaration → Option Declaration
if_declares k d = if declares k d d.entry.kind then Some d else None

abbrev pub first_class : World → List TypeName → Option Key
first_class w [] = None
first_class w (t ∷ ts) = class_named w t

-- ---- members that stand for types

abbrev pub test_of : World → Test → Declaration → Bool
test_of w (test.Sees v) = sees (view_of v)
test_of w (test.MayMeet k p) = may_meet w (key_of_type k) (key_of_type p)

abbrev pub is_alias_named : Text → Kind → Bool
is_alias_named n (de.TypeAlias i t) = same_name i.text n
is_alias_named n k = false

-- in the braces of a type, or in an extension of it
abbrev pub stands : Bool → Key → Declaration → Bool
stands true k d = in_braces d.entry.within && is_member_of k d
stands false k d = not (in_braces d.entry.within) && is_member_of k d

abbrev pub is_sought : (Declaration → Bool) → Key → Text → Bool → Declaration → Bool
is_sought passes k n b d = is_alias_named n d.entry.kind && (stands b k d && passes d)

abbrev pub number_sought : World → (Declaration → Bool) → Key → Text → Bool → ℕ → Bool
number_sought w passes k n b i = option_map_or (is_sought passes k n b) (slice_get (declarations w) i) false

abbrev pub alias_if : (Declaration → Bool) → written.Around → Key → Text → Bool → Declaration → Option Start
alias_if passes a k n b d = if is_sought passes k n b d then Some (start_in a d) else None

-- the first in braces, or the first in extensions
abbrev pub first_alias : World → (Declaration → Bool) → written.Around → Key → Text → Bool → Option Start
first_alias w passes a k n b = first_some (alias_if passes a k n b) (declarations w)

-- ---- the nearest

-- what is found above a class by so many steps
abbrev pub above : {B : Type 0} → (Key → Option B) → ℕ → World → Key → Option B
above f n w k = option_map_or (λ u. first_some f (climb n w u)) (superclass w k) None

abbrev pub found_above : World → (Declaration → Bool) → Text → ℕ → Key → Option Start
found_above w passes n count k = above (λ c. written.alias_of w passes (written.in_type c) c n) count w k
