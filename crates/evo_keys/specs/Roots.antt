-- The function that an override means, as it is sought by its base name.
use Rattle.std.specs.Prelude.{ℕ, suc, length, List, ◌&&◌, Option, Some, None, Bool, slice_get, if◌then◌else◌}
use Rattle.std.specs.Option.{option_and_then}
use Rattle.evo_base.specs.declared.key.Key.{Key}
use Rattle.evo_declarations.specs.Views.{entry_view, view_of}
use Rattle.evo_names.specs.Listed.{Text, Entry, World, Declaration, declarations, labels_of}
use Rattle.evo_names.specs.Seen.{Viewpoint}
use Rattle.evo_names.specs.Heads.{first_some, first_that, is_member_of, lineage, members, superclass}
use Rattle.evo_names.specs.Keys.{is_root, root_from}
use Rattle.evo_names.specs.Resolved.{declared_in}
use Rattle.evo_keys.specs.declared.roots.Sought.{Sought}

-- the test of what is sought
abbrev pub fits : Sought → Declaration → Bool
fits s d = is_root (view_of s.view) s.base.now (labels_of (entry_view s.function).kind) d

abbrev pub fits_in : Sought → Key → Declaration → Bool
fits_in s k d = fits s d && is_member_of k d

abbrev pub root_by : Sought → Key → World → Entry → Option Declaration
root_by s k w e = if fits_in s k (declared_in w e) then Some (declared_in w e) else None

abbrev pub root_at_number : Sought → Key → World → ℕ → Option Declaration
root_at_number s k w i = option_and_then (root_by s k w) (slice_get w.own.entries i)

-- the first one of a class in a module
abbrev pub first_root : Sought → Key → World → Option Declaration
first_root s k w = first_some (root_by s k w) w.own.entries

-- that of a class
abbrev pub root_of_class : Sought → World → Key → Option Declaration
root_of_class s w k = first_that (fits s) (members w k)

-- that of these classes
abbrev pub root_of_classes : Sought → World → List Key → Option Declaration
root_of_classes s w classes = root_from w (view_of s.view) classes s.base.now (labels_of (entry_view s.function).kind)

abbrev pub longest_way : World → ℕ
longest_way w = suc (length (declarations w))

-- from within a type
abbrev pub round : World → Key → Viewpoint
round w owner = record { «module» = w.own.name; type_round = Some owner }

-- that of the classes above this one
abbrev pub root_above : World → Entry → Text → Key → Option Declaration
root_above w e base owner = option_and_then (λ u. root_from w (round w owner) (lineage w u) base (labels_of e.kind)) (superclass w owner)
