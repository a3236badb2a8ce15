-- Types and protocols as they are found by their keys.
use Rattle.std.specs.Prelude.{ℕ, List, [], ◌∷◌, Option, Some, None, Bool, slice_get, if◌then◌else◌}
use Rattle.std.specs.Option.{option_and_then, option_or}
use Rattle.evo_base.specs.declared.key.Key.{Key}
use Rattle.evo_tree.specs.declared.name.TypeName.{TypeName}
use Rattle.evo_names.specs.Listed.{Entry, World, Declaration, alone}
use Rattle.evo_names.specs.Heads.{class_named, declares, first_some}
use Rattle.evo_names.specs.Resolved.{declared_in}

-- first in the import, and then in the module itself
abbrev pub in_both : {A : Type 0} → (World → Option A) → World → Option A
in_both f w = option_or (option_and_then (λ m. f (alone m)) w.imported) (f w)

abbrev pub declares_in : World → Key → Entry → Bool
declares_in w k e = declares k (declared_in w e) e.kind

abbrev pub declared_by : World → Key → Entry → Option Declaration
declared_by w k e = if declares_in w k e then Some (declared_in w e) else None

abbrev pub declared_at_number : World → Key → ℕ → Option Declaration
declared_at_number w k i = option_and_then (declared_by w k) (slice_get w.own.entries i)

-- the declaration of a type in a module itself
abbrev pub first_declared : Key → World → Option Declaration
first_declared k w = first_some (declared_by w k) w.own.entries

abbrev pub first_class : World → List TypeName → Option Key
first_class w [] = None
first_class w (t ∷ ts) = class_named w t
