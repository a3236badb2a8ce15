-- Types and protocols that names find.
use Rattle.std.specs.Prelude.{ℕ, Option, slice_get}
use Rattle.std.specs.Option.{option_map, option_and_then}
use Rattle.evo_declarations.specs.declared.heads.Head.{Head}
use Rattle.evo_declarations.specs.Views.{key_of_type, level_of}
use Rattle.evo_names.specs.Listed.{Text, Entry, Listing}
use Rattle.evo_names.specs.Seen as seen
use Rattle.evo_names.specs.Heads as heads

abbrev pub head_of_code : Head → heads.Head
head_of_code h = record { key = key_of_type h.key; kind = h.kind; level = level_of h.level }

abbrev pub found_head : Option Head → Option heads.Head
found_head o = option_map head_of_code o

-- the declaration of this number, where it is a type or protocol of this name
abbrev pub head_at_number : seen.Viewpoint → Listing → Text → ℕ → Option heads.Head
head_at_number v m n i = option_and_then (λ (e : Entry). heads.head_by v m.name n e e.kind) (slice_get m.entries i)
