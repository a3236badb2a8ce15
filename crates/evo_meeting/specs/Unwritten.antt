-- The initialiser that a struct has without writing it, as it is sought.
use Rattle.std.specs.Prelude.{◌≡◌, List, Bool, ◌&&◌, ◌||◌, filter, flat_map, if◌then◌else◌, []}
use Rattle.std.specs.List.{list_any}
use Rattle.evo_names.specs.Listed.{Text, Entry, Listing, is_initialiser, is_interface, sort_of, stands_in_braces, stored_by}

abbrev pub is_written : Text → Entry → Bool
is_written n e = stands_in_braces n e.within && is_initialiser (sort_of e.kind)

abbrev pub any_written : Text → List Entry → Bool
any_written n es = list_any (is_written n) es

abbrev pub stored_at : Text → Entry → List Text
stored_at n e = if stands_in_braces n e.within then stored_by e.kind else []

abbrev pub stored : Text → List Entry → List Text
stored n es = flat_map (stored_at n) es

-- an interface writes its initialisers, and so may the struct
abbrev pub has_none : Listing → Text → Bool
has_none m n = is_interface m.form || any_written n m.entries
