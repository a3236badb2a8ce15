-- What names begin with, part by part.
use Rattle.std.specs.Prelude.{ℕ, ◌+◌, List, [], ◌∷◌, Option, Some, None, Bool, true, false, not, ◌&&◌, if◌then◌else◌}
use Rattle.std.specs.Option.{option_and_then, option_map, option_or}
use Rattle.std.specs.Str.{bytes_eq}
use Rattle.evo_tree.specs.declared.declaration.GenericParameter.{GenericParameter}
use Rattle.evo_members.specs.declared.located.Around.{Around}
use Rattle.evo_members.specs.declared.located.Around.TheVariants as around
use Rattle.evo_names.specs.Listed.{Text, World}
use Rattle.evo_names.specs.Heads.{Head, named, qualified}
use Rattle.evo_names.specs.Written.{Scope, Start, generic, is_some, type_of_head, view}
use Rattle.evo_type_names.specs.declared.beginning.Begun.{Begun}
use Rattle.evo_type_names.specs.Round.{around_found}
use Rattle.evo_type_names.specs.Starts.{start_view}

abbrev pub beginning_view : World → Begun → Start × List Text
beginning_view w b = (start_view w b.start, b.rest.now)

abbrev pub has_self : Around → Bool
has_self (around.InProtocol p s) = true
has_self a = false

-- the number of the first parameter of this name, where the first of all has number `i`
abbrev pub number_from : ℕ → Text → List GenericParameter → Option ℕ
number_from i n [] = None
number_from i n (g ∷ gs) = if bytes_eq n g.name.text then Some i else number_from (i + 1) n gs

-- a generic parameter, or what stands round it
abbrev pub found_nearer : World → Scope → Text → Option Start
found_nearer w s n = option_or (generic s n) (around_found w (view s) s.around n)

abbrev pub module_free_by : Option Start → Option Head → Bool
module_free_by near top = not (is_some near) && not (is_some top)

abbrev pub pair : List Text → Start → Start × List Text
pair ns t = (t, ns)

abbrev pub qualified_by : Option Start → World → Text → List Text → Option (Start × List Text)
qualified_by near home m [] = None
qualified_by near home m (n ∷ ns) = if module_free_by near (named home m) then option_map (pair ns) (option_and_then type_of_head (qualified home m n)) else None

-- from what stands nearer, the top level, and modules
abbrev pub begin_from : Option Start → World → Text → List Text → Option (Start × List Text)
begin_from near home n ns = option_or (option_map (pair ns) (option_or near (option_and_then type_of_head (named home n)))) (qualified_by near home n ns)
