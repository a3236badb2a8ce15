-- Names that are taken: at top level, of `typealias`es and associated types, and of generic parameters.
use Rattle.std.specs.Prelude.{◌≡◌, List, [], ◌∷◌, Option, Some, None, if◌then◌else◌}
use Rattle.std.specs.Option.{option_and_then, option_or}
use Rattle.evo_base.specs.declared.place.Place.{Place}
use Rattle.evo_tree.specs.declared.declaration.GenericParameter.{GenericParameter}
use Rattle.evo_names.specs.Listed.{Text, Entry, World, name_of, generics_of, is_top}
use Rattle.evo_names.specs.Meets.{same_name}
use Rattle.evo_names.specs.Heads.{first_some}
use Rattle.evo_names.specs.Faults.{is_module, is_taken, is_alias}

-- a name at top level that is taken
abbrev pub taken_in : World → Entry → Option Place
taken_in w e = if is_top e.within then option_and_then (λ (n : Place × Text). if is_taken w n.1 then Some n.0 else None) (name_of e) else None

-- a `typealias` or an associated type with the name of a module
abbrev pub alias_in : World → Entry → Option Place
alias_in w e = if is_alias e.kind then option_and_then (λ (n : Place × Text). if is_module w n.1 then Some n.0 else None) (name_of e) else None

-- a generic parameter with the name of a module
abbrev pub module_generic : World → GenericParameter → Option Place
module_generic w g = if is_module w g.name.text then Some g.name.place else None

abbrev pub module_generics : World → List GenericParameter → Option Place
module_generics w gs = first_some (module_generic w) gs

-- one that has this one's name
abbrev pub named_as : GenericParameter → GenericParameter → Option Place
named_as g h = if same_name g.name.text h.name.text then Some h.name.place else None

abbrev pub named_again : GenericParameter → List GenericParameter → Option Place
named_again g hs = first_some (named_as g) hs

-- a generic parameter with the name of an earlier one
abbrev pub again_in : List GenericParameter → Option Place
again_in [] = None
again_in (g ∷ gs) = option_or (named_again g gs) (again_in gs)

abbrev pub generics_in : World → List GenericParameter → Option Place
generics_in w gs = option_or (module_generics w gs) (again_in gs)

abbrev pub twice_in : World → Entry → Option Place
twice_in w e = option_or (taken_in w e) (option_or (alias_in w e) (generics_in w (generics_of e.kind)))

-- of a module's declarations
unfoldable pub taken_name : World → Option Place
taken_name w = first_some (twice_in w) w.own.entries
