-- The interface of a library.
use Rattle.std.specs.Prelude.{ℕ, List, map, filter, Option, Some, None, Bool, true, false}
use Rattle.evo_first_form.specs.declared.Access.{Access}
use Rattle.evo_first_form.specs.declared.Access.TheVariants.{Internal, Public, Inlinable}
use Rattle.evo_first_form.specs.declared.Term.{Term}
use Rattle.evo_first_form.specs.declared.Function.{Function}
use Rattle.evo_first_form.specs.declared.Declaration.{Declaration}
use Rattle.evo_first_form.specs.declared.Interface.{Interface}

abbrev pub names_of : List Function → List (List ℕ)
names_of functions = map (λ (f : Function). f.name) functions

abbrev pub declared_names : List Declaration → List (List ℕ)
declared_names declarations = map (λ (d : Declaration). d.name) declarations

-- whether clients see a function
abbrev pub is_visible : Access → Bool
is_visible Internal = false
is_visible Public = true
is_visible Inlinable = true

-- the body that clients may copy
abbrev pub kept_body : Access → Term → Option Term
kept_body Internal body = None
kept_body Public body = None
kept_body Inlinable body = Some body

abbrev pub declaration_of : Function → Declaration
declaration_of f = record { name = f.name; body = kept_body f.access f.body }

-- the functions that clients see, in source order, with the bodies that they may copy
abbrev pub declarations_of : List Function → List Declaration
declarations_of functions = map declaration_of (filter (λ (f : Function). is_visible f.access) functions)

abbrev pub interface_of : List ℕ → List Function → Interface
interface_of library functions = record { name = library; functions = declarations_of functions }
