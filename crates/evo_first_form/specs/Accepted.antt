-- Which libraries, interfaces and clients are accepted.
use Rattle.std.specs.Prelude.{◌≡◌, ◌≤◌, ℕ, List, [], ◌∷◌, codes, length, IsSome, Bool, false, ◌||◌}
use Rattle.std.specs.List.{list_any}
use Rattle.std.specs.Str.{bytes_eq}
use Rattle.evo_base.specs.Names.{position_of, AreDistinct}
use Rattle.evo_first_form.specs.declared.Access.{Access}
use Rattle.evo_first_form.specs.declared.Access.TheVariants.{Internal, Public, Inlinable}
use Rattle.evo_first_form.specs.declared.Function.{Function}
use Rattle.evo_first_form.specs.declared.Declaration.{Declaration}
use Rattle.evo_first_form.specs.declared.Client.{Client}
use Rattle.evo_first_form.specs.declared.Interface.{Interface}
use Rattle.evo_first_form.specs.Interface.{names_of, declared_names, declarations_of}
use Rattle.evo_first_form.specs.Calls.{calls_of, calls_of_term, calls_of_body}

-- the names that no declaration at top level has, besides the module's own
abbrev pub taken_names : List (List ℕ)
taken_names = codes "Swift" ∷ codes "Int" ∷ codes "Bool" ∷ codes "String" ∷ codes "print" ∷ codes "precondition" ∷ codes "fatalError" ∷ []

abbrev pub is_taken : List ℕ → List ℕ → Bool
is_taken library name = bytes_eq name library || list_any (λ t. bytes_eq name t) taken_names

-- none of these names is taken
abbrev pub AreFree : List ℕ → List (List ℕ) → Type 0
AreFree library [] = Unit {0}
AreFree library (name ∷ names) = (is_taken library name ≡ false) × AreFree library names

-- each of the second names is among the first
abbrev pub AreKnown : List (List ℕ) → List (List ℕ) → Type 0
AreKnown names [] = Unit {0}
AreKnown names (called ∷ calls) = IsSome (position_of called names) × AreKnown names calls

-- what the body of a function may call: that of an inlinable one what clients see, any other all of the library
abbrev pub callable : Access → List Function → List (List ℕ)
callable Internal library = names_of library
callable Public library = names_of library
callable Inlinable library = declared_names (declarations_of library)

-- each body calls what it may call
abbrev pub AreBodiesKnown : List Function → List Function → Type 0
AreBodiesKnown library [] = Unit {0}
AreBodiesKnown library (f ∷ fs) = AreKnown (callable f.access library) (calls_of_term f.body) × AreBodiesKnown library fs

-- the most declarations of a module
abbrev pub most_declarations : ℕ
most_declarations = 4096

pub record IsAcceptedLibrary (library : List ℕ) (functions : List Function) : Type 0 where
  pub few : length functions ≤ most_declarations
  pub free : AreFree library (names_of functions)
  pub distinct : AreDistinct (names_of functions)
  pub bodies : AreBodiesKnown functions functions

-- each body that clients may copy calls what is declared
abbrev pub AreCopiesKnown : List (List ℕ) → List Declaration → Type 0
AreCopiesKnown names [] = Unit {0}
AreCopiesKnown names (d ∷ ds) = AreKnown names (calls_of_body d.body) × AreCopiesKnown names ds

pub record IsAcceptedInterface (interface : Interface) : Type 0 where
  pub distinct : AreDistinct (declared_names interface.functions)
  pub bodies : AreCopiesKnown (declared_names interface.functions) interface.functions

pub record IsAcceptedClient (interface : Interface) (client : Client) : Type 0 where
  pub import_is : client.import ≡ interface.name
  pub known : AreKnown (declared_names interface.functions) (calls_of client.prints)
