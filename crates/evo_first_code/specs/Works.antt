-- What an old client does with every new library that breaks no rule.
use Rattle.std.specs.Prelude.{◌≡◌, ◌≤◌, ℕ, List, [], ◌∷◌, ◌++◌, length, Bool, true, false, ◌&&◌, slice_get, Some, IsSome, if◌then◌else◌}
use Rattle.std.specs.List.{list_all}
use Rattle.std.specs.Str.{bytes_eq}
use Rattle.evo_base.specs.Names.{position_of, AreDistinct}
use Rattle.evo_first_form.specs.declared.Function.{Function as Declared}
use Rattle.evo_first_form.specs.declared.Declaration.{Declaration}
use Rattle.evo_first_form.specs.declared.Client.{Client}
use Rattle.evo_first_form.specs.declared.Print.{Print}
use Rattle.evo_first_form.specs.declared.Interface.{Interface}
use Rattle.evo_first_form.specs.declared.Term.{Term}
use Rattle.evo_first_form.specs.Copies.{copied_body}
use Rattle.evo_first_form.specs.Facts.{TermFacts}
use Rattle.evo_first_form.specs.Interface.{interface_of}
use Rattle.evo_first_form.specs.Accepted.{IsAcceptedLibrary}
use Rattle.evo_first_form.specs.Rules.{BreaksNoRule}
use Rattle.evo_copies.specs.Reach.{AreCopies}
use Rattle.evo_code.specs.declared.instr.Instr.{Instr}
use Rattle.evo_code.specs.declared.instr.Instr.TheVariants as Op
use Rattle.evo_code.specs.declared.object.Function.{Function}
use Rattle.evo_code.specs.declared.object.Level.TheVariants as level
use Rattle.evo_code.specs.declared.object.Import.{Import}
use Rattle.evo_code.specs.declared.object.ImportKind.{ImportKind}
use Rattle.evo_code.specs.declared.object.ImportKind.TheVariants as kind
use Rattle.evo_code.specs.declared.object.Object.{Object}
use Rattle.evo_code.specs.declared.image.Image.{Image}
use Rattle.evo_code.specs.Layouts.{most_words}
use Rattle.evo_execution.specs.declared.end.End.TheVariants.{Done, Budget}
use Rattle.evo_execution.specs.Tables.{symbols_of, start_symbol}
use Rattle.evo_execution.specs.Execution.{Executes}
use Rattle.evo_execution.specs.Loaded.{IsLoaded}
use Rattle.evo_first_code.specs.Meaning.{Ran, Ending, done, spent, stuck, run_of}
use Rattle.evo_first_code.specs.Objects.{library_object, client_object, most_terms}

-- ---- runs

-- the image's run prints and ends so; nothing stands for a run that is stuck
abbrev pub EndsResult : Image → ℕ → List ℕ → Ending → Type 0
EndsResult image ticks out done = Executes image ticks (record { out = out; ending = Done })
EndsResult image ticks out spent = Executes image ticks (record { out = out; ending = Budget })
EndsResult image ticks out stuck = ⊥

abbrev pub DoesResult : Image → ℕ → Ran → Type 0
DoesResult image ticks ran = EndsResult image ticks ran.out ran.ending

-- ---- objects

-- each body that clients copy is a term whose integers a word can hold
abbrev pub HaveFacts : List Declaration → Type 0
HaveFacts declarations = (name : List ℕ) (body : Term) → copied_body declarations name ≡ Some body → TermFacts body

-- the object of a client that was built from an interface: its copies of the functions that it reaches, and its top level, in which each value has a slot
pub record IsClientObject (old : Interface) (prints : List Print) (object : Object) : Type 0 where
  pub copies : List (List ℕ)
  pub reached : AreCopies old.functions prints copies
  pub fits : most_terms prints ≤ most_words
  pub is : object ≡ client_object old.name old.functions prints copies

-- an instruction that goes on at the next one, or leaves
abbrev pub is_straight : Instr → Bool
is_straight (Op.Jump target) = false
is_straight (Op.Unless test target) = false
is_straight i = true

-- a function that begins with a tick, and has no jump
pub record IsTimed (f : Function) : Type 0 where
  pub level_is : f.level ≡ level.Timed
  pub begins : slice_get f.code 0 ≡ Some Op.Tick
  pub straight : list_all is_straight f.code ≡ true

abbrev pub AreTimed : List Function → Type 0
AreTimed [] = Unit {0}
AreTimed (f ∷ fs) = IsTimed f × AreTimed fs

-- ---- linking

-- the image of functions of which so many are the library's
abbrev pub image_of : List Function → ℕ → Image
image_of functions library = record { functions = functions; library = library; sizes = []; classes = []; conformances = [] }

-- what two objects of functions define together: the library's functions and then the client's
abbrev pub linked : Object → Object → Image
linked library client = image_of (library.functions ++ client.functions) (length library.functions)

-- whether there is a function with this symbol that other objects may call
abbrev pub exports : List Function → List ℕ → Bool
exports [] symbol = false
exports (f ∷ fs) symbol = if bytes_eq symbol f.symbol then f.exported else exports fs symbol

abbrev pub is_function : ImportKind → Bool
is_function kind.Function = true
is_function k = false

-- whether an import is one of these functions
abbrev pub is_exported : List Function → Import → Bool
is_exported functions i = is_function i.kind && exports functions i.symbol

-- each of these imports is exported
abbrev pub AreExported : List Function → List Import → Type 0
AreExported functions [] = Unit {0}
AreExported functions (i ∷ is) = (is_exported functions i ≡ true) × AreExported functions is

-- Nothing is defined twice, there is a top level, the image may be run, and what either object needs the other exports.
pub record LinksWith (library client : Object) : Type 0 where
  pub distinct : AreDistinct (symbols_of (linked library client).functions)
  pub starts : IsSome (position_of start_symbol (symbols_of (linked library client).functions))
  pub loads : IsLoaded (linked library client)
  pub library_needs : AreExported client.functions library.imports
  pub client_needs : AreExported library.functions client.imports

-- For every new library that is accepted and breaks no rule against the interface that the client was built from, its object links
-- with the client's, and for every number of ticks the image prints and ends as the client's source does with the new library's
-- functions and the old bodies that it copied.
abbrev pub WorksWithEvery : Interface → Client → Object → Type 0
WorksWithEvery old client object =
    (functions : List Declared) → IsAcceptedLibrary old.name functions → BreaksNoRule old (interface_of old.name functions)
    → LinksWith (library_object old.name functions) object
    × ((ticks : ℕ) → DoesResult (linked (library_object old.name functions) object) ticks (run_of (record { old = old.functions; new = functions }) client.prints ticks))
