-- What loading the files of a job answers.
use Rattle.std.specs.Prelude.{◌≡◌, ◌+◌, ◌<◌, ◌≤◌, ℕ, List, length, Option, true, Result, Ok, Err}
use Rattle.evo_base.specs.Causes.{CountRose}
use Rattle.evo_base.specs.Content.{ReadsUpTo}
use Rattle.evo_base.specs.States.{FilesState}
use Rattle.evo_first_form.specs.declared.Function.{Function}
use Rattle.evo_first_form.specs.Interface.{interface_of}
use Rattle.evo_first_form.specs.Accepted.{IsAcceptedLibrary, IsAcceptedInterface, IsAcceptedClient}
use Rattle.evo_first_form.specs.Facts.{LibraryFacts, ClientFacts}
use Rattle.evo_first_form.specs.Rules.{BreaksNoRule, removed}
use Rattle.evo_front.specs.declared.library.AcceptedLibrary.{AcceptedLibrary}
use Rattle.evo_front.specs.Texts.{file_limit}
use Rattle.evo_code.specs.declared.image.Image.{Image}
use Rattle.evo_first_code.specs.Meaning.{Ran, run_of}
use Rattle.evo_first_code.specs.Works.{HaveFacts, DoesResult}
use Rattle.evo_words.specs.declared.words.Job.{Job}
use Rattle.evo_driver.specs.declared.stop.Input.{Input}
use Rattle.evo_driver.specs.declared.stop.Refusal.{Refusal}
use Rattle.evo_driver.specs.declared.stop.Refusal.TheVariants as refusal
use Rattle.evo_driver.specs.declared.stop.LoadError.{LoadError}
use Rattle.evo_driver.specs.declared.stop.LoadError.TheVariants as stop
use Rattle.evo_driver.specs.declared.load.Libraries.{Libraries}
use Rattle.evo_driver.specs.declared.load.Loaded.{Loaded}
use Rattle.evo_driver.specs.Files.{Holds, HoldsLibrary, Passes, Breaks, Accepts, Refuses, Reaches, name_of}

-- why the file of this name is not had
abbrev pub LacksFile : (Refusal → Type 0) → List ℕ → Input → FilesState → FilesState → LoadError → Type 0
LacksFile wrong name at old new (stop.Refused which why) = (new.faults ≡ old.faults) × (which ≡ at) × wrong why
LacksFile wrong name at old new (stop.NotRead which) = CountRose old.faults new.faults × (new.failed ≡ true) × (which ≡ at) × (old.gets name → ⊥)
LacksFile wrong name at old new (stop.Broken names) = ⊥
LacksFile wrong name at old new stop.Memory = new.faults ≡ old.faults

-- the file of this name: what it holds, or why it is not had
abbrev pub ReadsAs : {T : Type 0} → (T → Type 0) → (Refusal → Type 0) → List ℕ → Input → FilesState → FilesState → Result T LoadError → Type 0
ReadsAs holds wrong name at old new (Ok x) = (new.faults ≡ old.faults) × holds x
ReadsAs holds wrong name at old new (Err e) = LacksFile wrong name at old new e

-- the whole text of a file, which is not too long
abbrev pub IsShortText : Option (List ℕ) → List ℕ → Type 0
IsShortText held text = ReadsUpTo held (file_limit + 1) text × (length text ≤ file_limit)

-- a text of which no more is known than that it is too long
abbrev pub IsWrongText : Option (List ℕ) → Refusal → Type 0
IsWrongText held refusal.TooLong = Holds held (λ text. file_limit < length text)
IsWrongText held (refusal.Source fault) = ⊥
IsWrongText held refusal.InterfaceTooLong = ⊥

-- a library with its interface
pub record IsLibraryOf (held : Option (List ℕ)) (library : List ℕ) (found : AcceptedLibrary) : Type 0 where
  pub holds : HoldsLibrary held library found.functions
  pub interface_is : found.interface ≡ interface_of library found.functions
  pub accepted : IsAcceptedInterface found.interface

-- the functions that were removed, where there are any
pub record LacksNames (held : List ℕ → Option (List ℕ)) (job : Job) (names : List (List ℕ)) : Type 0 where
  pub old : List Function
  pub new : List Function
  pub breaks : Breaks held job old new
  pub names_are : names ≡ removed (interface_of job.library old) (interface_of job.library new)

-- both libraries pass: the old one's interface and the new one's functions
pub record HasLibraries (held : List ℕ → Option (List ℕ)) (job : Job) (found : Libraries) : Type 0 where
  pub old : List Function
  pub passes : Passes held job old found.functions
  pub interface_is : found.interface ≡ interface_of job.library old
  pub accepted : IsAcceptedInterface found.interface

-- all three files are accepted
pub record HasAll (held : List ℕ → Option (List ℕ)) (job : Job) (found : Loaded) : Type 0 where
  pub old : List Function
  pub accepts : Accepts held job old found.libraries.functions found.client
  pub interface_is : found.libraries.interface ≡ interface_of job.library old
  pub accepted : IsAcceptedInterface found.libraries.interface

-- why a job's files are not run
abbrev pub Stops : Job → FilesState → FilesState → LoadError → Type 0
Stops job old new (stop.Refused at why) = (new.faults ≡ old.faults) × Refuses old.held job at why
Stops job old new (stop.NotRead at) = CountRose old.faults new.faults × (new.failed ≡ true) × Reaches old.held job at × (old.gets (name_of job at) → ⊥)
Stops job old new (stop.Broken names) = (new.faults ≡ old.faults) × LacksNames old.held job names
Stops job old new stop.Memory = new.faults ≡ old.faults

-- both libraries, or why the job's files are not run
abbrev pub LoadsLibraries : Job → FilesState → FilesState → Result Libraries LoadError → Type 0
LoadsLibraries job old new (Ok found) = (new.faults ≡ old.faults) × HasLibraries old.held job found
LoadsLibraries job old new (Err e) = Stops job old new e

-- all that is run, or why the job's files are not run
abbrev pub LoadsAs : Job → FilesState → FilesState → Result Loaded LoadError → Type 0
LoadsAs job old new (Ok found) = (new.faults ≡ old.faults) × HasAll old.held job found
LoadsAs job old new (Err e) = Stops job old new e

-- what was loaded can be built: the client is the interface's, and the new library breaks no rule against it
pub record Builds (loaded : Loaded) : Type 0 where
  pub interface : IsAcceptedInterface loaded.libraries.interface
  pub client : IsAcceptedClient loaded.libraries.interface loaded.client
  pub library : IsAcceptedLibrary loaded.libraries.interface.name loaded.libraries.functions
  pub bodies : HaveFacts loaded.libraries.interface.functions
  pub prints : ClientFacts loaded.client
  pub functions : LibraryFacts loaded.libraries.functions
  pub keeps : BreaksNoRule loaded.libraries.interface (interface_of loaded.libraries.interface.name loaded.libraries.functions)

-- the run of the client's source with the new library's functions and the old bodies that it copied
abbrev pub run_with : Loaded → ℕ → Ran
run_with loaded ticks = run_of (record { old = loaded.libraries.interface.functions; new = loaded.libraries.functions }) loaded.client.prints ticks

-- the image does what the client's source does, for every number of ticks
abbrev pub IsBuiltFrom : Loaded → Image → Type 0
IsBuiltFrom loaded image = (ticks : ℕ) → DoesResult image ticks (run_with loaded ticks)
