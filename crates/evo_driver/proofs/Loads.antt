-- What a file that is not loaded says of the job.
use Rattle.std.proofs.Common.{◌≡◌, ℕ, List, [], Option, sym, ◌∙◌, ap, subst}
use Rattle.evo_base.specs.States.{FilesState}
use Rattle.evo_first_form.specs.declared.Interface.{Interface}
use Rattle.evo_first_form.specs.declared.Function.{Function}
use Rattle.evo_first_form.specs.Interface.{interface_of}
use Rattle.evo_first_form.specs.Rules.{BreaksNoRule, removed, removed_lines, report_of}
use Rattle.evo_words.specs.declared.words.Job.{Job}
use Rattle.evo_driver.specs.declared.stop.Input.{Input}
use Rattle.evo_driver.specs.declared.stop.Refusal.{Refusal}
use Rattle.evo_driver.specs.declared.stop.Refusal.TheVariants as refusal
use Rattle.evo_driver.specs.declared.stop.LoadError.{LoadError}
use Rattle.evo_driver.specs.declared.stop.LoadError.TheVariants as stop
use Rattle.evo_driver.specs.Files.{Holds, HoldsBoth, Refuses, Reaches, name_of, IsWrongLibrary, IsWrongClient}
use Rattle.evo_words.specs.Words.{IsEvolve}
use Rattle.evo_driver.specs.Answer.{Answer, Answers, report_answer}
use Rattle.evo_driver.specs.Answer.Answers.{broken}
use Rattle.evo_driver.specs.Loading.{LacksFile, LacksNames, Stops, IsWrongText}

-- a text that is too long is no library and no client
pub no_library : (held : Option (List ℕ)) (library : List ℕ) (why : Refusal) → IsWrongText held why → Holds held (IsWrongLibrary library why)
no_library held library refusal.TooLong h = h
no_library held library (refusal.Source fault) h = absurd h
no_library held library refusal.InterfaceTooLong h = absurd h

pub no_client : (held : Option (List ℕ)) (interface : Interface) (why : Refusal) → IsWrongText held why → Holds held (IsWrongClient interface why)
no_client held interface refusal.TooLong h = h
no_client held interface (refusal.Source fault) h = absurd h
no_client held interface refusal.InterfaceTooLong h = absurd h

-- why a text is not had is why what it is to be is not had
pub lacks_as : (wrong more : Refusal → Type 0) (name : List ℕ) (at : Input) (old new : FilesState) → ((why : Refusal) → wrong why → more why)
    → (e : LoadError) → LacksFile wrong name at old new e → LacksFile more name at old new e
lacks_as wrong more name at old new so (stop.Refused which why) r = (r.0, r.1, so why r.2)
lacks_as wrong more name at old new so (stop.NotRead which) r = r
lacks_as wrong more name at old new so (stop.Broken names) r = r
lacks_as wrong more name at old new so stop.Memory r = r

-- rules over equal interfaces
pub keeps_of : (i j i' j' : Interface) → i ≡ i' → j ≡ j' → BreaksNoRule i j → BreaksNoRule i' j'
keeps_of i j i' j' p q h = subst (λ (x : Interface). BreaksNoRule x j') p (subst (BreaksNoRule i) q h)

-- names that were removed, where there are any
pub broken_names : (held : List ℕ → Option (List ℕ)) (job : Job) (old new : List Function) (i j : Interface) (names : List (List ℕ)) → HoldsBoth held job old new
    → i ≡ interface_of job.library old → j ≡ interface_of job.library new → names ≡ removed i j → (names ≡ [] → ⊥) → LacksNames held job names
broken_names held job old new i j names both p q are some =
    let is : names ≡ removed (interface_of job.library old) (interface_of job.library new) = are ∙ ap (λ (x : Interface). removed x j) p ∙ ap (removed (interface_of job.library old)) q in
    record { old = old; new = new; breaks = record { both = both; broken = λ none. some (is ∙ none) }; names_are = is }

-- why a file is not had is why the job's files are not run, where the job comes to this file
pub stops_at : (wrong : Refusal → Type 0) (job : Job) (at : Input) (old mid new : FilesState)
    → mid.faults ≡ old.faults → Reaches old.held job at → (old.gets (name_of job at) → mid.gets (name_of job at)) → ((why : Refusal) → wrong why → Refuses old.held job at why)
    → (e : LoadError) → LacksFile wrong (name_of job at) at mid new e → Stops job old new e
stops_at wrong job at old mid new stands reaches grows refuses (stop.Refused which why) r = (r.0 ∙ stands, subst (λ (w : Input). Refuses old.held job w why) (sym r.1) (refuses why r.2))
stops_at wrong job at old mid new stands reaches grows refuses (stop.NotRead which) r = (rw (← stands) r.0, r.1, subst (Reaches old.held job) (sym r.2) reaches, λ h. r.3 (grows (subst (λ (w : Input). old.gets (name_of job w)) r.2 h)))
stops_at wrong job at old mid new stands reaches grows refuses (stop.Broken names) r = absurd r
stops_at wrong job at old mid new stands reaches grows refuses stop.Memory r = r ∙ stands

-- the answer where names were removed
pub answers_broken : (words : List (List ℕ)) (held : List ℕ → Option (List ℕ)) (job : Job) (names listed : List (List ℕ)) → IsEvolve words job → LacksNames held job names → listed ≡ names
    → (a : Answer) → a ≡ report_answer (removed_lines job.library listed) → Answers words held a
answers_broken words held job names listed is lacks same a e =
    let lines : removed_lines job.library listed ≡ report_of (interface_of job.library lacks.old) (interface_of job.library lacks.new) = ap (removed_lines job.library) (same ∙ lacks.names_are) in
    subst (Answers words held) (sym (e ∙ ap report_answer lines)) (broken job lacks.old lacks.new is lacks.breaks)
