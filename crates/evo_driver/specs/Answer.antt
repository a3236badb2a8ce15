-- What a job answers: the bytes on its two sinks and its status.
use Rattle.std.specs.Prelude.{◌≡◌, ℕ, List, [], ◌∷◌, ◌++◌, codes, Option}
use Rattle.std.specs.Fmt.{decimal}
use Rattle.evo_base.specs.FaultText.{text_of}
use Rattle.evo_base.specs.States.{FilesState}
use Rattle.evo_tree.specs.declared.module.SourceFault.{SourceFault}
use Rattle.evo_first_form.specs.declared.Function.{Function}
use Rattle.evo_first_form.specs.declared.Client.{Client}
use Rattle.evo_first_form.specs.Interface.{interface_of}
use Rattle.evo_first_form.specs.Rules.{report_of}
use Rattle.evo_first_code.specs.Meaning.{Ran, Ending, done, spent, stuck, run_of}
use Rattle.evo_words.specs.declared.words.Job.{Job}
use Rattle.evo_words.specs.Words.{IsEvolve}
use Rattle.evo_driver.specs.declared.status.Status.{Status}
use Rattle.evo_driver.specs.declared.status.Status.TheVariants as status
use Rattle.evo_driver.specs.declared.stop.Input.{Input}
use Rattle.evo_driver.specs.declared.stop.Refusal.{Refusal}
use Rattle.evo_driver.specs.declared.stop.Refusal.TheVariants as refusal
use Rattle.evo_driver.specs.Files.{Accepts, Breaks, Refuses, Reaches, name_of}

pub record Answer : Type 0 where
  pub out : List ℕ
  pub err : List ℕ
  pub status : Status

abbrev pub words_answer : Answer
words_answer = record { out = []; err = codes "words not understood\n"; status = status.NotUnderstood }

-- what stands behind the name of a file with this fault: its line, its column and its text
unfoldable pub fault_text : SourceFault → List ℕ
fault_text fault = codes ":" ++ (decimal fault.place.line ++ (codes ":" ++ (decimal fault.place.col ++ (codes ": " ++ (text_of fault.kind ++ codes "\n")))))

-- the answer on a file of this name with which something is wrong
abbrev pub refused_answer : Refusal → List ℕ → Answer
refused_answer refusal.TooLong name = record { out = []; err = name ++ codes ": file too long\n"; status = status.TooLong }
refused_answer (refusal.Source fault) name = record { out = []; err = name ++ fault_text fault; status = status.NotAccepted }
refused_answer refusal.InterfaceTooLong name = record { out = []; err = name ++ codes ": interface too long\n"; status = status.TooLong }

-- the answer with this report
abbrev pub report_answer : List ℕ → Answer
report_answer report = record { out = report; err = []; status = status.BreaksRules }

abbrev pub unread_answer : List ℕ → Answer
unread_answer name = record { out = []; err = codes "cannot read " ++ (name ++ 10 ∷ []); status = status.NotRead }

-- the answer of a run: what it prints, and how it ends; a run that is stuck has none
abbrev pub EndsWith : List ℕ → Ending → Answer → Type 0
EndsWith out done a = a ≡ record { out = out; err = []; status = status.Done }
EndsWith out spent a = a ≡ record { out = out; err = codes "out of ticks\n"; status = status.OutOfTicks }
EndsWith out stuck a = ⊥

abbrev pub AnswersRun : Ran → Answer → Type 0
AnswersRun ran a = EndsWith ran.out ran.ending a

-- What the words and the files ask for, where nothing fails. The run is that of the client's source, with the new library's functions and the old bodies that the client copied.
pub data Answers (words : List (List ℕ)) (held : List ℕ → Option (List ℕ)) : Answer → Type 0 where
  no_command : ((job : Job) → IsEvolve words job → ⊥) → Answers words held words_answer
  refused : (job : Job) (at : Input) (why : Refusal) → IsEvolve words job → Refuses held job at why → Answers words held (refused_answer why (name_of job at))
  broken : (job : Job) (old new : List Function) → IsEvolve words job → Breaks held job old new → Answers words held (report_answer (report_of (interface_of job.library old) (interface_of job.library new)))
  ran : (job : Job) (old new : List Function) (client : Client) (a : Answer) → IsEvolve words job → Accepts held job old new client → AnswersRun (run_of (record { old = (interface_of job.library old).functions; new = new }) client.prints job.ticks) a → Answers words held a

-- what is written where a file is not read
pub record Unread (words : List (List ℕ)) (files : FilesState) (a : Answer) : Type 0 where
  pub job : Job
  pub at : Input
  pub asks : IsEvolve words job
  pub reaches : Reaches files.held job at
  pub may_fail : files.gets (name_of job at) → ⊥
  pub is : a ≡ unread_answer (name_of job at)
