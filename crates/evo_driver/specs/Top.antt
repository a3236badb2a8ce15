-- What the top call leaves, by its status.
use Rattle.std.specs.Prelude.{◌≡◌, ◌<◌, ◌⊎◌, ℕ, List, [], codes, length, true, Option, Some, None, Result, Ok, Err}
use Rattle.evo_base.specs.Causes.{CountRose}
use Rattle.evo_base.specs.Content.{Appends}
use Rattle.evo_base.specs.States.{FilesState, SinkState}
use Rattle.evo_execution.specs.declared.end.End.{End}
use Rattle.evo_execution.specs.declared.end.End.TheVariants as ending
use Rattle.evo_runs.specs.Runs.{MachineState}
use Rattle.evo_driver.specs.declared.status.Status.{Status}
use Rattle.evo_driver.specs.declared.status.Status.TheVariants as status
use Rattle.evo_driver.specs.declared.reply.ReplyError.{ReplyError}
use Rattle.evo_driver.specs.declared.reply.ReplyError.TheVariants as halt
use Rattle.evo_driver.specs.declared.reply.Reply.{Reply}
use Rattle.evo_driver.specs.Answer.{Answer, Answers, Unread}

-- The answer to the words and the files. The count of their failed calls rose only where a file was not read, and that read was the last call.
abbrev pub Means : List (List ℕ) → FilesState → FilesState → Answer → Type 0
Means words old new a = (Answers words old.held a × (new.faults ≡ old.faults)) ⊎ (Unread words old a × CountRose old.faults new.faults × (new.failed ≡ true))

-- a fact for each status but those of a failed write and of want of memory
abbrev pub OnAnswer : Status → Type 0 → Type 0
OnAnswer status.NotWritten P = Unit {0}
OnAnswer status.Memory P = Unit {0}
OnAnswer status.Done P = P
OnAnswer status.OutOfTicks P = P
OnAnswer status.NotUnderstood P = P
OnAnswer status.NotAccepted P = P
OnAnswer status.BreaksRules P = P
OnAnswer status.NotRead P = P
OnAnswer status.TooLong P = P

-- these bytes stand behind what was written, and no write failed
pub record Receives (old new : SinkState) (bytes : List ℕ) : Type 0 where
  pub written : Appends old.written new.written bytes
  pub faultless : new.faults ≡ old.faults

-- Of these bytes, of which there are some, a write failed that could, and it was the last call on its sink.
pub record Fails (old new : SinkState) (bytes : List ℕ) : Type 0 where
  pub some : 0 < length bytes
  pub rose : CountRose old.faults new.faults
  pub could : old.takes (length bytes) → ⊥
  pub last : new.failed ≡ true

-- a finished machine with this end
abbrev pub HasEnd : Option MachineState → End → Type 0
HasEnd None end = ⊥
HasEnd (Some m) end = m.finished ≡ Some (Ok end)

-- the machine that is left
abbrev pub Leaves : Status → Option MachineState → Type 0
Leaves status.Done bench = HasEnd bench ending.Done
Leaves status.OutOfTicks bench = HasEnd bench ending.Budget
Leaves status.NotUnderstood bench = bench ≡ None
Leaves status.NotAccepted bench = bench ≡ None
Leaves status.BreaksRules bench = bench ≡ None
Leaves status.NotRead bench = bench ≡ None
Leaves status.NotWritten bench = bench ≡ None
Leaves status.Memory bench = bench ≡ None
Leaves status.TooLong bench = bench ≡ None

-- an end that is neither a trap nor a fault of the machine
abbrev pub IsNoFault : End → Type 0
IsNoFault ending.Done = Unit {0}
IsNoFault ending.Budget = Unit {0}
IsNoFault (ending.Trap kind) = ⊥
IsNoFault (ending.Fault kind function at) = ⊥

-- a reply with the text and the status of an answer, and the machine that its status asks for
pub record Replies (a : Answer) (reply : Reply) : Type 0 where
  pub text : reply.text.items ≡ a.err
  pub status_is : reply.status ≡ a.status
  pub bench : Leaves reply.status reply.bench

-- a reply to a run with this end
abbrev pub EndsResult : End → Reply → Type 0
EndsResult ending.Done reply = Replies (record { out = []; err = []; status = status.Done }) reply
EndsResult ending.Budget reply = Replies (record { out = []; err = codes "out of ticks\n"; status = status.OutOfTicks }) reply
EndsResult (ending.Trap kind) reply = ⊥
EndsResult (ending.Fault kind function at) reply = ⊥

-- What a job gives before its text on `err` is written: means is the fact that an answer is the job's, old and new are the states of `out`.
abbrev pub GivesResult : (Answer → Type 0) → SinkState → SinkState → Result Reply ReplyError → Type 0
GivesResult means old new (Ok reply) = (a : Answer) × means a × Replies a reply × Receives old new a.out
GivesResult means old new (Err halt.NotWritten) = (a : Answer) × means a × Fails old new a.out
GivesResult means old new (Err halt.Memory) = Unit {0}

-- what writing these bytes to `out` answers, a piece after another
abbrev pub WritesAll : List ℕ → SinkState → SinkState → Result (Unit {0}) ReplyError → Type 0
WritesAll bytes old new (Ok x) = Receives old new bytes
WritesAll bytes old new (Err halt.NotWritten) = Fails old new bytes
WritesAll bytes old new (Err halt.Memory) = Unit {0}
