-- What written bodies do, and whole programs.
use Rattle.std.specs.Prelude.{ℕ, zero, suc, List, [], ◌∷◌, Option, None}
use Rattle.evo_names.specs.Keys.{start_key}
use Rattle.evo_meaning.specs.Values.{Value, nothing}
use Rattle.evo_meaning.specs.Runs.{Stop, out_of_ticks, stuck, Local, State, Outcome, goes, stops, Run, pure, stop, ◌>>=◌, ◌>>◌, tick, or_stuck, self_if_any, within}
use Rattle.evo_meaning.specs.Programs.{MixedProgram, client_side, static_implementation}
use Rattle.evo_meaning.specs.Calls.{Reply, Callee, Context, with_tables}
use Rattle.evo_meaning.specs.Statements.{Completion, normal, returns, breaks, continues, executed_block}

-- the parameters are the variables from 0 on
abbrev pub numbered : ℕ → List Value → List Local
numbered n [] = []
numbered n (value ∷ values) = record { number = n; value = value } ∷ numbered (suc n) values

abbrev pub reply_with : Value → Run Reply
reply_with value = self_if_any >>= (λ self. pure (record { value = value; self = self }))

-- a body that comes to its end has no result
abbrev pub reply : Completion → Run Reply
reply normal = reply_with nothing
reply (returns value) = reply_with value
reply breaks = stop stuck
reply continues = stop stuck

abbrev pub context : ℕ → MixedProgram → Callee → (Callee → Option Value → List Value → Run Reply) → Context
context turns p callee call = record { program = p; side = callee.implementation.side; standing = callee.implementation.standing; tables = callee.tables; turns = turns; call = call }

-- A written body takes one tick and then does what its block does, with variables of its own. The number bounds how deep bodies call one another; where it is no less than the ticks that are left, a tick is wanting before it is met.
unfoldable pub run_body : ℕ → MixedProgram → Callee → Option Value → List Value → Run Reply
run_body zero p callee self arguments = stop out_of_ticks
run_body (suc n) p callee self arguments =
    tick >> within (record { self = self; locals = numbered 0 arguments }) (executed_block (context (suc n) p callee (run_body n p)) callee.implementation.block >>= reply)

pub data End : Type 0 where
  done : End
  ended_by : Stop → End

-- what is printed, and how it ends
pub record Result : Type 0 where
  pub printed : List ℕ
  pub «end» : End

abbrev pub result : {A : Type 0} → Outcome A → Result
result (goes answer s) = record { printed = s.printed; «end» = done }
result (stops reason printed) = record { printed = printed; «end» = ended_by reason }

-- before a program: no variables, no objects, nothing printed
abbrev pub beginning : ℕ → State
beginning ticks = record { store = record { environment = record { self = None; locals = [] }; heap = [] }; ticks = ticks; printed = [] }

-- the client's top level, where bodies call one another no deeper than this
abbrev pub top_level : ℕ → MixedProgram → Run Reply
top_level bound p = or_stuck (static_implementation p client_side start_key) >>= (λ f. run_body bound p (with_tables [] f) None [])

-- A program with n ticks. Each body takes a tick, so they call one another no deeper.
unfoldable pub run : MixedProgram → ℕ → Result
run p ticks = result (top_level ticks p (beginning ticks))
