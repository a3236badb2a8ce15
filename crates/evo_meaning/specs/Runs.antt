-- What a part of a program does: to the variables, to the objects, to the ticks that are left, and to what is printed.
use Rattle.std.specs.Prelude.{ℕ, zero, suc, List, [], ◌∷◌, ◌++◌, length, Option, Some, None, ◌==◌, if◌then◌else◌, slice_get, slice_set}
use Rattle.std.specs.Option.{option_map}
use Rattle.evo_base.specs.declared.key.Key.{Key}
use Rattle.evo_meaning.specs.Values.{Value, Fields, no_field}

pub data Trap : Type 0 where
  overflow : Trap
  divide : Trap
  precondition : Trap
  fatal : Trap

-- why a run goes no further
pub data Stop : Type 0 where
  trapped : Trap → Stop
  -- a tick is wanted, and none is left
  out_of_ticks : Stop
  -- something that is sought is not there
  stuck : Stop

pub record Object : Type 0 where
  pub class : Key
  -- what its stored properties hold, and those of the classes above
  pub fields : Fields

-- a parameter or local, by its number
pub record Local : Type 0 where
  pub number : ℕ
  pub value : Value

-- the variables of a body
pub record Environment : Type 0 where
  -- nothing in what has none, and in an initialiser of an enum that has not set it yet
  pub self : Option Value
  pub locals : List Local

pub record Store : Type 0 where
  pub environment : Environment
  -- the objects; the number of each is its place in the list, from 0
  pub heap : List Object

pub record State : Type 0 where
  pub store : Store
  -- the ticks that are left
  pub ticks : ℕ
  -- the bytes that were printed
  pub printed : List ℕ

-- it goes on with an answer, or stops
pub data Outcome (A : Type 0) : Type 0 where
  goes : A → State → Outcome A
  stops : Stop → List ℕ → Outcome A

abbrev pub Run : Type 0 → Type 0
Run A = State → Outcome A

-- ---- the six things of which all runs are made

-- it does nothing but to answer
abbrev pub pure : {A : Type 0} → A → Run A
pure answer = λ s. goes answer s

abbrev pub stop : {A : Type 0} → Stop → Run A
stop reason = λ s. stops reason s.printed

abbrev pub go_on : {A B : Type 0} → Outcome A → (A → Run B) → Outcome B
go_on (goes answer s) next = next answer s
go_on (stops reason printed) next = stops reason printed

-- one behind the other; the second gets what the first answers
infixl 10 ◌>>=◌
unfoldable pub ◌>>=◌ : {A B : Type 0} → Run A → (A → Run B) → Run B
first >>= next = λ s. go_on (first s) next

abbrev pub with_store : {A : Type 0} → Option (A × Store) → State → Outcome A
with_store None s = stops stuck s.printed
with_store (Some change) s = goes change.0 (record { store = change.1; ticks = s.ticks; printed = s.printed })

-- an answer and a new store, where there are
unfoldable pub on_store : {A : Type 0} → (Store → Option (A × Store)) → Run A
on_store change = λ s. with_store (change s.store) s

abbrev pub ticked : ℕ → State → Outcome (Unit {0})
ticked zero s = stops out_of_ticks s.printed
ticked (suc n) s = goes tt (record { store = s.store; ticks = n; printed = s.printed })

-- it takes a tick
unfoldable pub tick : Run (Unit {0})
tick = λ s. ticked s.ticks s

-- it prints
unfoldable pub write : List ℕ → Run (Unit {0})
write bytes = λ s. goes tt (record { store = s.store; ticks = s.ticks; printed = s.printed ++ bytes })

-- ---- what is made of them

infixl 10 ◌>>◌
abbrev pub ◌>>◌ : {A B : Type 0} → Run A → Run B → Run B
first >> second = first >>= (λ _. second)

-- what may not be there
abbrev pub or_stuck : {A : Type 0} → Option A → Run A
or_stuck None = stop stuck
or_stuck (Some answer) = pure answer

-- the answers of all, from left to right
abbrev pub each : {A : Type 0} → List (Run A) → Run (List A)
each [] = pure []
each (run ∷ runs) = run >>= (λ answer. each runs >>= (λ answers. pure (answer ∷ answers)))

-- ---- variables

abbrev pub local_in : List Local → ℕ → Option Value
local_in [] n = None
local_in (l ∷ ls) n = if l.number == n then Some l.value else local_in ls n

abbrev pub with_local : List Local → ℕ → Value → List Local
with_local [] n value = record { number = n; value = value } ∷ []
with_local (l ∷ ls) n value = if l.number == n then record { number = n; value = value } ∷ ls else l ∷ with_local ls n value

abbrev pub local : ℕ → Run Value
local n = on_store (λ st. option_map (λ value. (value, st)) (local_in st.environment.locals n))

abbrev pub set_local : ℕ → Value → Run (Unit {0})
set_local n value = on_store (λ st. Some (tt, record { environment = record { self = st.environment.self; locals = with_local st.environment.locals n value }; heap = st.heap }))

abbrev pub set_locals : List Local → Run (Unit {0})
set_locals [] = pure tt
set_locals (l ∷ ls) = set_local l.number l.value >> set_locals ls

abbrev pub self_value : Run Value
self_value = on_store (λ st. option_map (λ value. (value, st)) st.environment.self)

abbrev pub self_if_any : Run (Option Value)
self_if_any = on_store (λ st. Some (st.environment.self, st))

abbrev pub set_self : Value → Run (Unit {0})
set_self value = on_store (λ st. Some (tt, record { environment = record { self = Some value; locals = st.environment.locals }; heap = st.heap }))

-- it answers the variables that were
abbrev pub set_environment : Environment → Run Environment
set_environment environment = on_store (λ st. Some (st.environment, record { environment = environment; heap = st.heap }))

-- with variables of its own; behind it the old ones are back
abbrev pub within : {A : Type 0} → Environment → Run A → Run A
within environment run = set_environment environment >>= (λ old. run >>= (λ answer. set_environment old >> pure answer))

-- ---- objects

-- a new one without a value in any property
abbrev pub new_object : Key → Run Value
new_object class = on_store (λ st. Some (Value.object (length st.heap), record { environment = st.environment; heap = st.heap ++ record { class = class; fields = no_field } ∷ [] }))

abbrev pub object_at : ℕ → Run Object
object_at n = on_store (λ st. option_map (λ object. (object, st)) (slice_get st.heap n))

abbrev pub set_object : ℕ → Object → Run (Unit {0})
set_object n object = on_store (λ st. Some (tt, record { environment = st.environment; heap = slice_set st.heap n object }))
