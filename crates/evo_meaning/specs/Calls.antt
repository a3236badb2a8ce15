-- Calls, properties, places and new values: what uses of declarations do.
use Rattle.std.specs.Prelude.{ℕ, List, [], ◌∷◌, Option, Some, None, slice_get}
use Rattle.std.specs.Option.{option_map, option_and_then}
use Rattle.evo_base.specs.declared.key.Key.{Key}
use Rattle.evo_tree.specs.declared.declaration.NominalKind.TheVariants as nominal
use Rattle.evo_resolved.specs.declared.declaration.Standing.{Standing}
use Rattle.evo_resolved.specs.declared.declaration.Standing.TheVariants as standing
use Rattle.evo_resolved.specs.declared.expression.Reach.{Reach}
use Rattle.evo_resolved.specs.declared.expression.Reach.TheVariants as reach
use Rattle.evo_resolved.specs.declared.expression.RUse.{RUse}
use Rattle.evo_resolved.specs.declared.expression.Variable.{Variable}
use Rattle.evo_resolved.specs.declared.expression.Variable.TheVariants as variable
use Rattle.evo_names.specs.Keys.{getter_key, setter_key}
use Rattle.evo_meaning.specs.Values.{Value, struct, object, nothing, no_field, value_at, with_field, fields_of}
use Rattle.evo_meaning.specs.Runs.{stuck, Run, pure, stop, ◌>>=◌, ◌>>◌, or_stuck, local, set_local, self_value, set_self, new_object, object_at, set_object}
use Rattle.evo_meaning.specs.Programs.{Side, MixedProgram, side_of, superclass, Implementation, static_implementation, own_implementation, dispatched_implementation, tables_of, Witness, by_member, by_default, witness, Initialiser, written, memberwise, initialiser, Access, in_place, by_accessor, access}
use Rattle.evo_meaning.specs.Operators.{as_object}

-- what a body gives back: its result, and `self` as it is then
pub record Reply : Type 0 where
  pub value : Value
  pub self : Option Value

-- a body that is to run, and the tables that it is given for the conformances that its signature requires
pub record Callee : Type 0 where
  pub implementation : Implementation
  pub tables : List Key

-- where a tree stands, and what runs the bodies that it calls
pub record Context : Type 0 where
  pub program : MixedProgram
  pub side : Side
  -- what the declaration of the body stands in
  pub standing : Standing
  -- the tables that the body was given
  pub tables : List Key
  -- no loop makes more turns; there are always more than ticks
  pub turns : ℕ
  -- it runs a body with its `self` and these arguments
  pub call : Callee → Option Value → List Value → Run Reply

abbrev pub result_of : Reply → Run Value
result_of reply = pure reply.value

abbrev pub self_of : Reply → Run Value
self_of reply = or_stuck reply.self

abbrev pub with_tables : List Key → Implementation → Callee
with_tables tables f = record { implementation = f; tables = tables }

-- ---- calls

abbrev pub class_of : Option Value → Run Key
class_of self = or_stuck self >>= as_object >>= object_at >>= (λ o. pure o.class)

-- by the class of the object
abbrev pub dispatched : Context → Key → Option Value → Run Callee
dispatched c root self = class_of self >>= (λ class. or_stuck (option_map (with_tables []) (dispatched_implementation c.program (Some class) root)))

-- The body that meets a requirement. A default is given the table itself, which is that of its `Self`.
abbrev pub witness_callee : Context → Key → Option Value → Witness → Run Callee
witness_callee c table self (by_member member reach.Static) = or_stuck (option_map (with_tables []) (own_implementation c.program member))
witness_callee c table self (by_member member reach.Dispatched) = dispatched c member self
witness_callee c table self (by_member member reach.Witness) = stop stuck
witness_callee c table self (by_default member) = or_stuck (option_map (with_tables (table ∷ [])) (own_implementation c.program member))

-- the tables that a use hands on, in the order of its paths
abbrev pub tables_for : Context → RUse → Run (List Key)
tables_for c u = or_stuck (tables_of c.program c.tables u.paths)

-- the table of `Self`
abbrev pub first_table : Context → RUse → Run Key
first_table c u = tables_for c u >>= (λ tables. or_stuck (slice_get tables 0))

abbrev pub callee_by : Context → RUse → Option Value → Reach → Run Callee
callee_by c u self reach.Static = tables_for c u >>= (λ tables. or_stuck (option_map (with_tables tables) (static_implementation c.program c.side u.key)))
callee_by c u self reach.Dispatched = dispatched c u.key self
callee_by c u self reach.Witness = first_table c u >>= (λ table. or_stuck (witness c.program table u.key) >>= witness_callee c table self)

-- a call with its `self`, if any, and these arguments
abbrev pub called : Context → RUse → Option Value → List Value → Run Reply
called c u self arguments = callee_by c u self u.reach >>= (λ callee. c.call callee self arguments)

abbrev pub type_round : Standing → Option Key
type_round (standing.Braces k type) = Some type
type_round (standing.Extension k type) = Some type
type_round standing.TopLevel = None

-- `super.m(..)`: from the superclass of the class in which the calling body stands
abbrev pub called_above : Context → RUse → Value → List Value → Run Reply
called_above c u self arguments =
    or_stuck (option_map (with_tables []) (dispatched_implementation c.program (option_and_then (superclass c.program) (type_round c.standing)) u.key)) >>= (λ callee. c.call callee (Some self) arguments)

-- ---- properties

abbrev pub witness_access : Context → (Key → Key) → Key → Witness → Option Access
witness_access c accessor table (by_member member reach) = access c.program (side_of c.program member) (accessor member) member []
witness_access c accessor table (by_default member) = option_map (λ f. by_accessor f (table ∷ [])) (own_implementation c.program (accessor member))

-- how the property of a use is read or set
abbrev pub access_by : Context → (Key → Key) → RUse → Reach → Run Access
access_by c accessor u reach.Witness = first_table c u >>= (λ table. or_stuck (option_and_then (witness_access c accessor table) (witness c.program table u.key)))
access_by c accessor u _ = tables_for c u >>= (λ tables. or_stuck (access c.program c.side (accessor u.key) u.key tables))

-- what a stored property of a struct or of an object holds
abbrev pub field_of : Key → Value → Run Value
field_of key (struct fields) = or_stuck (value_at fields key)
field_of key (object n) = object_at n >>= (λ o. or_stuck (value_at o.fields key))
field_of key _ = stop stuck

-- the struct with another value there, or the object, which then holds it
abbrev pub field_set : Key → Value → Value → Run Value
field_set key new (struct fields) = pure (struct (with_field fields key new))
field_set key new (object n) = object_at n >>= (λ o. set_object n (record { class = o.class; fields = with_field o.fields key new })) >> pure (object n)
field_set key new _ = stop stuck

abbrev pub read_by : Context → Value → Access → Run Value
read_by c value (in_place key) = field_of key value
read_by c value (by_accessor f tables) = c.call (with_tables tables f) (Some value) [] >>= result_of

abbrev pub set_by : Context → Value → Value → Access → Run Value
set_by c new value (in_place key) = field_set key new value
set_by c new value (by_accessor f tables) = c.call (with_tables tables f) (Some value) (new ∷ []) >>= self_of

-- the property of a value
abbrev pub get : Context → RUse → Value → Run Value
get c u value = access_by c getter_key u u.reach >>= read_by c value

-- the value with a new value of its property
abbrev pub set : Context → RUse → Value → Value → Run Value
set c u new value = access_by c setter_key u u.reach >>= set_by c new value

-- ---- places

-- A change of what these properties of a value lead to, with its result: the getters outwards from the value, the change, then the setters back.
abbrev pub updated : Context → List RUse → (Value → Run Reply) → Value → Run Reply
updated c [] change value = change value
updated c (step ∷ steps) change value =
    get c step value >>= (λ inner. updated c steps change inner >>= (λ reply. self_of reply >>= (λ new. set c step new value >>= (λ whole. pure (record { value = reply.value; self = Some whole })))))

abbrev pub changed_to : Value → Reply
changed_to value = record { value = nothing; self = Some value }

-- the same where a value is put there: what was there is not read
abbrev pub replaced : Context → List RUse → Value → Value → Run Reply
replaced c [] new value = pure (changed_to new)
replaced c (step ∷ []) new value = set c step new value >>= (λ whole. pure (changed_to whole))
replaced c (step ∷ next ∷ steps) new value =
    get c step value >>= (λ inner. replaced c (next ∷ steps) new inner >>= (λ reply. self_of reply >>= (λ changed. set c step changed value >>= (λ whole. pure (changed_to whole)))))

abbrev pub variable_value : Variable → Run Value
variable_value (variable.Local n) = local n
variable_value variable.SelfValue = self_value

abbrev pub set_variable : Variable → Value → Run (Unit {0})
set_variable (variable.Local n) value = set_local n value
set_variable variable.SelfValue value = set_self value

-- a change of a variable, with its result
abbrev pub changed_variable : Variable → (Value → Run Reply) → Run Value
changed_variable x change = variable_value x >>= change >>= (λ reply. self_of reply >>= set_variable x >> result_of reply)

-- a call that gives its `self` back changed
abbrev pub mutating : Context → RUse → List Value → Value → Run Reply
mutating c u arguments self = called c u (Some self) arguments

-- ---- new values

-- an initialiser with what its `self` is at its beginning
abbrev pub initialised : Context → RUse → Option Value → List Value → Implementation → Run Reply
initialised c u self arguments f = tables_for c u >>= (λ tables. c.call (with_tables tables f) self arguments)

abbrev pub made_from : Context → RUse → Option Value → List Value → Implementation → Run Value
made_from c u self arguments f = initialised c u self arguments f >>= self_of

-- A class has a new object, an enum nothing, and a struct no properties yet. Initialisers are not inherited, so the class is the one in which it stands.
abbrev pub made_in : Context → RUse → List Value → Implementation → Standing → Run Value
made_in c u arguments f (standing.Braces nominal.Class class) = new_object class >>= (λ o. initialised c u (Some o) arguments f >> pure o)
made_in c u arguments f (standing.Braces nominal.Enum type) = made_from c u None arguments f
made_in c u arguments f (standing.Extension nominal.Enum type) = made_from c u None arguments f
made_in c u arguments f _ = made_from c u (Some (struct no_field)) arguments f

abbrev pub made_by : Context → RUse → List Value → Initialiser → Run Value
made_by c u arguments (written f) = made_in c u arguments f f.standing
made_by c u arguments (memberwise properties) = or_stuck (option_map struct (fields_of properties arguments))

abbrev pub made : Context → RUse → List Value → Run Value
made c u arguments = or_stuck (initialiser c.program c.side u.key) >>= made_by c u arguments

-- `super.init(..)`: an initialiser of the superclass, on the same object
abbrev pub initialised_above : Context → RUse → List Value → Value → Run Reply
initialised_above c u arguments self = or_stuck (static_implementation c.program c.side u.key) >>= initialised c u (Some self) arguments
