-- The values of programs. There are no offsets, tags, words or tables in them.
use Rattle.std.specs.Prelude.{ℕ, ℤ, Bool, List, [], ◌∷◌, Option, Some, None, if◌then◌else◌}
use Rattle.std.specs.Option.{option_map}
use Rattle.evo_base.specs.declared.key.Key.{Key}
use Rattle.evo_meaning.specs.Keys.{same_key}

mutual
  pub data Value : Type 0 where
    -- an `Int`
    int : ℤ → Value
    -- a `Bool`
    truth : Bool → Value
    -- a `String`, by its bytes in UTF-8
    text : List ℕ → Value
    -- a struct: what each of its stored properties holds
    struct : Fields → Value
    -- an enum: which case it is, and the values of its payload by their places
    enum : Key → Payload → Value
    -- an object, by its number
    object : ℕ → Value
    -- what is given where there is no result
    nothing : Value

  -- a map from the keys of stored properties; a key names the declaring type and the property
  pub data Fields : Type 0 where
    no_field : Fields
    field : Key → Value → Fields → Fields

  pub data Payload : Type 0 where
    no_more : Payload
    then_value : Value → Payload → Payload

-- what a stored property holds
abbrev pub value_at : Fields → Key → Option Value
value_at no_field key = None
value_at (field other value rest) key = if same_key other key then Some value else value_at rest key

-- the same, but that this property holds a new value, whether it had one or not
abbrev pub with_field : Fields → Key → Value → Fields
with_field no_field key new = field key new no_field
with_field (field other value rest) key new = if same_key other key then field other new rest else field other value (with_field rest key new)

-- properties with their values, where there are as many of both
abbrev pub fields_of : List Key → List Value → Option Fields
fields_of [] [] = Some no_field
fields_of [] (value ∷ values) = None
fields_of (key ∷ keys) [] = None
fields_of (key ∷ keys) (value ∷ values) = option_map (field key value) (fields_of keys values)

abbrev pub payload_of : List Value → Payload
payload_of [] = no_more
payload_of (value ∷ values) = then_value value (payload_of values)

abbrev pub payload_values : Payload → List Value
payload_values no_more = []
payload_values (then_value value rest) = value ∷ payload_values rest
