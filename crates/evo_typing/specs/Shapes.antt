-- What typing sees: the declarations by key, what types stand for, and what names find. Each is a relation, whose one answer another part of the checker gives.
use Rattle.std.specs.Prelude.{◌≡◌, ℕ, Bool, true, List, ◌∷◌, Option, Result, ◌⊎◌}
use Rattle.evo_base.specs.declared.key.Key.{Key}
use Rattle.evo_base.specs.declared.fault_kind.FaultKind.{FaultKind}
use Rattle.evo_tree.specs.declared.expression.InfixOperator.{InfixOperator}
use Rattle.evo_resolved.specs.declared.resolved_type.RType.{RType}
use Rattle.evo_resolved.specs.declared.resolved_type.RType.TheVariants as ty
use Rattle.evo_resolved.specs.declared.resolved_type.RTypeName.{RTypeName}
use Rattle.evo_resolved.specs.declared.path.ConfPath.{ConfPath}
use Rattle.evo_resolved.specs.declared.declaration.Signature.{Signature}
use Rattle.evo_resolved.specs.declared.expression.Reach.{Reach}
use Rattle.evo_resolved.specs.declared.expression.Builtin.{Builtin}
use Rattle.evo_resolved.specs.declared.expression.RExpr.{RExpr}
use Rattle.evo_names.specs.Listed.{Text}

-- ---- declarations

-- what a declaration is a member of
pub data Owner : Type 0 where
  nowhere : Owner
  of_type : Key → Owner
  of_protocol : Key → Owner

-- what a use of a function, an initialiser, a case or a property has to fit
pub record Shape : Type 0 where
  pub owner : Owner
  pub signature : Signature
  -- the conformances that it requires, in the order of the table words
  pub required : List (RType × Key)
  -- the types that it requires to be the same
  pub equal : List (RType × RType)
  pub params : List RType
  pub result : RType
  pub mutates : Bool
  pub settable : Bool
  pub reach : Reach

-- the declarations, by key, and what types are in the body
pub record Declared : Type 1 where
  pub shape : Key → Shape → Type 0
  -- what a type of a signature stands for, where these types take the place of its parameters
  pub stands : Signature → List RType → RType → RType → Type 0
  -- the path leads to the conformance of the type to the protocol
  pub leads : ConfPath → RType → Key → Type 0
  -- the first class stands properly above the second
  pub above : Key → Key → Bool
  pub is_class : RType → Bool
  -- the type of what an operator gives for operands of these types
  pub operated : InfixOperator → RType → RType → Option RType

-- what is the same in all of a body
pub record Scope : Type 0 where
  pub self : Option RType
  -- those of parameters and locals, by their numbers
  pub locals : List RType

-- ---- what names find

-- a parameter or a local that is in scope
pub record Local : Type 0 where
  pub name : Text
  pub number : ℕ
  pub type : RType
  pub mutable : Bool

-- A declaration that a search finds. `given` has what `Self` stands for, where it is a member of a protocol; `available` says that it may be used here.
pub record Found : Type 0 where
  pub key : Key
  pub shape : Shape
  pub given : List RType
  pub available : Bool

-- what the name of a type means, and the `typealias`es that it meets
pub record Written : Type 0 where
  pub aliases : List Key
  pub type : RType

-- what needs no value before it
pub data Named : Type 0 where
  case : Found → Named
  -- a function at top level, or a static one
  free : Found → Named
  new : Found → Written → Named
  -- and whether it may be used here
  type : Written → Bool → Named

-- what a name means that stands alone
pub data Meaning : Type 0 where
  local : Local → Meaning
  -- a member of `self`
  own : Found → Meaning
  named : Named → Meaning
  builtin : Builtin → Meaning

-- The searches of a body. Where nothing is found the kind of fault says why. A call gives its labels.
pub record Names : Type 1 where
  pub name : Text → Option (List Text) → Result Meaning FaultKind → Type 0
  -- of a value of the type
  pub member : RType → Text → Option (List Text) → Result Found FaultKind → Type 0
  -- behind the name of a type
  pub inner : RTypeName → Text → Option (List Text) → Result Named FaultKind → Type 0
  -- with nothing before the dot, where the type is expected
  pub implicit : RType → Text → Option (List Text) → Result Named FaultKind → Type 0
  -- above the class of `self`
  pub upper : Text → List Text → Result Found FaultKind → Type 0
  pub shape : Key → Option Shape → Type 0
  pub stands : Signature → List RType → RType → Option RType → Type 0
  pub path : RType → Key → Option ConfPath → Type 0
  -- `self` may be set
  pub mutable_self : Bool
  -- what `Self` means
  pub self_type : Option RType

-- what an expression sees
pub record Env : Type 1 where
  pub declared : Declared
  pub scope : Scope
  pub names : Names
  -- in the order of their declaration
  pub locals : List Local

-- what an expression denotes: a value, or a type
pub data Denoted : Type 0 where
  value : RExpr → Denoted
  names : RTypeName → Denoted

-- ---- what is before a member

pub data Before : Type 0 where
  nothing : Before
  before : RType → Before
  -- `super`, where `self` has the type
  super : RType → Before

-- a type is the class of the key, or one below it
abbrev pub Below : Declared → Key → RType → Type 0
Below d k v = (v ≡ ty.Named k) ⊎ ((c : Key) × (v ≡ ty.Named c) × (d.above k c ≡ true))

abbrev pub BelongsTo : Declared → Owner → List RType → RType → Type 0
BelongsTo d nowhere ts v = ⊥
BelongsTo d (of_type k) ts v = Below d k v
BelongsTo d (of_protocol p) ts v = (rest : List RType) × (ts ≡ v ∷ rest)

-- Whether a member suits what is before it: a value of its type or of a class below, or of the type that takes the place of `Self`; `super` where it stands above the class.
abbrev pub Suits : Declared → Owner → List RType → Before → Type 0
Suits d o ts nothing = Unit {0}
Suits d o ts (before v) = BelongsTo d o ts v
Suits d o ts (super v) = (k c : Key) × (o ≡ of_type k) × (v ≡ ty.Named c) × (d.above k c ≡ true)
