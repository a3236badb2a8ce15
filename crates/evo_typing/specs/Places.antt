-- Values with members on their way, and the place to which members lead.
use Rattle.std.specs.Prelude.{Bool, true, false, List, [], ◌∷◌, ◌++◌, Option, Some, None}
use Rattle.evo_resolved.specs.declared.resolved_type.RType.{RType}
use Rattle.evo_resolved.specs.declared.resolved_type.RTypeName.{RTypeName}
use Rattle.evo_resolved.specs.declared.expression.RUse.{RUse}
use Rattle.evo_resolved.specs.declared.expression.Variable.{Variable}
use Rattle.evo_resolved.specs.declared.expression.Variable.TheVariants as variable
use Rattle.evo_resolved.specs.declared.expression.RExpr.{RExpr, RExpr-F, out-RExpr}
use Rattle.evo_resolved.specs.declared.expression.RExpr.TheOpen as r
use Rattle.evo_resolved.specs.declared.expression.RExpr.TheVariants as x
use Rattle.evo_resolved.specs.declared.expression.RMember.{RMember, RMember-F, out-RMember}
use Rattle.evo_resolved.specs.declared.expression.RMember.TheVariants as y
use Rattle.evo_typing.specs.Shapes.{Declared, Scope, Env, Denoted, value, names}
use Rattle.evo_typing.specs.Trees.{type_of, member_type, mutable_number}
use Rattle.evo_typing.specs.Typed.{Typed, TypedMembers}

-- ---- chains of members

-- so far: a value with members, or a type
pub data Chain : Type 0 where
  at_value : RExpr → List RMember → Chain
  at_type : RTypeName → Chain

abbrev pub chained : RExpr → List RMember → RExpr
chained b [] = b
chained b (m ∷ ms) = x.Members b (m ∷ ms)

abbrev pub denoted : Chain → Denoted
denoted (at_value b ms) = value (chained b ms)
denoted (at_type t) = names t

abbrev pub begun : Denoted → Chain
begun (value b) = at_value b []
begun (names t) = at_type t

abbrev pub TypedChain : Declared → Scope → Chain → Type 0
TypedChain d c (at_value b ms) = Typed d c b × TypedMembers d c (type_of b) ms
TypedChain d c (at_type t) = Unit {0}

-- ---- places

-- where a place begins, and the properties behind that: at a variable, or at the object behind so many of the members
pub data Root : Type 0 where
  -- nothing here can be set
  lost : Root
  from_variable : Variable → List RUse → Root
  from_object : List RMember → List RUse → Root

abbrev pub variable_if : Bool → Variable → Root
variable_if true v = from_variable v []
variable_if false v = lost

abbrev pub may_set : Env → Variable → Bool
may_set env (variable.Local n) = mutable_number env.locals n
may_set env variable.SelfValue = env.names.mutable_self

abbrev pub start_level : Env → RExpr-F RExpr RMember → Root
start_level env (r.Local p n t) = variable_if (may_set env (variable.Local n)) (variable.Local n)
start_level env (r.SelfValue p t) = variable_if (may_set env variable.SelfValue) variable.SelfValue
start_level env b = lost

abbrev pub object_if : Bool → List RMember → Root → Root
object_if true done s = from_object done []
object_if false done s = s

-- a property leads on, a call leads nowhere
abbrev pub step_on : Root → RMember-F RExpr RMember → Root
step_on (from_variable v ss) (RMember-F.Property s) = from_variable v (ss ++ s ∷ [])
step_on (from_object done ss) (RMember-F.Property s) = from_object done (ss ++ s ∷ [])
step_on s m = lost

-- The root is the longest beginning, short of the whole, whose type is a class: the place begins anew at each.
abbrev pub root_from : Declared → RType → List RMember → Root → List RMember → Root
root_from d v done s [] = s
root_from d v done s (m ∷ ms) = root_from d (member_type m) (done ++ m ∷ []) (step_on (object_if (d.is_class v) done s) (out-RMember m)) ms

-- the place to which members of a value lead
abbrev pub root_of : Env → RExpr → List RMember → Root
root_of env b ms = root_from env.declared (type_of b) [] (start_level env (out-RExpr b)) ms

abbrev pub steps_of : Root → List RUse
steps_of lost = []
steps_of (from_variable v ss) = ss
steps_of (from_object done ss) = ss

-- a call of a mutating function on that place
abbrev pub mutated : RExpr → Root → RUse × List RExpr → Option Chain
mutated b lost a = None
mutated b (from_variable v ss) a = Some (at_value (x.Mutate v ss a) [])
mutated b (from_object done ss) a = Some (at_value b (done ++ y.Mutated ss a ∷ []))
