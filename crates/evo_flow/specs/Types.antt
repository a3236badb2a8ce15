-- The types that resolved expressions bear.
use Rattle.std.specs.Prelude.{List, [], ◌∷◌, Bool, true, false}
use Rattle.evo_tree.specs.declared.expression.PrefixOperator.{PrefixOperator}
use Rattle.evo_tree.specs.declared.expression.PrefixOperator.TheVariants as sign
use Rattle.evo_resolved.specs.declared.resolved_type.RType.{RType}
use Rattle.evo_resolved.specs.declared.resolved_type.RType.TheVariants as ty
use Rattle.evo_resolved.specs.declared.expression.RExpr.{RExpr, RExpr-F, out-RExpr}
use Rattle.evo_resolved.specs.declared.expression.RExpr.TheOpen as r
use Rattle.evo_resolved.specs.declared.expression.RMember.{RMember, RMember-F, out-RMember}
use Rattle.evo_names.specs.Typing.{int, bool, literal_type}

abbrev pub has_value : RType → Bool
has_value ty.NoValue = false
has_value t = true

abbrev pub signed : PrefixOperator → RType
signed sign.Minus = int
signed sign.Not = bool

abbrev pub member_level : RMember-F RExpr RMember → RType
member_level (RMember-F.Property u) = u.ty
member_level (RMember-F.Called a) = a.0.ty
member_level (RMember-F.Mutated ss a) = a.0.ty

abbrev pub member_type : RMember → RType
member_type m = member_level (out-RMember m)

-- behind the last member
abbrev pub last_type : RType → List RMember → RType
last_type t [] = t
last_type t (m ∷ ms) = last_type (member_type m) ms

abbrev pub type_level : RExpr-F RExpr RMember → RType
type_level (r.Literal l) = literal_type l
type_level (r.Local p n t) = t
type_level (r.SelfValue p t) = t
type_level (r.Upcast b t) = t
type_level (r.Prefix o b) = signed o
type_level (r.Chain b os t) = t
type_level (r.Members b ms) = last_type ty.NoValue ms
type_level (r.Mutate v ss a) = a.0.ty
type_level (r.Case a) = a.0.ty
type_level (r.New a) = a.0.ty
type_level (r.Call a) = a.0.ty
type_level (r.Super a) = a.0.ty
type_level (r.Builtin p b bs) = ty.NoValue

abbrev pub type_of : RExpr → RType
type_of b = type_level (out-RExpr b)
