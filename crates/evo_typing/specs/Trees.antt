-- The types of resolved trees, and the places, labels and arguments of written ones.
use Rattle.std.specs.Prelude.{ℕ, zero, suc, ◌+◌, ◌==◌, nat_lt, Bool, true, false, not, ◌&&◌, if◌then◌else◌, List, [], ◌∷◌, ◌++◌, length, map, codes, Option, Some, None}
use Rattle.std.specs.Option.{option_map, option_map_or}
use Rattle.evo_base.specs.declared.place.Place.{Place}
use Rattle.evo_tree.specs.declared.name.Identifier.{Identifier}
use Rattle.evo_tree.specs.declared.expression.PrefixOperator.{PrefixOperator}
use Rattle.evo_tree.specs.declared.expression.PrefixOperator.TheVariants as sign
use Rattle.evo_tree.specs.declared.expression.InfixOperator.{InfixOperator}
use Rattle.evo_tree.specs.declared.expression.InfixOperator.TheVariants as op
use Rattle.evo_tree.specs.declared.expression.Expr.{Expr, Expr-F, out-Expr, fold-Expr}
use Rattle.evo_tree.specs.declared.expression.Expr.TheOpen as ex
use Rattle.evo_resolved.specs.declared.resolved_type.RType.{RType}
use Rattle.evo_resolved.specs.declared.resolved_type.RType.TheVariants as ty
use Rattle.evo_resolved.specs.declared.resolved_type.RTypeName.{RTypeName}
use Rattle.evo_resolved.specs.declared.path.ConfPath.{ConfPath}
use Rattle.evo_resolved.specs.declared.expression.RUse.{RUse}
use Rattle.evo_resolved.specs.declared.expression.RExpr.{RExpr, RExpr-F, out-RExpr}
use Rattle.evo_resolved.specs.declared.expression.RExpr.TheOpen as r
use Rattle.evo_resolved.specs.declared.expression.RMember.{RMember, RMember-F, out-RMember}
use Rattle.evo_names.specs.Listed.{Text}
use Rattle.evo_names.specs.Typing.{int, bool, is_int, is_bool, is_string, is_plain, literal_type, chooser, chosen, same_number}
use Rattle.evo_typing.specs.Shapes.{Local, Found, Written, Denoted, value, names}

-- ---- the types of resolved trees

abbrev pub has_value : RType → Bool
has_value ty.NoValue = false
has_value t = true

-- what an operator before its operand gives, and takes
abbrev pub signed : PrefixOperator → RType
signed sign.Minus = int
signed sign.Not = bool

abbrev pub member_level : RMember-F RExpr RMember → RType
member_level (RMember-F.Property u) = u.ty
member_level (RMember-F.Called a) = a.0.ty
member_level (RMember-F.Mutated ss a) = a.0.ty

abbrev pub member_type : RMember → RType
member_type m = member_level (out-RMember m)

-- behind the last member
abbrev pub last_type : RType → List RMember → RType
last_type t [] = t
last_type t (m ∷ ms) = last_type (member_type m) ms

abbrev pub type_level : RExpr-F RExpr RMember → RType
type_level (r.Literal l) = literal_type l
type_level (r.Local p n t) = t
type_level (r.SelfValue p t) = t
type_level (r.Upcast b t) = t
type_level (r.Prefix o b) = signed o
type_level (r.Chain b os t) = t
type_level (r.Members b ms) = last_type ty.NoValue ms
type_level (r.Mutate v ss a) = a.0.ty
type_level (r.Case a) = a.0.ty
type_level (r.New a) = a.0.ty
type_level (r.Call a) = a.0.ty
type_level (r.Super a) = a.0.ty
type_level (r.Builtin p b bs) = ty.NoValue

-- the type that a resolved expression bears
abbrev pub type_of : RExpr → RType
type_of b = type_level (out-RExpr b)

-- ---- operators

-- where no operand decides, the first one is expected to be a truth value, or nothing is
abbrev pub first_expected : InfixOperator → Option RType
first_expected op.Or = Some bool
first_expected op.And = Some bool
first_expected o = None

abbrev pub where_true : Bool → Option RType → Option (Option RType)
where_true true t = Some t
where_true false t = None

-- What is expected behind a left operand of the type; nothing where the operator takes none such. Identity expects nothing.
unfoldable pub right_expected : (RType → Bool) → InfixOperator → RType → Option (Option RType)
right_expected is_class op.Or t = where_true (is_bool t) (Some t)
right_expected is_class op.And t = where_true (is_bool t) (Some t)
right_expected is_class op.Equal t = where_true (is_plain t) (Some t)
right_expected is_class op.NotEqual t = where_true (is_plain t) (Some t)
right_expected is_class op.Less t = where_true (is_int t) (Some t)
right_expected is_class op.LessOrEqual t = where_true (is_int t) (Some t)
right_expected is_class op.Greater t = where_true (is_int t) (Some t)
right_expected is_class op.GreaterOrEqual t = where_true (is_int t) (Some t)
right_expected is_class op.Identical t = where_true (is_class t) None
right_expected is_class op.NotIdentical t = where_true (is_class t) None
right_expected is_class op.Add t = if is_string t then Some (Some t) else where_true (is_int t) (Some t)
right_expected is_class op.Subtract t = where_true (is_int t) (Some t)
right_expected is_class op.WrappingAdd t = where_true (is_int t) (Some t)
right_expected is_class op.WrappingSubtract t = where_true (is_int t) (Some t)
right_expected is_class op.Multiply t = where_true (is_int t) (Some t)
right_expected is_class op.WrappingMultiply t = where_true (is_int t) (Some t)
right_expected is_class op.Divide t = where_true (is_int t) (Some t)
right_expected is_class op.Remainder t = where_true (is_int t) (Some t)

abbrev pub chain_expected : {A : Type 0} → List (InfixOperator × A) → Option RType
chain_expected [] = None
chain_expected (q ∷ os) = first_expected q.0

-- ---- places of written trees

abbrev pub place_level : Expr-F Place → Place
place_level (ex.Integer p n) = p
place_level (ex.Negative p n) = p
place_level (ex.String p s) = p
place_level (ex.Boolean p b) = p
place_level (ex.Name i as') = i.place
place_level (ex.SelfValue p) = p
place_level (ex.SelfType p) = p
place_level (ex.Super p i as') = p
place_level (ex.ImplicitMember p i as') = p
place_level (ex.Parenthesised p q) = p
place_level (ex.Prefix p o q) = p
place_level (ex.Members q ms) = q
place_level (ex.Chain q os) = q

-- the first token
unfoldable pub place_of : Expr → Place
place_of = fold-Expr Place place_level

abbrev pub is_implicit_level : Expr-F Expr → Bool
is_implicit_level (ex.ImplicitMember p i as') = true
is_implicit_level e = false

-- it begins with a dot that has nothing before it
abbrev pub is_implicit : Expr → Bool
is_implicit e = is_implicit_level (out-Expr e)

-- ---- labels and arguments

abbrev pub label_text : Option Identifier → Text
label_text None = codes "_"
label_text (Some i) = i.text

abbrev pub labels : {A : Type 0} → List (Option Identifier × A) → List Text
labels as' = map (λ a. label_text a.0) as'

abbrev pub call_labels : {A : Type 0} → Option (List (Option Identifier × A)) → Option (List Text)
call_labels None = None
call_labels (Some as') = Some (labels as')

abbrev pub given : {A : Type 0} → Option (List A) → List A
given None = []
given (Some as') = as'

-- as many arguments as parameters
abbrev pub even : {A B : Type 0} → List A → List B → Bool
even [] [] = true
even (p ∷ ps) (a ∷ as') = even ps as'
even ps as' = false

-- an argument with its parameter; `chooses` where it chooses a generic parameter
pub record Slot (A : Type 0) : Type 0 where
  pub param : RType
  pub chooses : Bool
  pub arg : A

-- The parameter with this number, of this type, is the first that is a generic parameter whole; those below `first` are given.
abbrev pub is_chooser : ℕ → List RType → ℕ → RType → Bool
is_chooser first all i (ty.Param k) = not (nat_lt k first) && option_map_or (λ j. same_number j i) (chooser k all) false
is_chooser first all i t = false

abbrev pub slots_from : {A : Type 0} → ℕ → List RType → ℕ → List RType → List (Option Identifier × A) → List (Slot A)
slots_from first all i (p ∷ ps) (a ∷ as') = record { param = p; chooses = is_chooser first all i p; arg = a.1 } ∷ slots_from first all (i + 1) ps as'
slots_from first all i ps as' = []

abbrev pub slots : {A : Type 0} → Found → List (Option Identifier × A) → List (Slot A)
slots f as' = slots_from (length f.given) f.shape.params 0 f.shape.params as'

-- of arguments that choose nothing no type is read
abbrev pub own_type : Option RExpr → RType
own_type None = ty.NoValue
own_type (Some b) = type_of b

abbrev pub cons_some : Option RType → Option (List RType) → Option (List RType)
cons_some (Some t) (Some ts) = Some (t ∷ ts)
cons_some t ts = None

-- what so many parameters from `k` on stand for
abbrev pub chosen_from : ℕ → ℕ → List RType → List RType → Option (List RType)
chosen_from zero k params arguments = Some []
chosen_from (suc n) k params arguments = cons_some (chosen k params arguments) (chosen_from n (k + 1) params arguments)

-- what all parameters of the signature stand for: `Self` for what the search gave, the others for what their arguments chose
abbrev pub use_types : Found → List (Option RExpr) → Option (List RType)
use_types f own = option_map (λ ts. f.given ++ ts) (chosen_from (length f.shape.signature.generics) (length f.given) f.shape.params (map own_type own))

abbrev pub paired : {A B : Type 0} → List A → List B → List (A × B)
paired (a ∷ as') (b ∷ bs) = (a, b) ∷ paired as' bs
paired as' bs = []

-- the same parameter, whole or with names behind it
abbrev pub is_of : RType → RType → Bool
is_of (ty.Param k) (ty.Param j) = same_number k j
is_of (ty.Param k) (ty.Assoc j ns) = same_number k j
is_of t u = false

-- where the parameter of a type is chosen
abbrev pub chooser_place : {A : Type 0} → (A → Place) → List (Slot A) → RType → Place → Place
chooser_place at [] t p = p
chooser_place at (s ∷ ss) t p = if s.chooses && is_of s.param t then at s.arg else chooser_place at ss t p

-- a type where it stands: behind the type that is written before it, or alone
abbrev pub type_name : Option RTypeName → Place → Written → RTypeName
type_name None p w = record { place = p; aliases = w.aliases; ty = w.type }
type_name (Some t) p w = record { place = t.place; aliases = t.aliases ++ w.aliases; ty = w.type }

abbrev pub use_of : Found → Option RTypeName → Place → List RType → List ConfPath → RType → RUse
use_of f written p ts qs t = record { place = p; key = f.key; reach = f.shape.reach; written = written; types = ts; paths = qs; ty = t }

-- at most four associated names behind a parameter
abbrev pub is_short : RType → Bool
is_short (ty.Assoc k ns) = nat_lt (length ns) 5
is_short t = true

-- ---- locals

abbrev pub mutable_number : List Local → ℕ → Bool
mutable_number [] n = false
mutable_number (l ∷ ls) n = if l.number == n then l.mutable else mutable_number ls n

abbrev pub plain_of : Denoted → Option RExpr
plain_of (value b) = Some b
plain_of (names t) = None
