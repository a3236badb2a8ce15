-- What the language says of types: those of literals and operators, what converts, what a generic parameter stands for, and what `print` and its like take.
use Rattle.std.specs.Prelude.{ℕ, List, [], ◌∷◌, Option, Some, None, Bool, true, false, ◌&&◌, ◌||◌, ◌==◌, codes, IsTrue, slice_get, if◌then◌else◌}
use Rattle.std.specs.List.{list_all, position_from}
use Rattle.std.specs.Option.{option_and_then, option_map_or}
use Rattle.evo_base.specs.declared.key.Key.{Key}
use Rattle.evo_base.specs.declared.fault_kind.FaultKind.TheVariants as kind
use Rattle.evo_tree.specs.declared.expression.InfixOperator.{InfixOperator}
use Rattle.evo_tree.specs.declared.expression.InfixOperator.TheVariants as op
use Rattle.evo_tree.specs.declared.expression.PrefixOperator.{PrefixOperator}
use Rattle.evo_tree.specs.declared.expression.PrefixOperator.TheVariants as sign
use Rattle.evo_tree.specs.declared.name.Identifier.{Identifier}
use Rattle.evo_tree.specs.declared.expression.Expr.{Expr, Expr-F, out-Expr}
use Rattle.evo_tree.specs.declared.expression.Expr.TheOpen as ex
use Rattle.evo_tree.specs.declared.statement.AssignmentOperator.{AssignmentOperator}
use Rattle.evo_tree.specs.declared.statement.AssignmentOperator.TheVariants as assignment
use Rattle.evo_tree.specs.declared.statement.Stmt.{Stmt, Stmt-F, out-Stmt}
use Rattle.evo_tree.specs.declared.statement.Stmt.TheOpen as st
use Rattle.evo_tree.specs.declared.statement.Block.{Block}
use Rattle.evo_tree.specs.declared.statement.Clause.{Clause}
use Rattle.evo_tree.specs.declared.declaration.DeclKind.TheOpen as de
use Rattle.evo_resolved.specs.declared.expression.Literal.{Literal}
use Rattle.evo_resolved.specs.declared.expression.Literal.TheVariants as literal
use Rattle.evo_resolved.specs.declared.resolved_type.RType.{RType}
use Rattle.evo_resolved.specs.declared.resolved_type.RType.TheVariants as ty
use Rattle.evo_names.specs.Listed.{World, Declaration, Kind}
use Rattle.evo_names.specs.Meets.{same_name}
use Rattle.evo_names.specs.Seen.{Viewpoint, same_type}
use Rattle.evo_names.specs.Heads.{type_key, is_class, declaration_of, superclass, lineage, is_among}
use Rattle.evo_names.specs.Search.{Receiver, Sought, Found, nothing, member}

-- ---- the types of the language

abbrev pub int_key : Key
int_key = type_key (codes "Swift") (codes "Int")

abbrev pub bool_key : Key
bool_key = type_key (codes "Swift") (codes "Bool")

abbrev pub string_key : Key
string_key = type_key (codes "Swift") (codes "String")

abbrev pub int : RType
int = ty.Named int_key

abbrev pub bool : RType
bool = ty.Named bool_key

abbrev pub string : RType
string = ty.Named string_key

abbrev pub is_named : Key → RType → Bool
is_named k (ty.Named l) = same_type k l
is_named k t = false

abbrev pub is_int : RType → Bool
is_int t = is_named int_key t

abbrev pub is_bool : RType → Bool
is_bool t = is_named bool_key t

abbrev pub is_string : RType → Bool
is_string t = is_named string_key t

-- `Int`, `Bool` or `String`: what `==` compares, and what `print` takes
abbrev pub is_plain : RType → Bool
is_plain t = is_int t || is_bool t || is_string t

-- ---- literals

abbrev pub literal_type : Literal → RType
literal_type (literal.Integer n) = int
literal_type (literal.Boolean b) = bool
literal_type (literal.String s) = string

-- ---- classes and what converts

abbrev pub is_class_kind : Kind → Bool
is_class_kind (de.Nominal k i ts ds) = is_class k
is_class_kind k = false

abbrev pub is_class_key : World → Key → Bool
is_class_key w k = option_map_or (λ (d : Declaration). is_class_kind d.entry.kind) (declaration_of w k) false

abbrev pub is_class_type : World → RType → Bool
is_class_type w (ty.Named k) = is_class_key w k
is_class_type w t = false

-- the classes properly above a class, the nearest first
unfoldable pub ancestors : World → Key → List Key
ancestors w k = option_map_or (lineage w) (superclass w k) []

-- A value of the first type may stand where the second is expected: it has that type, or a class that is below it.
pub data Converts (w : World) : RType → RType → Type 0 where
  itself : {t : RType} → Converts w t t
  upwards : {below above : Key} → IsTrue (is_class_key w below) → IsTrue (is_among above (ancestors w below)) → Converts w (ty.Named below) (ty.Named above)

-- ---- operators

abbrev pub both : (RType → Bool) → RType → RType → Bool
both p t u = p t && p u

abbrev pub when : Bool → RType → Option RType
when true t = Some t
when false t = None

-- one of the operators that compute with `Int` alone
abbrev pub integer_operator : RType → RType → Option RType
integer_operator t u = when (both is_int t u) int

abbrev pub order : RType → RType → Option RType
order t u = when (both is_int t u) bool

abbrev pub equality : RType → RType → Option RType
equality t u = when (both is_int t u || both is_bool t u || both is_string t u) bool

abbrev pub logical : RType → RType → Option RType
logical t u = when (both is_bool t u) bool

-- any two classes, which need not be related
abbrev pub identity : World → RType → RType → Option RType
identity w t u = when (both (is_class_type w) t u) bool

abbrev pub addition : RType → RType → Option RType
addition t u = if both is_string t u then Some string else integer_operator t u

-- the type of what an operator gives for operands of these types; nothing where it takes none such
unfoldable pub infix_type : World → InfixOperator → RType → RType → Option RType
infix_type w op.Or t u = logical t u
infix_type w op.And t u = logical t u
infix_type w op.Equal t u = equality t u
infix_type w op.NotEqual t u = equality t u
infix_type w op.Less t u = order t u
infix_type w op.LessOrEqual t u = order t u
infix_type w op.Greater t u = order t u
infix_type w op.GreaterOrEqual t u = order t u
infix_type w op.Identical t u = identity w t u
infix_type w op.NotIdentical t u = identity w t u
infix_type w op.Add t u = addition t u
infix_type w op.Subtract t u = integer_operator t u
infix_type w op.WrappingAdd t u = integer_operator t u
infix_type w op.WrappingSubtract t u = integer_operator t u
infix_type w op.Multiply t u = integer_operator t u
infix_type w op.WrappingMultiply t u = integer_operator t u
infix_type w op.Divide t u = integer_operator t u
infix_type w op.Remainder t u = integer_operator t u

unfoldable pub prefix_type : PrefixOperator → RType → Option RType
prefix_type sign.Minus t = when (is_int t) int
prefix_type sign.Not t = when (is_bool t) bool

-- Whether an assignment takes a place of the first type and a value of the second. `=` takes what converts.
pub data Assigns (w : World) : AssignmentOperator → RType → RType → Type 0 where
  set : {t u : RType} → Converts w u t → Assigns w assignment.Assign t u
  add : {t u : RType} → IsTrue (both is_int t u || both is_string t u) → Assigns w assignment.Add t u
  subtract : {t u : RType} → IsTrue (both is_int t u) → Assigns w assignment.Subtract t u
  multiply : {t u : RType} → IsTrue (both is_int t u) → Assigns w assignment.Multiply t u
  divide : {t u : RType} → IsTrue (both is_int t u) → Assigns w assignment.Divide t u
  remainder : {t u : RType} → IsTrue (both is_int t u) → Assigns w assignment.Remainder t u

-- ---- generic parameters

abbrev pub same_number : ℕ → ℕ → Bool
same_number n m = n == m

-- this parameter of a signature, whole, and no path behind it
abbrev pub is_whole : ℕ → RType → Bool
is_whole n (ty.Param m) = same_number n m
is_whole n t = false

-- the number of the first parameter of a function whose type is this generic parameter whole: its argument chooses what the generic parameter stands for
unfoldable pub chooser : ℕ → List RType → Option ℕ
chooser n parameters = position_from (is_whole n) 0 parameters

-- What a generic parameter stands for, by the types of parameters and of arguments: that of its argument, as it is before any conversion. Where it has no chooser it is ambiguous.
unfoldable pub chosen : ℕ → List RType → List RType → Option RType
chosen n parameters arguments = option_and_then (slice_get arguments) (chooser n parameters)

-- ---- a name behind a dot with nothing before it

-- it is sought in the type that is expected, as behind that type's name; where none is expected it has the wrong type
unfoldable pub implicit_member : World → Viewpoint → Option Receiver → Sought → Found
implicit_member w v None q = nothing kind.WrongType
implicit_member w v (Some r) q = member w v r (record q { of_type = true })

-- ---- bodies of one expression

abbrev pub expression_of : Stmt-F Stmt Block Clause → Option Expr
expression_of (st.Expr e) = Some e
expression_of s = None

abbrev pub lone_expression : List Stmt → Option Expr
lone_expression [] = None
lone_expression (s ∷ []) = expression_of (out-Stmt s)
lone_expression (s ∷ t ∷ rest) = None

-- a literal string
abbrev pub is_message_level : Expr-F Expr → Bool
is_message_level (ex.String p s) = true
is_message_level e = false

abbrev pub is_message : Expr → Bool
is_message e = is_message_level (out-Expr e)

-- ---- what the functions of the language take

-- `print`: values of these types, any number of them, without labels
abbrev pub is_printed : List RType → Bool
is_printed ts = list_all is_plain ts

-- `precondition`: its one argument is the condition; a literal string may stand behind it, which is never printed
abbrev pub condition_of : List (Option Identifier × Expr) → Option Expr
condition_of ((None, c) ∷ []) = Some c
condition_of ((None, c) ∷ (None, m) ∷ []) = if is_message m then Some c else None
condition_of arguments = None

-- `fatalError`: nothing, or such a string
abbrev pub is_fatal_call : List (Option Identifier × Expr) → Bool
is_fatal_call [] = true
is_fatal_call ((None, m) ∷ []) = is_message m
is_fatal_call arguments = false

abbrev pub fatal_level : Expr-F Expr → Bool
fatal_level (ex.Name n (Some arguments)) = same_name n.text (codes "fatalError") && is_fatal_call arguments
fatal_level e = false

abbrev pub is_fatal : Expr → Bool
is_fatal e = fatal_level (out-Expr e)

-- What a body gives back without `return`: where a result is declared, the one expression of which it is made. A call of the language's `fatalError`, which ends the run, is none.
unfoldable pub given_back : Bool → List Stmt → Option Expr
given_back false ss = None
given_back true ss = option_and_then (λ e. if is_fatal e then None else Some e) (lone_expression ss)
