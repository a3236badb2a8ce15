-- What operators, literals and the functions of the language itself do with values.
use Rattle.std.specs.Prelude.{ℕ, suc, ◌^◌, ◌-◌, Bool, true, false, not, List, [], ◌∷◌, ◌++◌, Option, Some, None, ◌==◌, ◌&&◌, ℤ, pos, negsuc, ◌+ℤ◌, ◌-ℤ◌, ◌*ℤ◌, neg_ℤ, int_lt, int_le, int_div, int_rem, chars, codes}
use Rattle.std.specs.Option.{option_map, option_and_then}
use Rattle.std.specs.Str.{bytes_eq}
use Rattle.std.specs.Int.{w64, int_wrapping_add, int_wrapping_sub, int_wrapping_mul}
use Rattle.std.specs.Fmt.{decimal}
use Rattle.unicode_normalization.specs.Forms.{nfd}
use Rattle.evo_tree.specs.declared.expression.PrefixOperator.{PrefixOperator}
use Rattle.evo_tree.specs.declared.expression.PrefixOperator.TheVariants as prefix
use Rattle.evo_tree.specs.declared.expression.InfixOperator.{InfixOperator}
use Rattle.evo_tree.specs.declared.expression.InfixOperator.TheVariants as op
use Rattle.evo_tree.specs.declared.statement.AssignmentOperator.{AssignmentOperator}
use Rattle.evo_tree.specs.declared.statement.AssignmentOperator.TheVariants as assignment
use Rattle.evo_resolved.specs.declared.expression.Literal.{Literal}
use Rattle.evo_resolved.specs.declared.expression.Literal.TheVariants as literal
use Rattle.evo_resolved.specs.declared.expression.Builtin.{Builtin}
use Rattle.evo_resolved.specs.declared.expression.Builtin.TheVariants as builtin
use Rattle.evo_meaning.specs.Values.{Value, int, truth, text, object, nothing}
use Rattle.evo_meaning.specs.Runs.{overflow, divide, precondition, fatal, trapped, stuck, Run, pure, stop, ◌>>=◌, ◌>>◌, write, or_stuck}

abbrev pub literal_value : Literal → Value
literal_value (literal.Integer z) = int z
literal_value (literal.Boolean b) = truth b
literal_value (literal.String s) = text s

abbrev pub as_truth : Value → Run Bool
as_truth (truth b) = pure b
as_truth _ = stop stuck

abbrev pub as_object : Value → Run ℕ
as_object (object n) = pure n
as_object _ = stop stuck

-- ---- integers of 64 bits

abbrev pub fits : ℤ → Bool
fits z = int_le (negsuc (2 ^ 63 - 1)) z && int_lt z (pos (2 ^ 63))

abbrev pub integer_where : Bool → ℤ → Run Value
integer_where true z = pure (int z)
integer_where false z = stop (trapped overflow)

-- the exact result, where it is an `Int`
abbrev pub exact : ℤ → Run Value
exact z = integer_where (fits z) z

abbrev pub same_integer : ℤ → ℤ → Bool
same_integer a b = int_le a b && int_le b a

abbrev pub unless_zero : Bool → Run Value → Run Value
unless_zero true run = stop (trapped divide)
unless_zero false run = run

-- Towards zero. The least number by -1 overflows, for the remainder too.
abbrev pub divided : (ℤ → ℤ → ℤ) → ℤ → ℤ → Run Value
divided result a b = unless_zero (same_integer b (pos 0)) (exact (int_div a b) >> pure (int (result a b)))

abbrev pub on_integers : (ℤ → ℤ → Run Value) → Value → Value → Run Value
on_integers f (int a) (int b) = f a b
on_integers f _ _ = stop stuck

abbrev pub compared : (ℤ → ℤ → Bool) → Value → Value → Run Value
compared f = on_integers (λ a b. pure (truth (f a b)))

-- ---- equality

abbrev pub same_truth : Bool → Bool → Bool
same_truth true b = b
same_truth false b = not b

-- by canonical equivalence of Unicode
unfoldable pub same_text : List ℕ → List ℕ → Bool
same_text a b = bytes_eq (nfd (chars a)) (nfd (chars b))

abbrev pub equal : Value → Value → Option Bool
equal (int a) (int b) = Some (same_integer a b)
equal (truth a) (truth b) = Some (same_truth a b)
equal (text a) (text b) = Some (same_text a b)
equal _ _ = None

-- one and the same object
abbrev pub identical : Value → Value → Option Bool
identical (object a) (object b) = Some (a == b)
identical _ _ = None

abbrev pub says : Option Bool → Run Value
says b = or_stuck (option_map truth b)

-- ---- operators

abbrev pub prefixed : PrefixOperator → Value → Run Value
prefixed prefix.Minus (int a) = exact (neg_ℤ a)
prefixed prefix.Not (truth b) = pure (truth (not b))
prefixed _ _ = stop stuck

abbrev pub sum : Value → Value → Run Value
sum (int a) (int b) = exact (a +ℤ b)
sum (text a) (text b) = pure (text (a ++ b))
sum _ _ = stop stuck

-- an operator between two values; `&&` and `||` have none on their right side yet
abbrev pub applied : InfixOperator → Value → Value → Run Value
applied op.Or x y = stop stuck
applied op.And x y = stop stuck
applied op.Equal x y = says (equal x y)
applied op.NotEqual x y = says (option_map not (equal x y))
applied op.Less x y = compared int_lt x y
applied op.LessOrEqual x y = compared int_le x y
applied op.Greater x y = compared (λ a b. int_lt b a) x y
applied op.GreaterOrEqual x y = compared (λ a b. int_le b a) x y
applied op.Identical x y = says (identical x y)
applied op.NotIdentical x y = says (option_map not (identical x y))
applied op.Add x y = sum x y
applied op.Subtract x y = on_integers (λ a b. exact (a -ℤ b)) x y
applied op.WrappingAdd x y = on_integers (λ a b. pure (int (int_wrapping_add w64 a b))) x y
applied op.WrappingSubtract x y = on_integers (λ a b. pure (int (int_wrapping_sub w64 a b))) x y
applied op.Multiply x y = on_integers (λ a b. exact (a *ℤ b)) x y
applied op.Divide x y = on_integers (divided int_div) x y
applied op.Remainder x y = on_integers (divided int_rem) x y
applied op.WrappingMultiply x y = on_integers (λ a b. pure (int (int_wrapping_mul w64 a b))) x y

abbrev pub and_then : Run Value → Bool → Run Value
and_then right true = right
and_then right false = pure (truth false)

abbrev pub or_else : Run Value → Bool → Run Value
or_else right true = pure (truth true)
or_else right false = right

-- an operator behind a value and before an operand, which `&&` and `||` run only where it decides
abbrev pub operated : InfixOperator → Run Value → Value → Run Value
operated op.And right x = as_truth x >>= and_then right
operated op.Or right x = as_truth x >>= or_else right
operated o right x = right >>= (λ y. applied o x y)

-- the operator with which an assignment makes the new value of the old one
abbrev pub assigning : AssignmentOperator → Option InfixOperator
assigning assignment.Assign = None
assigning assignment.Add = Some op.Add
assigning assignment.Subtract = Some op.Subtract
assigning assignment.Multiply = Some op.Multiply
assigning assignment.Divide = Some op.Divide
assigning assignment.Remainder = Some op.Remainder

-- ---- the functions of the language itself

abbrev pub shown_integer : ℤ → List ℕ
shown_integer (pos n) = decimal n
shown_integer (negsuc n) = 45 ∷ decimal (suc n)

-- how a value is printed
abbrev pub shown : Value → Option (List ℕ)
shown (int z) = Some (shown_integer z)
shown (truth true) = Some (codes "true")
shown (truth false) = Some (codes "false")
shown (text s) = Some s
shown _ = None

-- the values with single spaces between them, and a line feed
abbrev pub line : List Value → Option (List ℕ)
line [] = Some (10 ∷ [])
line (v ∷ []) = option_map (λ s. s ++ 10 ∷ []) (shown v)
line (v ∷ w ∷ vs) = option_and_then (λ s. option_map (λ rest. s ++ 32 ∷ rest) (line (w ∷ vs))) (shown v)

abbrev pub held : Bool → Run Value
held true = pure nothing
held false = stop (trapped precondition)

abbrev pub built_in : Builtin → List Value → Run Value
built_in builtin.Print vs = or_stuck (line vs) >>= write >> pure nothing
built_in builtin.Precondition (v ∷ []) = as_truth v >>= held
built_in builtin.Precondition _ = stop stuck
built_in builtin.Fatal vs = stop (trapped fatal)
