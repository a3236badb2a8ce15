-- The grammar of expressions: which tokens spell which expression.
--
--   expr      = and { "||" and }
--   and       = cmp { "&&" cmp }
--   cmp       = add [ ( "==" | "!=" | "<" | "<=" | ">" | ">=" | "===" | "!==" ) add ]
--   add       = mul { ( "+" | "-" | "&+" | "&-" ) mul }
--   mul       = unary { ( "*" | "/" | "%" | "&*" ) unary }
--   unary     = ( "-" | "!" ) unary | post
--   post      = primary { "." NAME [ arguments ] }
--   primary   = NAME [ arguments ] | INT | STRING | "self" | "Self"
--             | "super" "." NAME arguments | "true" | "false" | "-" INT
--             | "(" expr ")" | "." NAME [ arguments ]
--   arguments = "(" [ argument { "," argument } ] ")"
--   argument  = [ NAME ":" ] expr
--
-- Operators between operands are infix, those before an operand prefix, by the white space beside them. A `-` directly before an integer is
-- part of it, and only then may the integer be 2^63. The `(` of a call stands on the line of the token before it. A `(` and an operator
-- before its operand nest what follows. `self.init` and `super.init` are statements (Statements).
use Rattle.std.specs.Prelude.{ℕ, zero, suc, ◌-◌, ◌^◌, List, [], ◌∷◌, true, false, Option, Some, None, if◌then◌else◌}
use Rattle.evo_base.specs.declared.place.Place.{Place}
use Rattle.evo_combinators.specs.Rule.{Empty, Fail, TokenThen, Or, Then, Many}
use Rattle.evo_tree.specs.declared.name.Identifier.{Identifier}
use Rattle.evo_tree.specs.declared.expression.InfixOperator.{InfixOperator}
use Rattle.evo_tree.specs.declared.expression.InfixOperator.TheVariants as op
use Rattle.evo_tree.specs.declared.expression.Expr.{Expr}
use Rattle.evo_tree.specs.declared.expression.Expr.TheVariants as e
use Rattle.evo_tree.specs.declared.terminal.Terminal.{Terminal}
use Rattle.evo_tree.specs.declared.terminal.Terminal.TheVariants as t
use Rattle.evo_tree.specs.declared.terminal.Role.TheVariants as role
use Rattle.evo_tree.specs.Pieces.{Piece, mark, identifier, integer, string, negative, sign, call, has_role}

abbrev pub Rule : Type 0 → Type 1
Rule A = List Piece → A → Type 0

-- a token that opens one more nesting, and then what S says, where so much nesting may still open
abbrev pub Nested : {A B : Type 0} → ℕ → (Piece → Option A) → (A → Rule B) → Rule B
Nested zero f S = Fail
Nested (suc d) f S = TokenThen f S

-- ---- operators

abbrev pub multiplying : Terminal → Option InfixOperator
multiplying t.Star = Some op.Multiply
multiplying t.Slash = Some op.Divide
multiplying t.Percent = Some op.Remainder
multiplying t.WrappingStar = Some op.WrappingMultiply
multiplying k = None

abbrev pub adding : Terminal → Option InfixOperator
adding t.Plus = Some op.Add
adding t.Minus = Some op.Subtract
adding t.WrappingPlus = Some op.WrappingAdd
adding t.WrappingMinus = Some op.WrappingSubtract
adding k = None

abbrev pub comparing : Terminal → Option InfixOperator
comparing t.EqualEqual = Some op.Equal
comparing t.NotEqual = Some op.NotEqual
comparing t.Less = Some op.Less
comparing t.LessEqual = Some op.LessOrEqual
comparing t.Greater = Some op.Greater
comparing t.GreaterEqual = Some op.GreaterOrEqual
comparing t.Identical = Some op.Identical
comparing t.NotIdentical = Some op.NotIdentical
comparing k = None

abbrev pub conjoining : Terminal → Option InfixOperator
conjoining t.AndAnd = Some op.And
conjoining k = None

abbrev pub disjoining : Terminal → Option InfixOperator
disjoining t.OrOr = Some op.Or
disjoining k = None

-- takes an operator between operands
unfoldable pub infix_by : (Terminal → Option InfixOperator) → Piece → Option InfixOperator
infix_by f p = if has_role role.Infix p then f p.terminal else None

-- ---- trees

-- an operand alone is itself
abbrev pub chain : Expr → List (InfixOperator × Expr) → Expr
chain x [] = x
chain x (o ∷ os) = e.Chain x (o ∷ os)

abbrev pub members : Expr → List (Identifier × Option (List (Option Identifier × Expr))) → Expr
members x [] = x
members x (m ∷ ms) = e.Members x (m ∷ ms)

abbrev pub one_operand : InfixOperator → Expr → List (InfixOperator × Expr)
one_operand o x = (o, x) ∷ []

-- ---- rules

-- operand { operator operand }
abbrev pub Chain : (Piece → Option InfixOperator) → Rule Expr → Rule Expr
Chain f S = Then S (λ x. Then (Many f (λ o. Then S (λ y. Empty (o, y)))) (λ os. Empty (chain x os)))

-- operand [ operator operand ]
abbrev pub Pair : (Piece → Option InfixOperator) → Rule Expr → Rule Expr
Pair f S = Then S (λ x. Or (TokenThen f (λ o. Then S (λ y. Empty (chain x (one_operand o y))))) (Empty x))

-- the levels of operators over a rule of operands
abbrev pub Levels : Rule Expr → Rule Expr
Levels S = Chain (infix_by disjoining) (Chain (infix_by conjoining) (Pair (infix_by comparing) (Chain (infix_by adding) (Chain (infix_by multiplying) S))))

-- Inner is an expression in parentheses, Operand what follows a sign, and d how much nesting may open
module _ (d : ℕ) (Inner Operand : Rule Expr) where
  -- argument
  abbrev pub Argument : Rule (Option Identifier × Expr)
  Argument = Or (TokenThen identifier (λ n. TokenThen (mark t.Colon) (λ _. Then Inner (λ x. Empty (Some n, x))))) (Then Inner (λ x. Empty (None, x)))

  -- argument { "," argument }
  abbrev pub ListedArguments : Rule (List (Option Identifier × Expr))
  ListedArguments = Then Argument (λ a. Then (Many (mark t.Comma) (λ _. Argument)) (λ as'. Empty (a ∷ as')))

  -- [ argument { "," argument } ] ")"
  abbrev pub ArgumentsTail : Rule (List (Option Identifier × Expr))
  ArgumentsTail = Or (TokenThen (mark t.CloseParenthesis) (λ _. Empty [])) (Then ListedArguments (λ as'. TokenThen (mark t.CloseParenthesis) (λ _. Empty as')))

  -- [ arguments ]
  abbrev pub Arguments : Rule (Option (List (Option Identifier × Expr)))
  Arguments = Or (Nested d call (λ _. Then ArgumentsTail (λ as'. Empty (Some as')))) (Empty None)

  -- arguments
  abbrev pub Call : Rule (List (Option Identifier × Expr))
  Call = Or (Nested d call (λ _. ArgumentsTail)) Fail

  -- NAME [ arguments ]
  abbrev pub Member : Rule (Identifier × Option (List (Option Identifier × Expr)))
  Member = TokenThen identifier (λ n. Then Arguments (λ as'. Empty (n, as')))

  -- expr ")"
  abbrev pub GroupTail : Place → Rule Expr
  GroupTail p = Then Inner (λ x. TokenThen (mark t.CloseParenthesis) (λ _. Empty (e.Parenthesised p x)))

  -- "." NAME arguments, behind `super`
  abbrev pub SuperTail : Place → Rule Expr
  SuperTail p = TokenThen (mark t.Dot) (λ _. TokenThen identifier (λ n. Then Call (λ as'. Empty (e.Super p n as'))))

  -- an integer behind the `-` that belongs to it
  abbrev pub Magnitude : Place → Rule Expr
  Magnitude p = TokenThen (integer (2 ^ 63)) (λ v. Empty (e.Negative p v.1))

  -- primary
  abbrev pub Primary : Rule Expr
  Primary = Or (TokenThen identifier (λ n. Then Arguments (λ as'. Empty (e.Name n as'))))
      (Or (TokenThen (integer (2 ^ 63 - 1)) (λ v. Empty (e.Integer v.0 v.1)))
      (Or (TokenThen string (λ v. Empty (e.String v.0 v.1)))
      (Or (TokenThen (mark t.SelfValue) (λ p. Empty (e.SelfValue p)))
      (Or (TokenThen (mark t.SelfType) (λ p. Empty (e.SelfType p)))
      (Or (TokenThen (mark t.Super) SuperTail)
      (Or (TokenThen (mark t.True) (λ p. Empty (e.Boolean p true)))
      (Or (TokenThen (mark t.False) (λ p. Empty (e.Boolean p false)))
      (Or (TokenThen negative Magnitude)
      (Or (Nested d (mark t.OpenParenthesis) GroupTail)
      (Or (TokenThen (mark t.Dot) (λ p. Then Member (λ m. Empty (e.ImplicitMember p m.0 m.1)))) Fail))))))))))

  -- { "." NAME [ arguments ] }
  abbrev pub Links : Expr → Rule Expr
  Links x = Then (Many (mark t.Dot) (λ _. Member)) (λ ms. Empty (members x ms))

  -- post
  abbrev pub Postfix : Rule Expr
  Postfix = Then Primary Links

  -- unary
  abbrev pub UnaryOf : Rule Expr
  UnaryOf = Or (Nested d sign (λ s. Then Operand (λ x. Empty (e.Prefix s.0 s.1 x)))) Postfix

-- with this much nesting
unfoldable pub Unary : ℕ → Rule Expr
Unary zero = UnaryOf zero Fail Fail
Unary (suc d) = UnaryOf (suc d) (Levels (Unary d)) (Unary d)

-- an expression with at most this much nesting
abbrev pub IsExpr : ℕ → Rule Expr
IsExpr d = Levels (Unary d)
