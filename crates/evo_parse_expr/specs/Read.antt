-- Reading written types and expressions from the left.
use Rattle.std.specs.Prelude.{ℕ, zero, suc, ◌-◌, ◌^◌, List, [], ◌∷◌, Bool, true, false, Option, Some, None}
use Rattle.evo_base.specs.declared.place.Place.{Place}
use Rattle.evo_combinators.specs.Reader.{Reader as ReaderOf, ◌>>=◌, pure, refuse, alt, one, bar, many}
use Rattle.evo_combinators.specs.Guard.{two}
use Rattle.evo_tree.specs.declared.name.Identifier.{Identifier}
use Rattle.evo_tree.specs.declared.name.TypeName.{TypeName}
use Rattle.evo_tree.specs.declared.expression.InfixOperator.{InfixOperator}
use Rattle.evo_tree.specs.declared.expression.Expr.{Expr}
use Rattle.evo_tree.specs.declared.expression.Expr.TheVariants as e
use Rattle.evo_tree.specs.declared.terminal.Terminal.TheVariants as t
use Rattle.evo_tree.specs.Pieces.{Piece, mark, identifier, integer, string, negative, sign, call, is_terminal, is_identifier}
use Rattle.evo_tree.specs.Types.{type_head, plain_name, type_name}
use Rattle.evo_tree.specs.Expressions.{infix_by, chain, members, one_operand}
use Rattle.evo_parse_expr.specs.declared.lexeme.Level.TheVariants as level
use Rattle.evo_parse_expr.specs.Levels.{operators_of}

abbrev pub Reader : Type 0 → Type 0
Reader A = ReaderOf Piece A

-- a token that opens one more nesting, where so much nesting may still open
abbrev pub opens : {A B : Type 0} → ℕ → (Piece → Option A) → (A → Reader B) → Reader B → Reader B
opens zero f q r = bar f r
opens (suc d) f q r = alt f q r

-- something that was read before, and then more of it
abbrev pub after : {A : Type 0} → A → Reader (List A) → Reader (List A)
after x more = more >>= (λ xs. pure (x ∷ xs))

-- ---- types

unfoldable pub type_of : Reader TypeName
type_of = do
  head ← one type_head
  names ← many (mark t.Dot) (λ _. one plain_name)
  pure (type_name head names)

-- ---- operators

unfoldable pub chain_of : (Piece → Option InfixOperator) → Reader Expr → Reader Expr
chain_of f p = do
  x ← p
  os ← many f (λ o. p >>= (λ y. pure (o, y)))
  pure (chain x os)

unfoldable pub pair_of : (Piece → Option InfixOperator) → Reader Expr → Reader Expr
pair_of f p = do
  x ← p
  alt f (λ o. p >>= (λ y. pure (chain x (one_operand o y)))) (pure x)

abbrev pub levels : Reader Expr → Reader Expr
levels p = chain_of (infix_by (operators_of level.Disjunction)) (chain_of (infix_by (operators_of level.Conjunction)) (pair_of (infix_by (operators_of level.Comparison))
    (chain_of (infix_by (operators_of level.Addition)) (chain_of (infix_by (operators_of level.Multiplication)) p))))

-- ---- expressions, where inner reads those in parentheses, operand what follows a sign, and d is how much nesting may open

module _ (d : ℕ) (inner operand : Reader Expr) where
  unfoldable pub labelled : Reader (Option Identifier × Expr)
  labelled = do
    n ← one identifier
    _ ← one (mark t.Colon)
    x ← inner
    pure (Some n, x)

  abbrev pub argument : Reader (Option Identifier × Expr)
  argument = two is_identifier (is_terminal t.Colon) labelled (inner >>= (λ x. pure (None, x)))

  unfoldable pub listed_arguments : Reader (List (Option Identifier × Expr))
  listed_arguments = do
    a ← argument
    as' ← many (mark t.Comma) (λ _. argument)
    pure (a ∷ as')

  unfoldable pub closed_arguments : Reader (List (Option Identifier × Expr))
  closed_arguments = do
    as' ← listed_arguments
    _ ← one (mark t.CloseParenthesis)
    pure as'

  unfoldable pub rest_of_arguments : Reader (List (Option Identifier × Expr))
  rest_of_arguments = alt (mark t.CloseParenthesis) (λ _. pure []) closed_arguments

  unfoldable pub arguments : Reader (Option (List (Option Identifier × Expr)))
  arguments = opens d call (λ _. rest_of_arguments >>= (λ as'. pure (Some as'))) (pure None)

  unfoldable pub called : Reader (List (Option Identifier × Expr))
  called = opens d call (λ _. rest_of_arguments) refuse

  unfoldable pub member : Reader (Identifier × Option (List (Option Identifier × Expr)))
  member = do
    n ← one identifier
    as' ← arguments
    pure (n, as')

  unfoldable pub rest_of_group : Place → Reader Expr
  rest_of_group p = do
    x ← inner
    _ ← one (mark t.CloseParenthesis)
    pure (e.Parenthesised p x)

  unfoldable pub rest_of_super : Place → Reader Expr
  rest_of_super p = do
    _ ← one (mark t.Dot)
    n ← one identifier
    as' ← called
    pure (e.Super p n as')

  unfoldable pub magnitude : Place → Reader Expr
  magnitude p = do
    v ← one (integer (2 ^ 63))
    pure (e.Negative p v.1)

  unfoldable pub named : Identifier → Reader Expr
  named n = arguments >>= (λ as'. pure (e.Name n as'))

  unfoldable pub implicit : Place → Reader Expr
  implicit p = member >>= (λ m. pure (e.ImplicitMember p m.0 m.1))

  -- the forms that begin with a truth value, a sign, a parenthesis or a dot
  unfoldable pub later_primary : Reader Expr
  later_primary = alt (mark t.True) (λ p. pure (e.Boolean p true))
      (alt (mark t.False) (λ p. pure (e.Boolean p false))
      (alt negative magnitude
      (opens d (mark t.OpenParenthesis) rest_of_group
      (alt (mark t.Dot) implicit refuse))))

  unfoldable pub primary : Reader Expr
  primary = alt identifier named
      (alt (integer (2 ^ 63 - 1)) (λ v. pure (e.Integer v.0 v.1))
      (alt string (λ v. pure (e.String v.0 v.1))
      (alt (mark t.SelfValue) (λ p. pure (e.SelfValue p))
      (alt (mark t.SelfType) (λ p. pure (e.SelfType p))
      (alt (mark t.Super) rest_of_super later_primary)))))

  unfoldable pub links : Expr → Reader Expr
  links x = many (mark t.Dot) (λ _. member) >>= (λ ms. pure (members x ms))

  unfoldable pub post : Reader Expr
  post = primary >>= links

  unfoldable pub unary_of : Reader Expr
  unary_of = opens d sign (λ s. operand >>= (λ x. pure (e.Prefix s.0 s.1 x))) post

unfoldable pub unary : ℕ → Reader Expr
unary zero = unary_of zero refuse refuse
unary (suc d) = unary_of (suc d) (levels (unary d)) (unary d)

abbrev pub expr : ℕ → Reader Expr
expr d = levels (unary d)
