-- The readers of one nesting, as the functions have them.
use Rattle.std.specs.Prelude.{ℕ, zero, suc, List, Option, None, Bool}
use Rattle.evo_base.specs.declared.place.Place.{Place}
use Rattle.evo_combinators.specs.Reader.{◌>>=◌, pure, refuse, alt, many}
use Rattle.evo_tree.specs.declared.name.Identifier.{Identifier}
use Rattle.evo_tree.specs.declared.expression.InfixOperator.{InfixOperator}
use Rattle.evo_tree.specs.declared.expression.Expr.{Expr}
use Rattle.evo_tree.specs.Pieces.{Piece}
use Rattle.evo_tree.specs.Expressions.{infix_by}
use Rattle.evo_parse_expr.specs.declared.lexeme.Level.{Level}
use Rattle.evo_parse_expr.specs.declared.lexeme.Level.TheVariants as level
use Rattle.evo_parse_expr.specs.Levels.{operators_of}
use Rattle.evo_parse_expr.specs.Read.{Reader, chain_of, pair_of, labelled, argument, listed_arguments, closed_arguments, rest_of_arguments, arguments, called, member, rest_of_group, rest_of_super, magnitude, named, implicit, later_primary, primary, links, post, unary_of, expr, unary}

-- an expression in parentheses, and what follows a sign
abbrev pub inner_of : ℕ → Reader Expr
inner_of zero = refuse
inner_of (suc d) = expr d

abbrev pub operand_of : ℕ → Reader Expr
operand_of zero = refuse
operand_of (suc d) = unary d

abbrev pub turn_reader : Reader Expr → InfixOperator → Reader (InfixOperator × Expr)
turn_reader p o = p >>= (λ y. pure (o, y))

-- the readers with this much nesting
module _ (d : ℕ) where
  abbrev pub labelled_at : Reader (Option Identifier × Expr)
  labelled_at = labelled d (inner_of d) (operand_of d)

  abbrev pub argument_at : Reader (Option Identifier × Expr)
  argument_at = argument d (inner_of d) (operand_of d)

  abbrev pub argument_reader : Place → Reader (Option Identifier × Expr)
  argument_reader p = argument_at

  abbrev pub listed_at : Reader (List (Option Identifier × Expr))
  listed_at = listed_arguments d (inner_of d) (operand_of d)

  abbrev pub closed_at : Reader (List (Option Identifier × Expr))
  closed_at = closed_arguments d (inner_of d) (operand_of d)

  abbrev pub rest_of_arguments_at : Reader (List (Option Identifier × Expr))
  rest_of_arguments_at = rest_of_arguments d (inner_of d) (operand_of d)

  abbrev pub arguments_at : Reader (Option (List (Option Identifier × Expr)))
  arguments_at = arguments d (inner_of d) (operand_of d)

  abbrev pub called_at : Reader (List (Option Identifier × Expr))
  called_at = called d (inner_of d) (operand_of d)

  abbrev pub member_at : Reader (Identifier × Option (List (Option Identifier × Expr)))
  member_at = member d (inner_of d) (operand_of d)

  abbrev pub member_reader : Place → Reader (Identifier × Option (List (Option Identifier × Expr)))
  member_reader p = member_at

  abbrev pub rest_of_group_at : Place → Reader Expr
  rest_of_group_at = rest_of_group d (inner_of d) (operand_of d)

  abbrev pub rest_of_super_at : Place → Reader Expr
  rest_of_super_at = rest_of_super d (inner_of d) (operand_of d)

  abbrev pub magnitude_at : Place → Reader Expr
  magnitude_at = magnitude d (inner_of d) (operand_of d)

  abbrev pub named_at : Identifier → Reader Expr
  named_at = named d (inner_of d) (operand_of d)

  abbrev pub implicit_at : Place → Reader Expr
  implicit_at = implicit d (inner_of d) (operand_of d)

  abbrev pub later_primary_at : Reader Expr
  later_primary_at = later_primary d (inner_of d) (operand_of d)

  abbrev pub primary_at : Reader Expr
  primary_at = primary d (inner_of d) (operand_of d)

  abbrev pub links_at : Expr → Reader Expr
  links_at = links d (inner_of d) (operand_of d)

  abbrev pub post_at : Reader Expr
  post_at = post d (inner_of d) (operand_of d)

  abbrev pub unary_at : Reader Expr
  unary_at = unary_of d (inner_of d) (operand_of d)

-- ---- levels, the operands of all being read by p

-- how far a level is above the operands of all
abbrev pub height : Level → ℕ
height level.Disjunction = 5
height level.Conjunction = 4
height level.Comparison = 3
height level.Addition = 2
height level.Multiplication = 1

abbrev pub infix_of : Level → Piece → Option InfixOperator
infix_of l = infix_by (operators_of l)

module _ (p : Reader Expr) where
  abbrev pub multiplication_level : Reader Expr
  multiplication_level = chain_of (infix_of level.Multiplication) p

  abbrev pub addition_level : Reader Expr
  addition_level = chain_of (infix_of level.Addition) multiplication_level

  abbrev pub comparison_level : Reader Expr
  comparison_level = pair_of (infix_of level.Comparison) addition_level

  abbrev pub conjunction_level : Reader Expr
  conjunction_level = chain_of (infix_of level.Conjunction) comparison_level

  abbrev pub disjunction_level : Reader Expr
  disjunction_level = chain_of (infix_of level.Disjunction) conjunction_level

  abbrev pub level_of : Level → Reader Expr
  level_of level.Disjunction = disjunction_level
  level_of level.Conjunction = conjunction_level
  level_of level.Comparison = comparison_level
  level_of level.Addition = addition_level
  level_of level.Multiplication = multiplication_level

  -- the operands of a level
  abbrev pub operands_of : Level → Reader Expr
  operands_of level.Disjunction = conjunction_level
  operands_of level.Conjunction = comparison_level
  operands_of level.Comparison = addition_level
  operands_of level.Addition = multiplication_level
  operands_of level.Multiplication = p
