-- The operators of each level.
use Rattle.std.specs.Prelude.{Option}
use Rattle.evo_tree.specs.declared.terminal.Terminal.{Terminal}
use Rattle.evo_tree.specs.declared.expression.InfixOperator.{InfixOperator}
use Rattle.evo_tree.specs.Expressions.{multiplying, adding, comparing, conjoining, disjoining}
use Rattle.evo_parse_expr.specs.declared.lexeme.Level.{Level}
use Rattle.evo_parse_expr.specs.declared.lexeme.Level.TheVariants as level

abbrev pub operators_of : Level → Terminal → Option InfixOperator
operators_of level.Disjunction = disjoining
operators_of level.Conjunction = conjoining
operators_of level.Comparison = comparing
operators_of level.Addition = adding
operators_of level.Multiplication = multiplying
