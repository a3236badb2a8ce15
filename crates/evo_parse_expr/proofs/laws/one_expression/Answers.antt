use Rattle.evo_combinators.proofs.Faults.{one_value}
use Rattle.evo_tree.specs.Expressions.{IsExpr}
use Rattle.evo_parse_expr.specs.Read.{expr}
use Rattle.evo_parse_expr.proofs.Tests.{Stop}
use Rattle.evo_parse_expr.proofs.More.{expr_grammar}
use Rattle.evo_parse_expr.proofs.laws.one_expression.Goals as goal

pub returns : goal.returns
returns c us d e x y s r = one_value (Stop 6) IsExpr expr expr_grammar d e us x y s r
