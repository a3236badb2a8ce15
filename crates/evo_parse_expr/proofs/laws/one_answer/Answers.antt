use Rattle.evo_combinators.proofs.Answers.{answers}
use Rattle.evo_tree.specs.Pieces.{opens_nesting}
use Rattle.evo_tree.specs.Expressions.{IsExpr}
use Rattle.evo_parse_expr.specs.Read.{expr}
use Rattle.evo_parse_expr.proofs.Tests.{Stop}
use Rattle.evo_parse_expr.proofs.More.{expr_grammar}
use Rattle.evo_parse_expr.proofs.laws.one_answer.Goals as goal

pub returns : goal.returns
returns c d pieces at = answers (Stop 6) opens_nesting IsExpr expr expr_grammar d pieces at
