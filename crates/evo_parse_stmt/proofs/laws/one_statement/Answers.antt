use Rattle.evo_combinators.proofs.Faults.{one_value}
use Rattle.evo_tree.specs.Statements.{IsStmt}
use Rattle.evo_parse_stmt.specs.Read.{stmt}
use Rattle.evo_parse_stmt.proofs.Follows.{AfterStmt}
use Rattle.evo_parse_stmt.proofs.Family.{stmt_grammar}
use Rattle.evo_parse_stmt.proofs.laws.one_statement.Goals as goal

pub returns : goal.returns
returns c = λ inits d e us a b s r. one_value AfterStmt (IsStmt inits) (stmt inits) (stmt_grammar inits) d e us a b s r
