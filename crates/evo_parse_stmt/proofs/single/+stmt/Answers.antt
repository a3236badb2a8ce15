use Rattle.std.proofs.Common.{subst}
use Rattle.evo_combinators.specs.Reader.{Reads}
use Rattle.evo_tree.specs.declared.statement.Stmt.{Stmt}
use Rattle.evo_parse_expr.specs.Read.{Reader}
use Rattle.evo_parse_stmt.proofs.Opened.{stmt_is}
use Rattle.evo_parse_stmt.proofs.single.+stmt.Goals as goal

pub returns : goal.returns
returns t c =
    subst (λ (p : Reader Stmt). Reads (p c.args.tokens.now) c.statement_here.result c.statement_here.new.tokens) (stmt_is c.args.inits c.args.depth) c.statement_here.ensures
