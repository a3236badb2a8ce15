use Rattle.std.proofs.Common.{subst}
use Rattle.evo_combinators.specs.Reader.{Reads}
use Rattle.evo_tree.specs.declared.expression.Expr.{Expr}
use Rattle.evo_parse_expr.specs.Read.{Reader}
use Rattle.evo_parse_expr.proofs.Opened.{whole_is, sign_is}
use Rattle.evo_parse_expr.proofs.expression.+expr.Goals as goal

pub returns-then-whole : goal.returns-then-whole
returns-then-whole t c =
    subst (λ (p : Reader Expr). Reads (p c.args.tokens.now) c.level.result c.level.new.tokens) (whole_is c.args.depth c.args.whole c.if-whole.true) c.level.ensures

pub returns-else-whole : goal.returns-else-whole
returns-else-whole t c =
    subst (λ (p : Reader Expr). Reads (p c.args.tokens.now) c.unary.result c.unary.new.tokens) (sign_is c.args.depth c.args.whole c.if-whole.false) c.unary.ensures
