use Rattle.std.proofs.Common.{ℕ, ◌-◌, ◌+◌, List, Option, Ok, false, sym, ap, ap₂, ◌∙◌}
use Rattle.evo_combinators.proofs.TriesTurns.{TriesAfter, tries_init, tries_more}
use Rattle.evo_tree.specs.declared.statement.Stmt.{Stmt}
use Rattle.evo_tree.specs.Statements.{no_longer_first}
use Rattle.evo_parse_stmt.specs.AtDepth.{statement_at}
use Rattle.evo_parse_stmt.proofs.sequence.Statements.statements.Goals as goal

pub loop-turn-init : goal.loop-turn-init
loop-turn-init g c =
    let q = statement_at c.args.self.now.inits c.args.self.now.depth in
    tries_init q no_longer_first c.args.first c.args.tokens.now
    ∙ ap₂ (λ (n : ℕ) (l : List Stmt). TriesAfter q no_longer_first (n - 0) l c.args.first c.args.tokens.now) (sym c.left-turn-end.ensures) (sym c.new-found.ensures)

pub loop-turn-preserved : goal.loop-turn-preserved
loop-turn-preserved g c =
    let q = statement_at c.args.self.now.inits c.args.self.now.depth in
    tries_more q no_longer_first _ c.left-turn-end.result c.loop-turn._turn c.loop-turn.found c.loop-turn.early c.loop-turn.tokens c.loop-turn.invariant c.loop-turn-test.true
    c.in-Some.statement c.try_statement.new.tokens (c.in_ok-statement.ensures ∙ ap (λ (o : Option Stmt). Ok (o, c.try_statement.new.tokens)) c.in-Some.is)
    ∙ ap (λ (l : List Stmt). TriesAfter q no_longer_first (c.left-turn-end.result - (c.loop-turn._turn + 1)) l false c.try_statement.new.tokens) (sym c.in_ok-push.ensures.ok)
