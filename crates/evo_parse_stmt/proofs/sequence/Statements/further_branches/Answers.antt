use Rattle.std.proofs.Common.{ℕ, ◌-◌, ◌+◌, List, Option, Ok, Bool, sym, ap, ap₂, ◌∙◌}
use Rattle.evo_combinators.proofs.TriesTurns.{TriesAfter, tries_init, tries_more}
use Rattle.evo_tree.specs.declared.expression.Expr.{Expr}
use Rattle.evo_tree.specs.declared.statement.Block.{Block}
use Rattle.evo_tree.specs.Statements.{is_last_branch}
use Rattle.evo_parse_stmt.specs.AtDepth.{else_at}
use Rattle.evo_parse_stmt.proofs.sequence.Statements.further_branches.Goals as goal

pub loop-turn-init : goal.loop-turn-init
loop-turn-init g c =
    let q = else_at c.args.self.now.inits c.args.self.now.depth in
    tries_init q is_last_branch c.args.before c.args.tokens.now
    ∙ ap₂ (λ (n : ℕ) (l : List (Option Expr × Block)). TriesAfter q is_last_branch (n - 0) l c.args.before c.args.tokens.now) (sym c.left-turn-end.ensures) (sym c.new-found.ensures)

pub loop-turn-preserved : goal.loop-turn-preserved
loop-turn-preserved g c =
    let q = else_at c.args.self.now.inits c.args.self.now.depth in
    tries_more q is_last_branch _ c.left-turn-end.result c.loop-turn._turn c.loop-turn.found c.loop-turn.ended c.loop-turn.tokens c.loop-turn.invariant c.loop-turn-test.true
    c.in-Some.branch c.try_else.new.tokens (c.in_ok-branch.ensures ∙ ap (λ (o : Option (Option Expr × Block)). Ok (o, c.try_else.new.tokens)) c.in-Some.is)
    ∙ ap₂ (λ (l : List (Option Expr × Block)) (b : Bool). TriesAfter q is_last_branch (c.left-turn-end.result - (c.loop-turn._turn + 1)) l b c.try_else.new.tokens) (sym c.in_ok-push.ensures.ok) (sym c.is_last-ended.ensures)
