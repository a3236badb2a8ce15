use Rattle.std.proofs.Common.{ℕ, ◌-◌, ◌+◌, List, Option, Ok, Bool, sym, ap, ap₂, ◌∙◌}
use Rattle.evo_combinators.proofs.TriesTurns.{TriesAfter, tries_init, tries_more}
use Rattle.evo_tree.specs.declared.statement.Clause.{Clause}
use Rattle.evo_tree.specs.Statements.{is_last_clause}
use Rattle.evo_parse_stmt.specs.AtDepth.{clause_at}
use Rattle.evo_parse_stmt.proofs.sequence.Statements.further_clauses.Goals as goal

pub loop-turn-init : goal.loop-turn-init
loop-turn-init g c =
    let q = clause_at c.args.self.now.inits c.args.self.now.depth in
    tries_init q is_last_clause c.args.before c.args.tokens.now
    ∙ ap₂ (λ (n : ℕ) (l : List Clause). TriesAfter q is_last_clause (n - 0) l c.args.before c.args.tokens.now) (sym c.left-turn-end.ensures) (sym c.new-found.ensures)

pub loop-turn-preserved : goal.loop-turn-preserved
loop-turn-preserved g c =
    let q = clause_at c.args.self.now.inits c.args.self.now.depth in
    tries_more q is_last_clause _ c.left-turn-end.result c.loop-turn._turn c.loop-turn.found c.loop-turn.ended c.loop-turn.tokens c.loop-turn.invariant c.loop-turn-test.true
    c.in-Some.clause c.try_clause.new.tokens (c.in_ok-clause.ensures ∙ ap (λ (o : Option Clause). Ok (o, c.try_clause.new.tokens)) c.in-Some.is)
    ∙ ap₂ (λ (l : List Clause) (b : Bool). TriesAfter q is_last_clause (c.left-turn-end.result - (c.loop-turn._turn + 1)) l b c.try_clause.new.tokens) (sym c.in_ok-push.ensures.ok) (sym c.takes_rest-ended.ensures)
