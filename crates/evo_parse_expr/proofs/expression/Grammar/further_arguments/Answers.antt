use Rattle.std.proofs.Common.{ℕ, ◌-◌, ◌+◌, List, [], sym, ap, ap₂, ◌∙◌}
use Rattle.evo_combinators.proofs.AtDepth.{After, turn_init, turn_more}
use Rattle.evo_tree.specs.Pieces.{mark}
use Rattle.evo_tree.specs.declared.terminal.Terminal.TheVariants.{Comma}
use Rattle.evo_parse_expr.specs.AtDepth.{argument_reader}
use Rattle.evo_parse_expr.proofs.expression.Grammar.further_arguments.Goals as goal

pub loop-turn-init : goal.loop-turn-init
loop-turn-init g c =
    let q = argument_reader c.args.self.now.depth in
    turn_init (mark Comma) q c.args.tokens.now
    ∙ ap₂ (λ n found. After (mark Comma) q (n - 0) found c.args.tokens.now) (sym c.left-turn-end.ensures) (sym c.new-found.ensures)

pub loop-turn-preserved : goal.loop-turn-preserved
loop-turn-preserved g c =
    let q = argument_reader c.args.self.now.depth in
    turn_more (mark Comma) q _ c.left-turn-end.result c.loop-turn._turn c.loop-turn.found c.loop-turn.tokens c.loop-turn.invariant c.loop-turn-test.true
    c.in-Some.field-0 c.mark.new.self c.in_ok-argument.field-0 c.argument.new.tokens c.in-Some.ensures c.in_ok-argument.ensures
    ∙ ap (λ found. After (mark Comma) q (c.left-turn-end.result - (c.loop-turn._turn + 1)) found c.argument.new.tokens) (sym c.in_ok-push.ensures.ok)
