use Rattle.std.proofs.Common.{ℕ, ◌-◌, ◌+◌, List, [], sym, ap, ap₂, ◌∙◌}
use Rattle.evo_combinators.specs.Reader.{and_then, pure}
use Rattle.evo_combinators.proofs.AtDepth.{After, turn_init, turn_more}
use Rattle.evo_parse_expr.specs.AtDepth.{infix_of, operands_of, turn_reader, unary_at}
use Rattle.evo_parse_expr.proofs.expression.Grammar.+levels.Goals as goal

pub turns-loop-turn-init : goal.turns-loop-turn-init
turns-loop-turn-init g t c =
    let q = turn_reader (operands_of (unary_at c.args.self.now.depth) c.args.level) in
    turn_init (infix_of c.args.level) q c.args.tokens.now
    ∙ ap₂ (λ n found. After (infix_of c.args.level) q (n - 0) found c.args.tokens.now) (sym c.left-turn-end.ensures) (sym c.new-found.ensures)

pub turns-loop-turn-preserved : goal.turns-loop-turn-preserved
turns-loop-turn-preserved g t c =
    let p = operands_of (unary_at c.args.self.now.depth) c.args.level in
    let q = turn_reader p in
    turn_more (infix_of c.args.level) q _ c.left-turn-end.result c.loop-turn._turn c.loop-turn.found c.loop-turn.tokens c.loop-turn.invariant c.loop-turn-test.true
    c.in-Some.operator c.infix.new.self (c.in-Some.operator, c.in_ok-operand.operand) c.operand.new.tokens c.in-Some.ensures
    (ap (λ x. and_then x (λ y. pure (c.in-Some.operator, y))) c.in_ok-operand.ensures)
    ∙ ap (λ found. After (infix_of c.args.level) q (c.left-turn-end.result - (c.loop-turn._turn + 1)) found c.operand.new.tokens) (sym c.in_ok-push.ensures.ok)
