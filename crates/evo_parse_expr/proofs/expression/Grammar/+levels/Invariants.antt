use Rattle.std.proofs.Common.{◌≡◌, ◌-◌, ◌+◌, ◌*◌}
use Rattle.evo_combinators.specs.Reader.{many}
use Rattle.evo_combinators.proofs.AtDepth.{After}
use Rattle.evo_parse_expr.specs.AtDepth.{height, infix_of, operands_of, turn_reader, unary_at}
use Rattle.evo_parse_expr.proofs.expression.Grammar.+levels.Given as goal

abbrev pub decreases-operand : goal.decreases-operand
decreases-operand g l = 10 * height l.level

abbrev pub decreases-turns : goal.decreases-turns
decreases-turns g l = 10 * height l.level + 1

abbrev pub decreases-chain : goal.decreases-chain
decreases-chain g l = 10 * height l.level + 2

abbrev pub decreases-pair : goal.decreases-pair
decreases-pair g l = 32

abbrev pub decreases-level : goal.decreases-level
decreases-level g l = 10 * height l.level + 3

abbrev pub invariant-turns-loop-turn : goal.invariant-turns-loop-turn
invariant-turns-loop-turn g l = many (infix_of l.level) (turn_reader (operands_of (unary_at l.self.depth) l.level)) l.fn.tokens
    ≡ After (infix_of l.level) (turn_reader (operands_of (unary_at l.self.depth) l.level)) (l._turn-end - l._turn) l.found l.tokens
