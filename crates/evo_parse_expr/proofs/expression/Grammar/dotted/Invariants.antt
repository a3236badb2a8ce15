use Rattle.std.proofs.Common.{◌≡◌, ◌-◌}
use Rattle.evo_combinators.specs.Reader.{many}
use Rattle.evo_combinators.proofs.AtDepth.{After}
use Rattle.evo_tree.specs.Pieces.{mark}
use Rattle.evo_tree.specs.declared.terminal.Terminal.TheVariants.{Dot}
use Rattle.evo_parse_expr.specs.AtDepth.{member_reader}
use Rattle.evo_parse_expr.proofs.expression.Grammar.dotted.Given as goal

abbrev pub invariant-loop-turn : goal.invariant-loop-turn
invariant-loop-turn g l = many (mark Dot) (member_reader l.self.depth) l.fn.tokens ≡ After (mark Dot) (member_reader l.self.depth) (l._turn-end - l._turn) l.found l.tokens
