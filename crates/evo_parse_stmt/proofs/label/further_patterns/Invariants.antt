use Rattle.std.proofs.Common.{◌≡◌, ◌-◌}
use Rattle.evo_combinators.specs.Reader.{many}
use Rattle.evo_combinators.proofs.AtDepth.{After}
use Rattle.evo_tree.specs.Pieces.{mark}
use Rattle.evo_tree.specs.declared.terminal.Terminal.TheVariants.{Comma}
use Rattle.evo_parse_expr.specs.Read.{after}
use Rattle.evo_parse_stmt.specs.Read.{pattern}
use Rattle.evo_parse_stmt.proofs.label.further_patterns.Given as goal

abbrev pub invariant-loop-turn : goal.invariant-loop-turn
invariant-loop-turn l = after l.fn.first (many (mark Comma) (λ _. pattern l.depth)) l.fn.tokens ≡ After (mark Comma) (λ _. pattern l.depth) (l._turn-end - l._turn) l.found.items l.tokens
