use Rattle.std.proofs.Common.{◌≡◌, ◌-◌}
use Rattle.evo_combinators.specs.Reader.{many}
use Rattle.evo_combinators.proofs.AtDepth.{After}
use Rattle.evo_tree.specs.Pieces.{mark}
use Rattle.evo_parse_expr.specs.Read.{after}
use Rattle.evo_parse_header.proofs.parts.further.Given as goal

abbrev pub invariant-loop-turn : goal.invariant-loop-turn
invariant-loop-turn g l = after l.fn.first (many (mark l.terminal) (λ _. g.T.Part.reader l.depth)) l.fn.tokens
    ≡ After (mark l.terminal) (λ _. g.T.Part.reader l.depth) (l._turn-end - l._turn) l.found.items l.tokens
