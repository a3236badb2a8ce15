use Rattle.std.proofs.Common.{◌≡◌, ◌-◌}
use Rattle.evo_combinators.specs.Reader.{many, one}
use Rattle.evo_combinators.proofs.AtDepth.{After}
use Rattle.evo_tree.specs.Pieces.{mark}
use Rattle.evo_tree.specs.Types.{plain_name}
use Rattle.evo_tree.specs.declared.terminal.Terminal.TheVariants.{Dot}
use Rattle.evo_parse_expr.specs.Read.{after}
use Rattle.evo_parse_expr.proofs.types.further_names.Given as goal

abbrev pub invariant-loop-turn : goal.invariant-loop-turn
invariant-loop-turn l = after l.fn.first (many (mark Dot) (λ _. one plain_name)) l.fn.tokens
    ≡ After (mark Dot) (λ _. one plain_name) (l._turn-end - l._turn) l.found.items l.tokens
