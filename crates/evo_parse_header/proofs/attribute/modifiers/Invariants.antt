use Rattle.std.proofs.Common.{◌≡◌, ◌-◌, [], ◌∷◌, ◌++◌}
use Rattle.evo_combinators.specs.Guard.{run}
use Rattle.evo_combinators.specs.Reader.{one}
use Rattle.evo_combinators.proofs.RunTurns.{RunAfter}
use Rattle.evo_tree.specs.Declarations.{modifier_word}
use Rattle.evo_parse_header.specs.Read.{is_modifier}
use Rattle.evo_parse_header.proofs.attribute.modifiers.Given as goal

abbrev pub invariant-loop-turn : goal.invariant-loop-turn
invariant-loop-turn l = run is_modifier (λ ms. one (modifier_word ms)) (λ ms m. ms ++ m ∷ []) [] l.fn.tokens
    ≡ RunAfter is_modifier (λ ms. one (modifier_word ms)) (λ ms m. ms ++ m ∷ []) (l._turn-end - l._turn) l.found.items l.found.items l.tokens
