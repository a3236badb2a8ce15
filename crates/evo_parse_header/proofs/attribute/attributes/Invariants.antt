use Rattle.std.proofs.Common.{◌≡◌, ◌-◌, [], ◌∷◌, ◌++◌}
use Rattle.evo_combinators.specs.Guard.{run}
use Rattle.evo_combinators.proofs.RunTurns.{RunAfter}
use Rattle.evo_tree.specs.declared.terminal.Terminal.TheVariants.{At}
use Rattle.evo_tree.specs.Pieces.{is_terminal}
use Rattle.evo_parse_header.specs.Read.{attribute_at}
use Rattle.evo_parse_header.proofs.attribute.attributes.Given as goal

abbrev pub invariant-loop-turn : goal.invariant-loop-turn
invariant-loop-turn l = run (λ _. is_terminal At) (attribute_at l.depth) (λ attrs a. attrs ++ a ∷ []) [] l.fn.tokens
    ≡ RunAfter (λ _. is_terminal At) (attribute_at l.depth) (λ attrs a. attrs ++ a ∷ []) (l._turn-end - l._turn) l.found.items l.found.items l.tokens
