use Rattle.std.proofs.Common.{◌≡◌, ℕ, ◌-◌, ◌+◌, Bool, true, List, [], ◌∷◌, ◌++◌, sym, ap, ap₂, ◌∙◌, rules}
use Rattle.evo_combinators.proofs.RunTurns.{RunAfter, run_init, run_more}
use Rattle.evo_tree.specs.declared.declaration.Attr.{Attr}
use Rattle.evo_tree.specs.declared.terminal.Terminal.TheVariants.{At}
use Rattle.evo_tree.specs.Pieces.{Piece, is_terminal}
use Rattle.evo_parse_header.specs.Read.{attribute_at}
use Rattle.evo_parse_header.proofs.attribute.attributes.Goals as goal

pub loop-turn-init : goal.loop-turn-init
loop-turn-init c =
    let g : List Attr → Piece → Bool = λ _. is_terminal At in
    let next : List Attr → Attr → List Attr = λ attrs a. attrs ++ a ∷ [] in
    let q = attribute_at c.args.depth in
    let ts = c.args.tokens.now in
    let found : c.new-found.result.items ≡ [] = search rules in
    run_init g q next [] ts ∙ ap₂ (λ (n : ℕ) (l : List Attr). RunAfter g q next (n - 0) l l ts) (sym c.left-turn-end.ensures) (sym found)

pub loop-turn-preserved : goal.loop-turn-preserved
loop-turn-preserved c =
    let g : List Attr → Piece → Bool = λ _. is_terminal At in
    let next : List Attr → Attr → List Attr = λ attrs a. attrs ++ a ∷ [] in
    let q = attribute_at c.args.depth in
    let found : c.push.new.self.items ≡ c.loop-turn.found.items ++ c.in_ok-attr.attr ∷ [] = search rules in
    run_more g q next _ c.left-turn-end.result c.loop-turn._turn c.loop-turn.found.items c.loop-turn.found.items c.loop-turn.tokens c.loop-turn.invariant c.loop-turn-test.true
    c.in_ok-attr.attr c.attribute.new.tokens (sym c.starts.ensures ∙ c.if-not-starts.false) (ap (λ (l : List Attr). q l c.loop-turn.tokens) (sym c.as_slice.ensures.value) ∙ c.in_ok-attr.ensures)
    ∙ ap (λ (l : List Attr). RunAfter g q next (c.left-turn-end.result - (c.loop-turn._turn + 1)) l l c.attribute.new.tokens) (sym found)
