use Rattle.std.proofs.Common.{◌≡◌, ℕ, ◌∷◌, suc, drop, drop-cons, sym, ◌∙◌, ap, arith}
use Rattle.evo_lex.specs.declared.spot.Position.{Position}
use Rattle.evo_lex.specs.Tokenization.{beyond, behind}
use Rattle.evo_lex.proofs.Spots.{forward}
use Rattle.evo_lex.proofs.spot.beyond.Goals as goal

pub behind-reached-requires-clause-at : goal.behind-reached-requires-clause-at
behind-reached-requires-clause-at c =
    let text = c.args.text.now in
    let i = c.loop-c.c-index in
    let reached = c.loop-c.reached in
    let char = c.c-item.result in
    let rest = drop (suc i) text in
    let cut : drop i text ≡ char ∷ rest = drop-cons text i char c.loop-c-test.true ∙ ap (λ (x : ℕ). x ∷ rest) (sym c.c-item.is) in
    let whole : (beyond text c.args.spot).at ≡ (beyond rest (behind char reached)).at = ap (λ (s : Position). s.at) (c.loop-c.invariant.rest ∙ ap (λ cs. beyond cs reached) cut) in
    let le = forward rest (behind char reached) in
    omega (arith, whole, le)
