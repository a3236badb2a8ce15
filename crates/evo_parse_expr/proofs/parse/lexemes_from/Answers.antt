use Rattle.std.proofs.Common.{◌≡◌, ℕ, ◌-◌, ◌≤◌, length, drop, take, List, sym, ◌∙◌, ap, subst, arith}
use Rattle.std.specs.Prelude.{IfOk}
use Rattle.std.proofs.lemmas.List.{take_all, length-drop}
use Rattle.evo_base.specs.declared.token.Token.{Token}
use Rattle.evo_tree.specs.Pieces.{Piece, pieces, pieces_from, token_before}
use Rattle.evo_parse_expr.proofs.Slices.{drop_pieces}
use Rattle.evo_parse_expr.proofs.parse.lexemes_from.Goals as goal

to_end : (tokens : List Token) (at : ℕ) → take (length tokens - at) (drop at tokens) ≡ drop at tokens
to_end tokens at = take_all _ _ (omega (arith, length-drop at tokens))

pub returns : goal.returns
returns c =
    let text = c.args.text.now in
    let tokens = c.args.tokens.now in
    let at = c.args.at in
    let same : pieces_from text c.token_before.result (take (length tokens - at) (drop at tokens)) ≡ drop at (pieces text tokens) =
    ap (λ b. pieces_from text b (take (length tokens - at) (drop at tokens))) c.token_before.ensures ∙ ap (pieces_from text (token_before at tokens)) (to_end tokens at) ∙ sym (drop_pieces text at tokens c.requires) in
    subst (λ (ps : List Piece). IfOk c.lexemes.result (λ v. v.items ≡ ps)) same c.lexemes.ensures
