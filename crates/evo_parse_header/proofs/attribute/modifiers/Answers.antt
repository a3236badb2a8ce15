use Rattle.std.proofs.Common.{◌≡◌, ℕ, ◌-◌, ◌+◌, Bool, true, Some, None, List, [], ◌∷◌, ◌++◌, sym, ap, ap₂, ◌∙◌, rules}
use Rattle.evo_combinators.specs.Reader.{one, lead}
use Rattle.evo_combinators.proofs.Laws.{ok_both}
use Rattle.evo_combinators.proofs.RunTurns.{RunAfter, run_init, run_more, run_none}
use Rattle.evo_tree.specs.declared.declaration.Modifier.{Modifier}
use Rattle.evo_tree.specs.Pieces.{Piece}
use Rattle.evo_tree.specs.Declarations.{modifier_word}
use Rattle.evo_parse_expr.specs.Read.{Reader}
use Rattle.evo_parse_header.specs.Read.{is_modifier, modifiers}
use Rattle.evo_parse_header.proofs.Numbers.{no_modifier, some_modifier, one_modifier}
use Rattle.evo_parse_header.proofs.attribute.modifiers.Goals as goal

pub loop-turn-init : goal.loop-turn-init
loop-turn-init c =
    let next : List Modifier → Modifier → List Modifier = λ ms m. ms ++ m ∷ [] in
    let q : List Modifier → Reader Modifier = λ ms. one (modifier_word ms) in
    let ts = c.args.tokens.now in
    let found : c.new-found.result.items ≡ [] = search rules in
    run_init is_modifier q next [] ts ∙ ap₂ (λ (n : ℕ) (l : List Modifier). RunAfter is_modifier q next (n - 0) l l ts) (sym c.left-turn-end.ensures) (sym found)

pub returns-in_default : goal.returns-in_default
unfolding modifiers
returns-in_default c =
    let next : List Modifier → Modifier → List Modifier = λ ms m. ms ++ m ∷ [] in
    let q : List Modifier → Reader Modifier = λ ms. one (modifier_word ms) in
    let none : lead (modifier_word c.loop-turn.found.items) c.loop-turn.tokens ≡ None = ap (λ (l : List Modifier). lead (modifier_word l) c.loop-turn.tokens) (sym c.as_slice.ensures.value) ∙ c.in_default.ensures.0 in
    run_none is_modifier q next _ c.left-turn-end.result c.loop-turn._turn c.loop-turn.found.items c.loop-turn.found.items c.loop-turn.tokens c.loop-turn.invariant c.loop-turn-test.true (no_modifier c.loop-turn.found.items c.loop-turn.tokens none)
    ∙ ok_both (sym c.from_vec.ensures) (sym c.in_default.ensures.1)

pub loop-turn-preserved : goal.loop-turn-preserved
loop-turn-preserved c =
    let next : List Modifier → Modifier → List Modifier = λ ms m. ms ++ m ∷ [] in
    let q : List Modifier → Reader Modifier = λ ms. one (modifier_word ms) in
    let found : c.push.new.self.items ≡ c.loop-turn.found.items ++ c.in-Some.modifier ∷ [] = search rules in
    let led : lead (modifier_word c.loop-turn.found.items) c.loop-turn.tokens ≡ Some (c.in-Some.modifier, c.modifier_word.new.tokens) =
    ap (λ (l : List Modifier). lead (modifier_word l) c.loop-turn.tokens) (sym c.as_slice.ensures.value) ∙ c.in-Some.ensures in
    run_more is_modifier q next _ c.left-turn-end.result c.loop-turn._turn c.loop-turn.found.items c.loop-turn.found.items c.loop-turn.tokens c.loop-turn.invariant c.loop-turn-test.true
    c.in-Some.modifier c.modifier_word.new.tokens (some_modifier c.loop-turn.found.items c.loop-turn.tokens c.in-Some.modifier c.modifier_word.new.tokens led) (one_modifier c.loop-turn.found.items c.loop-turn.tokens c.in-Some.modifier c.modifier_word.new.tokens led)
    ∙ ap (λ (l : List Modifier). RunAfter is_modifier q next (c.left-turn-end.result - (c.loop-turn._turn + 1)) l l c.modifier_word.new.tokens) (sym found)
