use Rattle.std.proofs.Common.{◌≡◌, ℕ, ◌-◌, ◌+◌, List, [], ◌∷◌, ◌++◌, sym, ap, ap₂, ◌∙◌, rules}
use Rattle.evo_base.specs.declared.place.Place.{Place}
use Rattle.evo_combinators.specs.Reader.{many, one}
use Rattle.evo_combinators.proofs.AtDepth.{After, front_one, turn_begin, turn_more}
use Rattle.evo_tree.specs.Pieces.{mark}
use Rattle.evo_tree.specs.Types.{plain_name}
use Rattle.evo_tree.specs.declared.terminal.Terminal.TheVariants.{Dot}
use Rattle.evo_parse_expr.specs.Read.{Reader}
use Rattle.evo_parse_expr.proofs.types.further_names.Goals as goal

pub loop-turn-init : goal.loop-turn-init
loop-turn-init c =
    let q : Place → Reader (List ℕ) = λ _. one plain_name in
    let ts = c.args.tokens.now in
    let found : c.push.new.self.items ≡ c.args.first ∷ [] = search rules in
    front_one c.args.first (many (mark Dot) q ts) ∙ turn_begin (mark Dot) q (c.args.first ∷ []) ts
    ∙ ap₂ (λ (n : ℕ) (l : List (List ℕ)). After (mark Dot) q (n - 0) l ts) (sym c.left-turn-end.ensures) (sym found)

pub loop-turn-preserved : goal.loop-turn-preserved
loop-turn-preserved c =
    let q : Place → Reader (List ℕ) = λ _. one plain_name in
    let found : c.push-in-loop-turn.new.self.items ≡ c.loop-turn.found.items ++ c.in_ok-expect_plain_name.field-0 ∷ [] = search rules in
    turn_more (mark Dot) q _ c.left-turn-end.result c.loop-turn._turn c.loop-turn.found.items c.loop-turn.tokens c.loop-turn.invariant c.loop-turn-test.true
    c.in-Some.field-0 c.mark.new.self c.in_ok-expect_plain_name.field-0 c.expect_plain_name.new.self c.in-Some.ensures c.in_ok-expect_plain_name.ensures
    ∙ ap (λ (l : List (List ℕ)). After (mark Dot) q (c.left-turn-end.result - (c.loop-turn._turn + 1)) l c.expect_plain_name.new.self) (sym found)
