use Rattle.std.proofs.Common.{◌≡◌, ℕ, ◌-◌, ◌+◌, List, [], ◌∷◌, ◌++◌, sym, ap, ap₂, ◌∙◌, rules}
use Rattle.evo_base.specs.declared.place.Place.{Place}
use Rattle.evo_combinators.specs.Reader.{many}
use Rattle.evo_combinators.proofs.AtDepth.{After, front_one, turn_begin, turn_more}
use Rattle.evo_tree.specs.Pieces.{mark}
use Rattle.evo_tree.specs.declared.statement.Binding.{Binding}
use Rattle.evo_tree.specs.declared.terminal.Terminal.TheVariants.{Comma}
use Rattle.evo_parse_expr.specs.Read.{Reader}
use Rattle.evo_parse_stmt.specs.Read.{sub}
use Rattle.evo_parse_stmt.proofs.matching.further_subs.Goals as goal

pub loop-turn-init : goal.loop-turn-init
loop-turn-init c =
    let q : Place → Reader Binding = λ _. sub in
    let ts = c.args.tokens.now in
    let found : c.push.new.self.items ≡ c.args.first ∷ [] = search rules in
    front_one c.args.first (many (mark Comma) q ts) ∙ turn_begin (mark Comma) q (c.args.first ∷ []) ts
    ∙ ap₂ (λ (n : ℕ) (l : List Binding). After (mark Comma) q (n - 0) l ts) (sym c.left-turn-end.ensures) (sym found)

pub loop-turn-preserved : goal.loop-turn-preserved
loop-turn-preserved c =
    let q : Place → Reader Binding = λ _. sub in
    let found : c.push-in-loop-turn.new.self.items ≡ c.loop-turn.found.items ++ c.in_ok-sub.field-0 ∷ [] = search rules in
    turn_more (mark Comma) q _ c.left-turn-end.result c.loop-turn._turn c.loop-turn.found.items c.loop-turn.tokens c.loop-turn.invariant c.loop-turn-test.true
    c.in-Some.field-0 c.mark.new.self c.in_ok-sub.field-0 c.sub.new.tokens c.in-Some.ensures c.in_ok-sub.ensures
    ∙ ap (λ (l : List Binding). After (mark Comma) q (c.left-turn-end.result - (c.loop-turn._turn + 1)) l c.sub.new.tokens) (sym found)
