use Rattle.std.proofs.Common.{◌≡◌, ℕ, ◌-◌, ◌+◌, List, [], ◌∷◌, ◌++◌, sym, ap, ap₂, ◌∙◌, rules}
use Rattle.evo_base.specs.declared.place.Place.{Place}
use Rattle.evo_combinators.specs.Reader.{many}
use Rattle.evo_combinators.proofs.AtDepth.{After, front_one, turn_begin, turn_more}
use Rattle.evo_tree.specs.Pieces.{mark}
use Rattle.evo_parse_header.proofs.parts.further.Goals as goal

pub loop-turn-init : goal.loop-turn-init
loop-turn-init g c =
    let f = mark c.args.terminal in
    let q = λ (p : Place). g.T.Part.reader c.args.depth in
    let ts = c.args.tokens.now in
    let found : c.push.new.self.items ≡ c.args.first ∷ [] = search rules in
    front_one c.args.first (many f q ts) ∙ turn_begin f q (c.args.first ∷ []) ts
    ∙ ap₂ (λ (n : ℕ) (l : List g.row.T.Denot). After f q (n - 0) l ts) (sym c.left-turn-end.ensures) (sym found)

pub loop-turn-preserved : goal.loop-turn-preserved
loop-turn-preserved g c =
    let f = mark c.args.terminal in
    let q = λ (p : Place). g.T.Part.reader c.args.depth in
    let found : c.push-in-loop-turn.new.self.items ≡ c.loop-turn.found.items ++ c.in_ok-part.field-0 ∷ [] = search rules in
    turn_more f q _ c.left-turn-end.result c.loop-turn._turn c.loop-turn.found.items c.loop-turn.tokens c.loop-turn.invariant c.loop-turn-test.true
    c.in-Some.field-0 c.mark.new.self c.in_ok-part.field-0 c.part.new.tokens c.in-Some.ensures c.in_ok-part.ensures
    ∙ ap (λ (l : List g.row.T.Denot). After f q (c.left-turn-end.result - (c.loop-turn._turn + 1)) l c.part.new.tokens) (sym found)
