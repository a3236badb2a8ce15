use Rattle.std.proofs.Common.{◌≡◌, ℕ, ◌-◌, ◌+◌, Bool, true, List, [], ◌∷◌, ◌++◌, sym, ap, ap₂, ◌∙◌, rules}
use Rattle.evo_combinators.specs.Guard.{run}
use Rattle.evo_combinators.proofs.AtDepth.{front_one}
use Rattle.evo_combinators.proofs.RunTurns.{RunAfter, run_more}
use Rattle.evo_tree.specs.declared.declaration.Decl.{Decl}
use Rattle.evo_tree.specs.Pieces.{Piece}
use Rattle.evo_parse_expr.specs.Read.{Reader}
use Rattle.evo_parse_decl.specs.Read.{goes_on, begins_member, next}
use Rattle.evo_parse_decl.specs.Closed.{member_at}
use Rattle.evo_parse_decl.proofs.Runs.{run_begin}
use Rattle.evo_parse_decl.proofs.member.further_members.Goals as goal

pub loop-turn-init : goal.loop-turn-init
loop-turn-init c =
    let g : Bool → Piece → Bool = λ _. goes_on (begins_member c.args.interface c.args.scope) in
    let q : Bool → Reader (List Decl) = λ _. next (member_at c.args.interface c.args.scope c.args.depth) in
    let keep : Bool → List Decl → Bool = λ u _. u in
    let ts = c.args.tokens.now in
    let found : c.push.new.self.items ≡ c.args.first ∷ [] = search rules in
    front_one c.args.first (run g q keep true ts) ∙ run_begin g q keep true (c.args.first ∷ []) ts
    ∙ ap₂ (λ (n : ℕ) (l : List (List Decl)). RunAfter g q keep (n - 0) l true ts) (sym c.left-turn-end.ensures) (sym found)

pub loop-turn-preserved : goal.loop-turn-preserved
loop-turn-preserved c =
    let g : Bool → Piece → Bool = λ _. goes_on (begins_member c.args.interface c.args.scope) in
    let q : Bool → Reader (List Decl) = λ _. next (member_at c.args.interface c.args.scope c.args.depth) in
    let keep : Bool → List Decl → Bool = λ u _. u in
    let found : c.push-in-loop-turn.new.self.items ≡ c.loop-turn.found.items ++ c.in_ok-next_member.field-0 ∷ [] = search rules in
    run_more g q keep _ c.left-turn-end.result c.loop-turn._turn c.loop-turn.found.items true c.loop-turn.tokens c.loop-turn.invariant c.loop-turn-test.true
    c.in_ok-next_member.field-0 c.next_member.new.tokens (sym c.starts_next.ensures ∙ c.if-not-starts_next.false) c.in_ok-next_member.ensures
    ∙ ap (λ (l : List (List Decl)). RunAfter g q keep (c.left-turn-end.result - (c.loop-turn._turn + 1)) l true c.next_member.new.tokens) (sym found)
