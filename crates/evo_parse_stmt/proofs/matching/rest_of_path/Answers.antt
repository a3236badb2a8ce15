use Rattle.std.proofs.Common.{◌≡◌, ℕ, ◌-◌, ◌+◌, List, [], ◌∷◌, ◌++◌, Ok, Err, sym, ap, ap₂, ◌∙◌, rules}
use Rattle.std.proofs.lemmas.Result.{err_from_is_err_and}
use Rattle.evo_tree.specs.Pieces.{Piece}
use Rattle.evo_parse_stmt.specs.Read.{rest_of_path}
use Rattle.evo_parse_stmt.proofs.Paths.{PathAfter, path_init, path_none, path_fails, path_more, reads_err}
use Rattle.evo_parse_stmt.proofs.matching.rest_of_path.Goals as goal

pub loop-turn-init : goal.loop-turn-init
loop-turn-init c =
    let names : c.push.new.self.items ≡ c.args.head.1 ∷ [] = search rules in
    path_init c.args.head c.args.second c.args.tokens.now
    ∙ ap₂ (λ (n : ℕ) (l : List (List ℕ)). PathAfter c.args.head.0 (n - 0) l c.args.second c.args.tokens.now) (sym c.left-turn-end.ensures) (sym names)

pub returns-in_default : goal.returns-in_default
returns-in_default c =
    path_none c.args.head.0 _ c.left-turn-end.result c.loop-turn._turn c.loop-turn.names.items c.loop-turn.last c.loop-turn.tokens c.loop-turn.invariant c.loop-turn-test.true (c.in_default.ensures.0)
    ∙ ap₂ (λ (l : List (List ℕ)) (ts : List Piece). Ok ((record { place = c.args.head.0; names = l }, c.loop-turn.last), ts)) (sym c.from_vec-names.ensures) (sym (c.in_default.ensures.1))

pub returns-in_err-next : goal.returns-in_err-next
returns-in_err-next c =
    let same = err_from_is_err_and c.from_residual-in_err-next.result c.from_residual-in_err-next.ensures.1 in
    let goes_on = same.2 in
    reads_err (rest_of_path c.args.head c.args.second c.args.tokens.now) c.from_residual-in_err-next.result c.in_err-next.field-0.0 c.expect_identifier.new.self (same.1 ∙ ap Err goes_on)
    (path_fails c.args.head.0 _ c.left-turn-end.result c.loop-turn._turn c.loop-turn.names.items c.loop-turn.last c.loop-turn.tokens c.loop-turn.invariant c.loop-turn-test.true
    c.in-Some.field-0 c.mark.new.self c.in-Some.ensures c.in_err-next.field-0.0 c.in_err-next.ensures)

pub loop-turn-preserved : goal.loop-turn-preserved
loop-turn-preserved c =
    let names : c.push-in-loop-turn.new.self.items ≡ c.loop-turn.names.items ++ c.loop-turn.last.text ∷ [] = search rules in
    path_more c.args.head.0 _ c.left-turn-end.result c.loop-turn._turn c.loop-turn.names.items c.loop-turn.last c.loop-turn.tokens c.loop-turn.invariant c.loop-turn-test.true
    c.in-Some.field-0 c.mark.new.self c.in_ok-next.next c.expect_identifier.new.self c.in-Some.ensures c.in_ok-next.ensures
    ∙ ap (λ (l : List (List ℕ)). PathAfter c.args.head.0 (c.left-turn-end.result - (c.loop-turn._turn + 1)) l c.in_ok-next.next c.expect_identifier.new.self) (sym names)
