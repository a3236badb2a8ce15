use Rattle.std.proofs.Common.{◌≡◌, ℕ, ◌-◌, ◌≤◌, length, drop, List, None, sym, ◌∙◌, ap, subst, arith, rules}
use Rattle.evo_combinators.specs.Reader.{Fails}
use Rattle.evo_tree.specs.Pieces.{Piece, pieces}
use Rattle.evo_parse_expr.specs.Contract.{IsReadTo}
use Rattle.evo_parse_expr.specs.Read.{expr}
use Rattle.evo_parse_expr.proofs.Slices.{length_pieces}
use Rattle.evo_parse_expr.proofs.Faulty.{read_left, found, faulty}
use Rattle.evo_parse_expr.proofs.parse.parse_expr.Goals as goal

pub overflow_sub-result : goal.overflow_sub-result
overflow_sub-result c =
    let text = c.args.text.now in
    let tokens = c.args.tokens.now in
    let same = length_pieces text None tokens in
    let view : c.new-cursor.result ≡ drop c.args.at (pieces text tokens) = search rules in
    let left = read_left (64 - c.args.opened) (pieces text tokens) c.args.at (omega (arith, same, c.requires.at)) c.in-Ok.found c.expr.new.tokens (ap (expr (64 - c.args.opened)) (sym view) ∙ c.in-Ok.ensures) in
    omega (arith, left, same, c.left.ensures)

pub returns-in-Ok-clause-found : goal.returns-in-Ok-clause-found
returns-in-Ok-clause-found c =
    let text = c.args.text.now in
    let tokens = c.args.tokens.now in
    let d = 64 - c.args.opened in
    let same = length_pieces text None tokens in
    let view : c.new-cursor.result ≡ drop c.args.at (pieces text tokens) = search rules in
    let read = found d (pieces text tokens) c.args.at (omega (arith, same, c.requires.at)) c.in-Ok.found c.expr.new.tokens (ap (expr d) (sym view) ∙ c.in-Ok.ensures) in
    let end : length (pieces text tokens) - length c.expr.new.tokens ≡ length tokens - c.left.result = omega (arith, same, c.left.ensures) in
    subst (IsReadTo d (pieces text tokens) c.args.at c.in-Ok.found) end read

pub returns-clause-fault : goal.returns-clause-fault
returns-clause-fault c =
    let text = c.args.text.now in
    let tokens = c.args.tokens.now in
    let d = 64 - c.args.opened in
    let view : c.new-cursor.result ≡ drop c.args.at (pieces text tokens) = search rules in
    faulty d text tokens c.args.at c.requires.at c.in-Err.error c.in_ok-fault_of-in-Err.field-0 (subst (λ (ps : List Piece). Fails c.in-Err.error (expr d ps)) view c.in-Err.ensures) c.in_ok-fault_of-in-Err.ensures
