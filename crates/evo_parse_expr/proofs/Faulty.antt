-- What the outcomes of the reader of expressions say of the grammar.
use Rattle.std.proofs.Common.{◌≡◌, ℕ, ◌-◌, ◌≤◌, List, length, drop, None, Ok, refl, sym, subst, arith}
use Rattle.evo_base.specs.declared.token.Token.{Token}
use Rattle.evo_combinators.specs.declared.Fault.TheVariants.{Grammar, Deep}
use Rattle.evo_combinators.specs.declared.ReadError.{ReadError}
use Rattle.evo_combinators.specs.declared.ReadError.TheVariants as errors
use Rattle.evo_combinators.specs.Reader.{Fails}
use Rattle.evo_combinators.proofs.Says as says
use Rattle.evo_tree.specs.declared.expression.Expr.{Expr}
use Rattle.evo_tree.specs.Pieces.{Piece, pieces, opens_nesting}
use Rattle.evo_tree.specs.Expressions.{IsExpr}
use Rattle.evo_parse_expr.specs.Read.{expr}
use Rattle.evo_parse_expr.specs.Contract.{IsReadTo, IsRefusedAt, IsDeepAt}
use Rattle.evo_parse_expr.specs.Fault.{IsFault, Places}
use Rattle.evo_parse_expr.specs.declared.parse.ParseFault.{ParseFault}
use Rattle.evo_parse_expr.proofs.Tests.{Stop}
use Rattle.evo_parse_expr.proofs.More.{expr_grammar}
use Rattle.evo_parse_expr.proofs.Nesting.{May, nest_expr}
use Rattle.evo_parse_expr.proofs.Slices.{length_pieces}

module _ (d : ℕ) (ps : List Piece) (at : ℕ) (le : at ≤ length ps) where
  pub read_left : (x : Expr) (rest : List Piece) → expr d (drop at ps) ≡ Ok (x, rest) → length rest ≤ length ps
  read_left = says.read_left (Stop 6) (May d) opens_nesting IsExpr expr expr_grammar d (nest_expr d) ps at le

  pub found : (x : Expr) (rest : List Piece) → expr d (drop at ps) ≡ Ok (x, rest) → IsReadTo d ps at x (length ps - length rest)
  found = says.found (Stop 6) (May d) opens_nesting IsExpr expr expr_grammar d (nest_expr d) ps at le

-- the fault that a place so many tokens before the end says
pub faulty : (d : ℕ) (text : List ℕ) (tokens : List Token) (at : ℕ) → at ≤ length tokens → (error : ReadError) (p : ParseFault) → Fails error (expr d (drop at (pieces text tokens))) → Places text tokens error p → IsFault d text tokens at p
faulty d text tokens at le errors.Memory p fails places = subst (IsFault d text tokens at) (sym places) tt
faulty d text tokens at le (errors.Fault (Grammar left)) p fails places =
    let same = length_pieces text None tokens in
    let refused = says.refused (Stop 6) (May d) opens_nesting IsExpr expr expr_grammar d (nest_expr d) (pieces text tokens) at (omega arith) left fails in
    subst (IsFault d text tokens at) (sym places) (length tokens - left, subst (λ n. IsRefusedAt d (pieces text tokens) at (n - left)) same refused, refl)
faulty d text tokens at le (errors.Fault (Deep left)) p fails places =
    let same = length_pieces text None tokens in
    let deep = says.deep (Stop 6) (May d) opens_nesting IsExpr expr expr_grammar d (nest_expr d) (pieces text tokens) at (omega arith) left fails in
    subst (IsFault d text tokens at) (sym places) (length tokens - left, subst (λ n. IsDeepAt d (pieces text tokens) at (n - left)) same deep, refl)
