-- What the answers of the parser of expressions say by themselves.
use Rattle.std.specs.Prelude.{◌≡◌, ℕ, List}
use Rattle.evo_combinators.specs.Contract as contract
use Rattle.evo_tree.specs.declared.expression.Expr.{Expr}
use Rattle.evo_tree.specs.Pieces.{Piece, opens_nesting}
use Rattle.evo_tree.specs.Expressions.{IsExpr}

-- the answers exclude each other, and each has one place
abbrev pub OneAnswer : ℕ → List Piece → ℕ → Type 0
OneAnswer d pieces at = contract.OneAnswer opens_nesting IsExpr d pieces at

-- pieces spell at most one expression, of whatever nesting
abbrev pub OneExpression : Type 0
OneExpression = (us : List Piece) (d e : ℕ) (x y : Expr) → IsExpr d us x → IsExpr e us y → x ≡ y
