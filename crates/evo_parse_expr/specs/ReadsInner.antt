-- A function value that reads expressions with less nesting.
use Rattle.std.specs.Prelude.{ℕ, ◌<◌, List, Bool, true, false, Result}
use Rattle.std.specs.declared.alloc.Global.{Global}
use denote.Ref.{MutBor}
use Rattle.evo_combinators.specs.declared.ReadError.{ReadError}
use Rattle.evo_combinators.specs.Reader.{Reads}
use Rattle.evo_tree.specs.declared.expression.Expr.{Expr}
use Rattle.evo_tree.specs.Pieces.{Piece}
use Rattle.evo_parse_expr.specs.Read.{Reader, expr, unary}

-- a whole expression, or what follows a sign
abbrev pub expr_of : ℕ → Bool → Reader Expr
expr_of d true = expr d
expr_of d false = unary d

pub record ReadsInner (limit : ℕ) (pre : Global → MutBor (List Piece) → ℕ → Bool → Type 0)
    (post : Global → MutBor (List Piece) → ℕ → Bool → Result Expr ReadError → MutBor (List Piece) → Type 0) : Type 0 where
  pub callable : (alloc : Global) (old : MutBor (List Piece)) (d : ℕ) (whole : Bool) → d < limit → pre alloc old d whole
  pub reads : (alloc : Global) (old new : MutBor (List Piece)) (d : ℕ) (whole : Bool) (r : Result Expr ReadError) →
      post alloc old d whole r new → Reads (expr_of d whole old.now) r new.now
