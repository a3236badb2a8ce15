-- A function value that reads statements with less nesting.
use Rattle.std.specs.Prelude.{ℕ, ◌<◌, List, Bool, Result}
use Rattle.std.specs.declared.alloc.Global.{Global}
use denote.Ref.{MutBor}
use Rattle.evo_combinators.specs.declared.ReadError.{ReadError}
use Rattle.evo_combinators.specs.Reader.{Reads}
use Rattle.evo_tree.specs.declared.statement.Stmt.{Stmt}
use Rattle.evo_tree.specs.Pieces.{Piece}
use Rattle.evo_parse_stmt.specs.Read.{stmt}

pub record ReadsInner (limit : ℕ) (pre : Global → MutBor (List Piece) → ℕ → Bool → Type 0)
    (post : Global → MutBor (List Piece) → ℕ → Bool → Result Stmt ReadError → MutBor (List Piece) → Type 0) : Type 0 where
  pub callable : (alloc : Global) (old : MutBor (List Piece)) (d : ℕ) (inits : Bool) → d < limit → pre alloc old d inits
  pub reads : (alloc : Global) (old new : MutBor (List Piece)) (d : ℕ) (inits : Bool) (r : Result Stmt ReadError) →
      post alloc old d inits r new → Reads (stmt inits d old.now) r new.now
