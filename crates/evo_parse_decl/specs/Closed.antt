-- Declarations over the grammar of statements, and their readers over that of blocks.
use Rattle.std.specs.Prelude.{ℕ, List, Bool, false}
use Rattle.evo_tree.specs.declared.statement.Block.{Block}
use Rattle.evo_tree.specs.Expressions.{Rule}
use Rattle.evo_tree.specs.declared.statement.Stmt.{Stmt}
use Rattle.evo_tree.specs.Statements.{IsBlock, IsStmt, Later}
use Rattle.evo_parse_expr.specs.Read.{Reader}
use Rattle.evo_tree.specs.declared.declaration.Decl.{Decl}
use Rattle.evo_tree.specs.declared.scope.Scope.{Scope}
use Rattle.evo_parse_stmt.specs.Read.{block, stmt, later}
use Rattle.evo_parse_decl.specs.Read.{declaration_of, member_kind}

-- a block, by how much nesting may open, and whether it calls initialisers
abbrev pub BlockAt : ℕ → Bool → Rule Block
BlockAt d inits = IsBlock inits d

abbrev pub block_at : ℕ → Bool → Reader Block
block_at d inits = block inits d

-- a statement that stands behind others, by how much nesting may open
abbrev pub StmtAt : ℕ → Rule Stmt
StmtAt d = Later (IsStmt false d)

abbrev pub stmt_at : ℕ → Reader Stmt
stmt_at d = later (stmt false d)

-- a declaration in braces
abbrev pub member_at : Bool → Scope → ℕ → Reader (List Decl)
member_at interface s d = declaration_of s d (member_kind block_at interface s d)
