-- The texts of parts of trees, by those of the canonical text: what an equation there says of the texts of parts is said here of the parts.
use Rattle.std.specs.Prelude.{ℕ, zero, suc, List, [], ◌++◌, codes, Option}
use Rattle.evo_tree.specs.declared.name.Identifier.{Identifier}
use Rattle.evo_tree.specs.declared.expression.InfixOperator.{InfixOperator}
use Rattle.evo_tree.specs.declared.expression.Expr.{Expr}
use Rattle.evo_tree.specs.declared.statement.Block.{Block}
use Rattle.evo_tree.specs.declared.statement.Clause.{Clause, fold-Clause}
use Rattle.evo_tree.specs.declared.statement.Stmt.{Stmt, out-Stmt, map-Stmt}
use Rattle.evo_tree.specs.declared.declaration.DeclKind.{DeclKind, fold-DeclKind}
use Rattle.evo_tree.specs.Canonical.{Text, optional, name_text, infix_text, expr_text, call_arguments, branch_text, stmt_words, block_level, clause_level, stmt_level, block_text, stmt_text, kind_level, decl_level}

-- a mark that stands between each two items, before the item at an index
abbrev pub between : ℕ → Text → Text
between zero mark = []
between (suc index) mark = mark

-- ---- expressions

-- a name, with the arguments where it is called
abbrev pub call : Identifier → Option (List (Option Identifier × Expr)) → Text
call i xs = name_text i ++ optional call_arguments xs

abbrev pub member : Identifier × Option (List (Option Identifier × Expr)) → Text
member m = codes "." ++ call m.0 m.1

abbrev pub operand : InfixOperator × Expr → Text
operand o = codes " " ++ infix_text o.0 ++ codes " " ++ expr_text o.1

-- ---- statements

abbrev pub Lines : Type 0
Lines = ℕ → Text

abbrev pub clause_lines : Clause → Lines
clause_lines = fold-Clause Lines Lines Lines stmt_level block_level clause_level

abbrev pub branch : ℕ → Option Expr × Block → Text
branch d b = branch_text d (b.0, block_text b.1)

-- a statement without the blanks before it and the line feed behind it
abbrev pub words_of : Stmt → Lines
words_of s = stmt_words (map-Stmt Stmt Block Clause Lines Lines Lines stmt_text block_text clause_lines (out-Stmt s))

-- ---- declarations

-- a declaration without its attributes and modifiers, the blanks before it and the line feed behind it
abbrev pub kind_text : DeclKind → Lines
kind_text = fold-DeclKind Lines Lines kind_level decl_level
