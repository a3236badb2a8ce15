-- The readers of one nesting, as the functions have them.
use Rattle.std.specs.Prelude.{ℕ, List, Option, Bool}
use Rattle.evo_base.specs.declared.place.Place.{Place}
use Rattle.evo_combinators.specs.Attempt.{tries}
use Rattle.evo_tree.specs.declared.expression.Expr.{Expr}
use Rattle.evo_tree.specs.declared.statement.Introducer.{Introducer}
use Rattle.evo_tree.specs.declared.statement.ClauseLabel.{ClauseLabel}
use Rattle.evo_tree.specs.declared.statement.Block.{Block}
use Rattle.evo_tree.specs.declared.statement.Clause.{Clause}
use Rattle.evo_tree.specs.declared.statement.Stmt.{Stmt}
use Rattle.evo_tree.specs.Statements.{less, is_last_clause, is_last_branch}
use Rattle.evo_parse_expr.specs.Read.{Reader, expr}
use Rattle.evo_parse_stmt.specs.Read as read
use Rattle.evo_parse_stmt.specs.Read.{inner_of, call}

module _ (inits : Bool) (d : ℕ) where
  abbrev pub later : Reader Stmt
  later = read.later (inner_of inits d)

  abbrev pub further : Reader Stmt
  further = read.further (inner_of inits d)

  abbrev pub statement_at : Bool → Reader Stmt
  statement_at = read.statement_at (inner_of inits d)

  abbrev pub statements : Bool → Reader (List Stmt)
  statements = read.statements (inner_of inits d)

  abbrev pub some_statements : Reader (List Stmt)
  some_statements = read.some_statements (inner_of inits d)

  abbrev pub rest_of_block : Place → Reader Block
  rest_of_block = read.rest_of_block (inner_of inits d)

  abbrev pub block : Reader Block
  block = read.block inits d

  abbrev pub label : Reader (Place × ClauseLabel)
  label = read.label (less d)

  abbrev pub clause : Reader Clause
  clause = read.clause (less d) (inner_of inits d)

  abbrev pub clause_at : Bool → Reader Clause
  clause_at = read.clause_at (less d) (inner_of inits d)

  abbrev pub further_clauses : Bool → Reader (List Clause)
  further_clauses = tries clause_at is_last_clause

  abbrev pub rest_of_clauses : Reader (List Clause)
  rest_of_clauses = read.rest_of_clauses (less d) (inner_of inits d)

  abbrev pub clauses : Reader (List Clause)
  clauses = read.clauses_of d (inner_of inits d)

  abbrev pub rest_of_local : Place × Introducer → Reader Stmt
  rest_of_local = read.rest_of_local inits d (expr d) (call d) (inner_of inits d)

  abbrev pub rest_of_discard : Place → Reader Stmt
  rest_of_discard = read.rest_of_discard inits d (expr d) (call d) (inner_of inits d)

  abbrev pub branch : Reader (Option Expr × Block)
  branch = read.branch inits d (expr d) (call d) (inner_of inits d)

  abbrev pub last_branch : Reader (Option Expr × Block)
  last_branch = read.last_branch inits d (expr d) (call d) (inner_of inits d)

  abbrev pub behind_else : Reader (Option Expr × Block)
  behind_else = read.behind_else inits d (expr d) (call d) (inner_of inits d)

  abbrev pub else_at : Bool → Reader (Option Expr × Block)
  else_at = read.else_at inits d (expr d) (call d) (inner_of inits d)

  abbrev pub further_branches : Bool → Reader (List (Option Expr × Block))
  further_branches = tries else_at is_last_branch

  abbrev pub rest_of_if : Place → Reader Stmt
  rest_of_if = read.rest_of_if inits d (expr d) (call d) (inner_of inits d)

  abbrev pub rest_of_while : Place → Reader Stmt
  rest_of_while = read.rest_of_while inits d (expr d) (call d) (inner_of inits d)

  abbrev pub value_here : Reader Expr
  value_here = read.value_here inits d (expr d) (call d) (inner_of inits d)

  abbrev pub rest_of_return : Place → Reader Stmt
  rest_of_return = read.rest_of_return inits d (expr d) (call d) (inner_of inits d)

  abbrev pub rest_of_switch : Place → Reader Stmt
  rest_of_switch = read.rest_of_switch inits d (expr d) (call d) (inner_of inits d)

  abbrev pub self_init : Reader Stmt
  self_init = read.self_init inits d (expr d) (call d) (inner_of inits d)

  abbrev pub super_init : Reader Stmt
  super_init = read.super_init inits d (expr d) (call d) (inner_of inits d)

  abbrev pub rest_of_assignment : Expr → Reader Stmt
  rest_of_assignment = read.rest_of_assignment inits d (expr d) (call d) (inner_of inits d)

  abbrev pub action : Reader Stmt
  action = read.action inits d (expr d) (call d) (inner_of inits d)

  abbrev pub action_of : Bool → Reader Stmt
  action_of = read.action_of inits d (expr d) (call d) (inner_of inits d)

  abbrev pub leaving : Reader Stmt
  leaving = read.leaving inits d (expr d) (call d) (inner_of inits d)

  abbrev pub stmt_of : Reader Stmt
  stmt_of = read.stmt_of inits d (expr d) (call d) (inner_of inits d)
