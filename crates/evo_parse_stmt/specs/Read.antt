-- Reading statements from the left.
use Rattle.std.specs.Prelude.{ℕ, zero, suc, ◌-◌, ◌^◌, List, [], ◌∷◌, Bool, true, false, Option, Some, None, codes}
use Rattle.evo_base.specs.declared.place.Place.{Place}
use Rattle.evo_combinators.specs.Reader.{◌>>=◌, pure, refuse, alt, one, many}
use Rattle.evo_combinators.specs.Guard.{ahead}
use Rattle.evo_combinators.specs.Attempt.{attempt, tries}
use Rattle.evo_combinators.specs.Three.{three}
use Rattle.evo_tree.specs.declared.name.Identifier.{Identifier}
use Rattle.evo_tree.specs.declared.name.TypeName.{TypeName}
use Rattle.evo_tree.specs.declared.expression.Expr.{Expr}
use Rattle.evo_tree.specs.declared.statement.Introducer.{Introducer}
use Rattle.evo_tree.specs.declared.statement.Binding.{Binding}
use Rattle.evo_tree.specs.declared.statement.Pattern.{Pattern}
use Rattle.evo_tree.specs.declared.statement.Pattern.TheVariants as tree
use Rattle.evo_tree.specs.declared.statement.ClauseLabel.{ClauseLabel}
use Rattle.evo_tree.specs.declared.statement.ClauseLabel.TheVariants as kind
use Rattle.evo_tree.specs.declared.statement.Block.{Block}
use Rattle.evo_tree.specs.declared.statement.Clause.{Clause}
use Rattle.evo_tree.specs.declared.statement.Stmt.{Stmt}
use Rattle.evo_tree.specs.declared.statement.Stmt.TheVariants as s
use Rattle.evo_tree.specs.declared.terminal.Terminal.TheVariants as t
use Rattle.evo_tree.specs.Pieces.{is_terminal, mark, identifier, word, integer, string}
use Rattle.evo_tree.specs.Types.{type_head}
use Rattle.evo_tree.specs.Statements as grammar
use Rattle.evo_tree.specs.Statements.{introduces, attached_minus, is_here, is_below, is_later, assigns_to, binding, path_of, case_of_type, is_last_clause, is_last_branch, no_longer_first, less}
use Rattle.evo_parse_expr.specs.Read.{Reader, opens, after, type_of, expr}
use Rattle.evo_parse_expr.specs.AtDepth.{called_at}

-- ---- patterns

abbrev pub named_binder : Option Identifier → Reader Binding
named_binder l = one identifier >>= (λ n. pure (binding l (Some n)))

abbrev pub blank_binder : Option Identifier → Reader Binding
blank_binder l = one (mark t.Underscore) >>= (λ _. pure (binding l None))

unfoldable pub binder : Option Identifier → Reader Binding
binder l = alt (mark t.Let) (λ _. named_binder l) (blank_binder l)

unfoldable pub sub : Reader Binding
sub = alt identifier (λ l. one (mark t.Colon) >>= (λ _. binder (Some l))) (binder None)

unfoldable pub subs : Reader (List Binding)
subs = sub >>= (λ b. after b (many (mark t.Comma) (λ _. sub)))

unfoldable pub rest_of_payload : Reader (List Binding)
rest_of_payload = do
  bs ← subs
  _ ← one (mark t.CloseParenthesis)
  pure bs

unfoldable pub payload : ℕ → Reader (Option (List Binding))
payload d = opens d (mark t.OpenParenthesis) (λ _. rest_of_payload >>= (λ bs. pure (Some bs))) (pure None)

-- the names behind the first two
abbrev pub rest_of_path : Place × List ℕ → Identifier → Reader (TypeName × Identifier)
rest_of_path head n = many (mark t.Dot) (λ _. one identifier) >>= (λ ns. pure (path_of head.0 (head.1 ∷ []) n ns))

unfoldable pub path : Place × List ℕ → Reader (TypeName × Identifier)
path head = do
  _ ← one (mark t.Dot)
  n ← one identifier
  rest_of_path head n

unfoldable pub magnitude : Place → Reader Pattern
magnitude p = do
  v ← one (integer (2 ^ 63))
  pure (tree.Negative p v.1)

unfoldable pub implicit : ℕ → Place → Reader Pattern
implicit d p = do
  n ← one identifier
  bs ← payload d
  pure (tree.Case p None n bs)

unfoldable pub typed : ℕ → Place × List ℕ → Reader Pattern
typed d head = do
  p ← path head
  bs ← payload d
  pure (case_of_type p head.0 bs)

unfoldable pub pattern : ℕ → Reader Pattern
pattern d = alt (mark t.Dot) (implicit d)
    (alt type_head (typed d)
    (alt attached_minus magnitude
    (alt (integer (2 ^ 63 - 1)) (λ v. pure (tree.Integer v.0 v.1))
    (alt string (λ v. pure (tree.String v.0 v.1))
    (alt (mark t.True) (λ p. pure (tree.Boolean p true))
    (one (mark t.False) >>= (λ p. pure (tree.Boolean p false))))))))

-- ---- several statements, where inner reads a statement

unfoldable pub later : Reader Stmt → Reader Stmt
later inner = ahead is_later >>= (λ _. inner)

unfoldable pub further : Reader Stmt → Reader Stmt
further inner = alt (mark t.Semicolon) (λ _. later inner) (ahead is_below >>= (λ _. later inner))

abbrev pub statement_at : Reader Stmt → Bool → Reader Stmt
statement_at inner true = inner
statement_at inner false = further inner

abbrev pub statements : Reader Stmt → Bool → Reader (List Stmt)
statements inner first = tries (statement_at inner) no_longer_first first

unfoldable pub some_statements : Reader Stmt → Reader (List Stmt)
some_statements inner = do
  x ← inner
  xs ← statements inner false
  pure (x ∷ xs)

unfoldable pub rest_of_block : Reader Stmt → Place → Reader Block
rest_of_block inner p = do
  ss ← statements inner true
  q ← one (mark t.CloseBrace)
  pure (grammar.block p ss q)

unfoldable pub block_of : ℕ → Reader Stmt → Reader Block
block_of d inner = opens d (mark t.OpenBrace) (rest_of_block inner) refuse

-- ---- clauses

unfoldable pub patterns : ℕ → Reader (List Pattern)
patterns d = pattern d >>= (λ x. after x (many (mark t.Comma) (λ _. pattern d)))

unfoldable pub unknown : Place → Reader (Place × ClauseLabel)
unknown p = do
  _ ← one (word (codes "unknown"))
  _ ← one (mark t.Default)
  pure (p, kind.UnknownDefault)

unfoldable pub label : ℕ → Reader (Place × ClauseLabel)
label d = alt (mark t.Case) (λ p. patterns d >>= (λ xs. pure (p, kind.Case xs)))
    (alt (mark t.Default) (λ p. pure (p, kind.Default)) (one (mark t.At) >>= unknown))

unfoldable pub clause : ℕ → Reader Stmt → Reader Clause
clause d inner = do
  l ← label d
  _ ← one (mark t.Colon)
  ss ← some_statements inner
  pure (grammar.clause l ss)

abbrev pub clause_at : ℕ → Reader Stmt → Bool → Reader Clause
clause_at d inner true = refuse
clause_at d inner false = clause d inner

unfoldable pub rest_of_clauses : ℕ → Reader Stmt → Reader (List Clause)
rest_of_clauses d inner = do
  c ← clause d inner
  cs ← tries (clause_at d inner) is_last_clause (is_last_clause false c)
  _ ← one (mark t.CloseBrace)
  pure (c ∷ cs)

unfoldable pub clauses_of : ℕ → Reader Stmt → Reader (List Clause)
clauses_of d inner = opens d (mark t.OpenBrace) (λ _. rest_of_clauses (less d) inner) refuse

-- ---- statements, where e reads an expression, a the arguments of a call and inner a statement in braces

unfoldable pub annotation : Reader (Option TypeName)
annotation = alt (mark t.Colon) (λ _. type_of >>= (λ n. pure (Some n))) (pure None)

module _ (inits : Bool) (d : ℕ) (e : Reader Expr) (a : Reader (List (Option Identifier × Expr))) (inner : Reader Stmt) where
  unfoldable pub rest_of_local : Place × Introducer → Reader Stmt
  rest_of_local i = do
    n ← one identifier
    ty ← annotation
    _ ← one (mark t.Equal)
    y ← e
    pure (s.Local i.0 i.1 n ty y)

  unfoldable pub rest_of_discard : Place → Reader Stmt
  rest_of_discard p = do
    _ ← one (mark t.Equal)
    y ← e
    pure (s.Discard p y)

  unfoldable pub branch : Reader (Option Expr × Block)
  branch = do
    y ← e
    b ← block_of d inner
    pure (Some y, b)

  -- a block behind `else`
  abbrev pub last_branch : Reader (Option Expr × Block)
  last_branch = block_of d inner >>= (λ b. pure (None, b))

  unfoldable pub behind_else : Reader (Option Expr × Block)
  behind_else = alt (mark t.If) (λ _. branch) last_branch

  abbrev pub else_at : Bool → Reader (Option Expr × Block)
  else_at true = refuse
  else_at false = one (mark t.Else) >>= (λ _. behind_else)

  unfoldable pub rest_of_if : Place → Reader Stmt
  rest_of_if p = do
    b ← branch
    bs ← tries else_at is_last_branch false
    pure (s.If p (b ∷ bs))

  unfoldable pub rest_of_while : Place → Reader Stmt
  rest_of_while p = do
    y ← e
    b ← block_of d inner
    pure (s.While p y b)

  unfoldable pub value_here : Reader Expr
  value_here = ahead is_here >>= (λ _. e)

  unfoldable pub rest_of_return : Place → Reader Stmt
  rest_of_return p = do
    y ← attempt value_here
    pure (s.Return p y)

  unfoldable pub rest_of_switch : Place → Reader Stmt
  rest_of_switch p = do
    y ← e
    cs ← clauses_of d inner
    pure (s.Switch p y cs)

  unfoldable pub self_init : Reader Stmt
  self_init = do
    p ← one (mark t.SelfValue)
    _ ← one (mark t.Dot)
    _ ← one (mark t.Init)
    as' ← a
    pure (s.SelfInit p as')

  unfoldable pub super_init : Reader Stmt
  super_init = do
    p ← one (mark t.Super)
    _ ← one (mark t.Dot)
    _ ← one (mark t.Init)
    as' ← a
    pure (s.SuperInit p as')

  unfoldable pub rest_of_assignment : Expr → Reader Stmt
  rest_of_assignment y = alt (assigns_to y) (λ o. e >>= (λ z. pure (s.Assign y o z))) (pure (s.Expr y))

  unfoldable pub action : Reader Stmt
  action = e >>= rest_of_assignment

  abbrev pub action_of : Bool → Reader Stmt
  action_of false = action
  action_of true = three (is_terminal t.SelfValue) (is_terminal t.Dot) (is_terminal t.Init) self_init
      (three (is_terminal t.Super) (is_terminal t.Dot) (is_terminal t.Init) super_init action)

  -- the statements that leave something
  unfoldable pub leaving : Reader Stmt
  leaving = alt (mark t.Return) rest_of_return
      (alt (mark t.Break) (λ p. pure (s.Break p))
      (alt (mark t.Continue) (λ p. pure (s.Continue p))
      (alt (mark t.Switch) rest_of_switch (action_of inits))))

  unfoldable pub stmt_of : Reader Stmt
  stmt_of = alt introduces rest_of_local
      (alt (mark t.Underscore) rest_of_discard
      (alt (mark t.If) rest_of_if
      (alt (mark t.While) rest_of_while leaving)))

abbrev pub call : ℕ → Reader (List (Option Identifier × Expr))
call d = called_at d

unfoldable pub stmt : Bool → ℕ → Reader Stmt
stmt inits zero = stmt_of inits zero (expr zero) (call zero) refuse
stmt inits (suc d) = stmt_of inits (suc d) (expr (suc d)) (call (suc d)) (stmt inits d)

-- a statement in braces, where so much nesting may open with them
abbrev pub inner_of : Bool → ℕ → Reader Stmt
inner_of inits zero = refuse
inner_of inits (suc d) = stmt inits d

abbrev pub block : Bool → ℕ → Reader Block
block inits d = block_of d (inner_of inits d)

-- a statement of a client, the first one (true) or one behind a separator
abbrev pub statement : Bool → ℕ → Reader Stmt
statement true d = stmt false d
statement false d = later (stmt false d)
