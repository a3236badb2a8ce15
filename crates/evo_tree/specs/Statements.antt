-- The grammar of statements: which tokens spell which statement and which block.
--
--   block     = "{" [ statement { separator statement } ] "}"
--   statement = ( "let" | "var" ) NAME [ ":" type ] "=" expr
--             | "_" "=" expr
--             | "if" expr block { "else" "if" expr block } [ "else" block ]
--             | "while" expr block
--             | "return" [ expr ] | "break" | "continue"
--             | "switch" expr "{" clause { clause } "}"
--             | "self" "." "init" arguments | "super" "." "init" arguments
--             | post ( "=" | "+=" | "-=" | "*=" | "/=" | "%=" ) expr | expr
--   clause    = label ":" statement { separator statement }
--   label     = "case" pattern { "," pattern } | "default" | "@" "unknown" "default"
--   pattern   = "." NAME [ payload ] | type "." NAME [ payload ]
--             | [ "-" ] INT | STRING | "true" | "false"
--   payload   = "(" binder { "," binder } ")"
--   binder    = [ NAME ":" ] ( "let" NAME | "_" )
--
-- A separator is a `;`, or nothing where the next statement begins on a later line. Behind a separator no statement begins with `.`. The
-- value of a `return` begins on its line. What begins with `-` or `!`, and operands with operators between them, are not assigned to; `=`
-- stands with any white space, the other operators that assign are infix. `self.init` and `super.init` stand in initialisers alone. A
-- clause for all that is left is the last one. The `{` of blocks and of `switch` and the `(` of a payload nest.
use Rattle.std.specs.Prelude.{ℕ, zero, suc, ◌-◌, ◌^◌, List, [], ◌∷◌, ◌++◌, Bool, true, false, not, ◌||◌, ◌&&◌, Option, Some, None, codes, if◌then◌else◌}
use Rattle.evo_base.specs.declared.place.Place.{Place}
use Rattle.evo_combinators.specs.Rule.{Empty, Fail, TokenThen, One, Or, Then, Many}
use Rattle.evo_combinators.specs.Guard.{On, Run}
use Rattle.evo_lex.specs.Front.{when}
use Rattle.evo_tree.specs.declared.name.Identifier.{Identifier}
use Rattle.evo_tree.specs.declared.name.TypeName.{TypeName}
use Rattle.evo_tree.specs.declared.expression.Expr.{Expr, Expr-F, out-Expr}
use Rattle.evo_tree.specs.declared.expression.Expr.TheOpen as x
use Rattle.evo_tree.specs.declared.statement.Introducer.{Introducer}
use Rattle.evo_tree.specs.declared.statement.Introducer.TheVariants as introducer
use Rattle.evo_tree.specs.declared.statement.AssignmentOperator.{AssignmentOperator}
use Rattle.evo_tree.specs.declared.statement.AssignmentOperator.TheVariants as assignment
use Rattle.evo_tree.specs.declared.statement.Binding.{Binding}
use Rattle.evo_tree.specs.declared.statement.Pattern.{Pattern}
use Rattle.evo_tree.specs.declared.statement.Pattern.TheVariants as pattern
use Rattle.evo_tree.specs.declared.statement.ClauseLabel.{ClauseLabel}
use Rattle.evo_tree.specs.declared.statement.ClauseLabel.TheVariants as label
use Rattle.evo_tree.specs.declared.statement.Block.{Block, roll-Block}
use Rattle.evo_tree.specs.declared.statement.Clause.{Clause, roll-Clause, out-Clause}
use Rattle.evo_tree.specs.declared.statement.Stmt.{Stmt}
use Rattle.evo_tree.specs.declared.statement.Stmt.TheVariants as s
use Rattle.evo_tree.specs.declared.terminal.Terminal.{Terminal}
use Rattle.evo_tree.specs.declared.terminal.Terminal.TheVariants as t
use Rattle.evo_tree.specs.declared.terminal.Role.TheVariants as role
use Rattle.evo_tree.specs.Pieces.{Piece, is_terminal, has_role, placed, mark, identifier, word, integer, string}
use Rattle.evo_tree.specs.Expressions.{Rule, Nested, Unary, IsExpr, Call}
use Rattle.evo_tree.specs.Types.{type_head, IsType}

-- ---- tests of one piece

abbrev pub introduced : Terminal → Option Introducer
introduced t.Let = Some introducer.Let
introduced t.Var = Some introducer.Var
introduced k = None

-- takes `let` or `var`, with its place
unfoldable pub introduces : Piece → Option (Place × Introducer)
introduces p = placed p.place (introduced p.terminal)

abbrev pub assigning : Terminal → Option AssignmentOperator
assigning t.Equal = Some assignment.Assign
assigning t.PlusEqual = Some assignment.Add
assigning t.MinusEqual = Some assignment.Subtract
assigning t.StarEqual = Some assignment.Multiply
assigning t.SlashEqual = Some assignment.Divide
assigning t.PercentEqual = Some assignment.Remainder
assigning k = None

-- takes an operator that assigns
unfoldable pub assigns : Piece → Option AssignmentOperator
assigns p = if is_terminal t.Equal p || has_role role.Infix p then assigning p.terminal else None

-- takes `-` directly before what it belongs to; a text has an integer there only behind one that is negative
unfoldable pub attached_minus : Piece → Option Place
attached_minus p = when (is_terminal t.Minus p && (has_role role.Negative p || has_role role.Prefix p)) p.place

-- stands on the line of the token before it
unfoldable pub is_here : Piece → Bool
is_here p = not p.below

-- stands on a later line
unfoldable pub is_below : Piece → Bool
is_below p = p.below

-- may begin a statement behind a separator
unfoldable pub is_later : Piece → Bool
is_later p = not (is_terminal t.Dot p)

-- ---- trees

-- one level of an expression that is no negative literal
abbrev pub is_positive_level : Expr-F Expr → Bool
is_positive_level (x.Negative p v) = false
is_positive_level level = true

-- one level of an expression that may be assigned to
abbrev pub is_target_level : Expr-F Expr → Bool
is_target_level (x.Negative p v) = false
is_target_level (x.Prefix p o y) = false
is_target_level (x.Chain y os) = false
is_target_level (x.Members y ms) = is_positive_level (out-Expr y)
is_target_level level = true

unfoldable pub is_target : Expr → Bool
is_target y = is_target_level (out-Expr y)

-- takes an operator that assigns, behind what may be assigned to
unfoldable pub assigns_to : Expr → Piece → Option AssignmentOperator
assigns_to y p = if is_target y then assigns p else None

abbrev pub binding : Option Identifier → Option Identifier → Binding
binding l n = record { label = l; name = n }

-- the type and the case that some names, a further one and those behind it are: the last one is the case
abbrev pub path_of : Place → List (List ℕ) → Identifier → List Identifier → TypeName × Identifier
path_of p names n [] = (record { place = p; names = names }, n)
path_of p names n (m ∷ ms) = path_of p (names ++ n.text ∷ []) m ms

abbrev pub case_of_type : TypeName × Identifier → Place → Option (List Binding) → Pattern
case_of_type path p bs = pattern.Case p (Some path.0) path.1 bs

abbrev pub clause : Place × ClauseLabel → List Stmt → Clause
clause l ss = roll-Clause (record { place = l.0; label = l.1; statements = ss })

abbrev pub block : Place → List Stmt → Place → Block
block p ss q = roll-Block (record { place = p; statements = ss; end = q })

abbrev pub takes_rest : ClauseLabel → Bool
takes_rest (label.Case ps) = false
takes_rest label.Default = true
takes_rest label.UnknownDefault = true

-- nothing follows a clause for all that is left
abbrev pub is_last_clause : Bool → Clause → Bool
is_last_clause before c = takes_rest (out-Clause c).label

abbrev pub has_none : Option Expr → Bool
has_none None = true
has_none (Some y) = false

-- nothing follows a branch without a condition
abbrev pub is_last_branch : Bool → Option Expr × Block → Bool
is_last_branch before b = has_none b.0

-- ---- patterns

-- "let" NAME | "_"
abbrev pub BindingPattern : Option Identifier → Rule Binding
BindingPattern l = Or (TokenThen (mark t.Let) (λ _. TokenThen identifier (λ n. Empty (binding l (Some n))))) (TokenThen (mark t.Underscore) (λ _. Empty (binding l None)))

-- binder
abbrev pub PayloadPattern : Rule Binding
PayloadPattern = Or (TokenThen identifier (λ l. TokenThen (mark t.Colon) (λ _. BindingPattern (Some l)))) (BindingPattern None)

-- binder { "," binder }
abbrev pub Subs : Rule (List Binding)
Subs = Then PayloadPattern (λ b. Then (Many (mark t.Comma) (λ _. PayloadPattern)) (λ bs. Empty (b ∷ bs)))

-- binder { "," binder } ")"
abbrev pub PayloadTail : Rule (List Binding)
PayloadTail = Then Subs (λ bs. TokenThen (mark t.CloseParenthesis) (λ _. Empty bs))

-- [ payload ], where so much nesting may open
abbrev pub Payload : ℕ → Rule (Option (List Binding))
Payload d = Or (Nested d (mark t.OpenParenthesis) (λ _. Then PayloadTail (λ bs. Empty (Some bs)))) (Empty None)

-- "." NAME { "." NAME }, behind a name or `Self`
abbrev pub Path : Place × List ℕ → Rule (TypeName × Identifier)
Path head = TokenThen (mark t.Dot) (λ _. TokenThen identifier (λ n. Then (Many (mark t.Dot) (λ _. One identifier)) (λ ns. Empty (path_of head.0 (head.1 ∷ []) n ns))))

-- an integer behind the `-` that belongs to it
abbrev pub Magnitude : Place → Rule Pattern
Magnitude p = TokenThen (integer (2 ^ 63)) (λ v. Empty (pattern.Negative p v.1))

-- pattern, where so much nesting may open
abbrev pub IsPattern : ℕ → Rule Pattern
IsPattern d = Or (TokenThen (mark t.Dot) (λ p. TokenThen identifier (λ n. Then (Payload d) (λ bs. Empty (pattern.Case p None n bs)))))
    (Or (TokenThen type_head (λ head. Then (Path head) (λ path. Then (Payload d) (λ bs. Empty (case_of_type path head.0 bs)))))
    (Or (TokenThen attached_minus Magnitude)
    (Or (TokenThen (integer (2 ^ 63 - 1)) (λ v. Empty (pattern.Integer v.0 v.1)))
    (Or (TokenThen string (λ v. Empty (pattern.String v.0 v.1)))
    (Or (TokenThen (mark t.True) (λ p. Empty (pattern.Boolean p true)))
    (TokenThen (mark t.False) (λ p. Empty (pattern.Boolean p false))))))))

-- ---- several statements. S is a statement.

-- a statement behind a separator
abbrev pub Later : Rule Stmt → Rule Stmt
Later S = On is_later S

-- the first statement (true), or a further one behind a separator
abbrev pub statement_at : Rule Stmt → Bool → Rule Stmt
statement_at S true = S
statement_at S false = Or (TokenThen (mark t.Semicolon) (λ _. Later S)) (On is_below (Later S))

abbrev pub no_longer_first : Bool → Stmt → Bool
no_longer_first first x = false

-- statements, of which the first is still to come (true) or not
abbrev pub Statements : Rule Stmt → Bool → Rule (List Stmt)
Statements S first = Run (statement_at S) no_longer_first first

-- statement { separator statement }
abbrev pub SomeStatements : Rule Stmt → Rule (List Stmt)
SomeStatements S = Then S (λ x. Then (Statements S false) (λ xs. Empty (x ∷ xs)))

-- [ statement { separator statement } ] "}"
abbrev pub BlockTail : Rule Stmt → Place → Rule Block
BlockTail S p = Then (Statements S true) (λ ss. TokenThen (mark t.CloseBrace) (λ q. Empty (block p ss q)))

-- block, where so much nesting may open
abbrev pub BlockOf : ℕ → Rule Stmt → Rule Block
BlockOf d S = Or (Nested d (mark t.OpenBrace) (BlockTail S)) Fail

-- ---- clauses. S is a statement in the braces, where so much nesting may open.

-- pattern { "," pattern }
abbrev pub Patterns : ℕ → Rule (List Pattern)
Patterns d = Then (IsPattern d) (λ x. Then (Many (mark t.Comma) (λ _. IsPattern d)) (λ xs. Empty (x ∷ xs)))

-- label, with its place
abbrev pub Label : ℕ → Rule (Place × ClauseLabel)
Label d = Or (TokenThen (mark t.Case) (λ p. Then (Patterns d) (λ xs. Empty (p, label.Case xs))))
    (Or (TokenThen (mark t.Default) (λ p. Empty (p, label.Default)))
    (TokenThen (mark t.At) (λ p. TokenThen (word (codes "unknown")) (λ _. TokenThen (mark t.Default) (λ _. Empty (p, label.UnknownDefault))))))

-- clause
abbrev pub IsClause : ℕ → Rule Stmt → Rule Clause
IsClause d S = Then (Label d) (λ l. TokenThen (mark t.Colon) (λ _. Then (SomeStatements S) (λ ss. Empty (clause l ss))))

-- a further clause, unless one took all that is left
abbrev pub clause_at : ℕ → Rule Stmt → Bool → Rule Clause
clause_at d S true = Fail
clause_at d S false = IsClause d S

-- clause { clause } "}"
abbrev pub ClausesTail : ℕ → Rule Stmt → Rule (List Clause)
ClausesTail d S = Then (IsClause d S) (λ c. Then (Run (clause_at d S) is_last_clause (is_last_clause false c)) (λ cs. TokenThen (mark t.CloseBrace) (λ _. Empty (c ∷ cs))))

-- one nesting less
abbrev pub less : ℕ → ℕ
less zero = zero
less (suc d) = d

-- "{" clause { clause } "}", where so much nesting may open
abbrev pub ClausesOf : ℕ → Rule Stmt → Rule (List Clause)
ClausesOf d S = Or (Nested d (mark t.OpenBrace) (λ _. ClausesTail (less d) S)) Fail

-- ---- statements. d is how much nesting may open, E an expression, A the arguments of a call, S a statement in braces, and
-- inits says whether the statements of initialisers may stand.

-- [ ":" type ]
abbrev pub Annotation : Rule (Option TypeName)
Annotation = Or (TokenThen (mark t.Colon) (λ _. Then IsType (λ n. Empty (Some n)))) (Empty None)

module _ (inits : Bool) (d : ℕ) (E : Rule Expr) (A : Rule (List (Option Identifier × Expr))) (S : Rule Stmt) where
  -- NAME [ ":" type ] "=" expr
  abbrev pub LocalTail : Place × Introducer → Rule Stmt
  LocalTail i = TokenThen identifier (λ n. Then Annotation (λ ty. TokenThen (mark t.Equal) (λ _. Then E (λ y. Empty (s.Local i.0 i.1 n ty y)))))

  -- "=" expr
  abbrev pub DiscardTail : Place → Rule Stmt
  DiscardTail p = TokenThen (mark t.Equal) (λ _. Then E (λ y. Empty (s.Discard p y)))

  -- expr block
  abbrev pub Branch : Rule (Option Expr × Block)
  Branch = Then E (λ y. Then (BlockOf d S) (λ b. Empty (Some y, b)))

  -- "if" expr block | block
  abbrev pub BehindElse : Rule (Option Expr × Block)
  BehindElse = Or (TokenThen (mark t.If) (λ _. Branch)) (Then (BlockOf d S) (λ b. Empty (None, b)))

  -- "else" branch, unless a branch has no condition
  abbrev pub else_at : Bool → Rule (Option Expr × Block)
  else_at true = Fail
  else_at false = TokenThen (mark t.Else) (λ _. BehindElse)

  -- expr block { "else" "if" expr block } [ "else" block ]
  abbrev pub IfTail : Place → Rule Stmt
  IfTail p = Then Branch (λ b. Then (Run else_at is_last_branch false) (λ bs. Empty (s.If p (b ∷ bs))))

  -- expr block
  abbrev pub WhileTail : Place → Rule Stmt
  WhileTail p = Then E (λ y. Then (BlockOf d S) (λ b. Empty (s.While p y b)))

  -- [ expr ]
  abbrev pub Value : Rule (Option Expr)
  Value = Or (Then (On is_here E) (λ y. Empty (Some y))) (Empty None)

  -- [ expr ], as a statement
  abbrev pub ReturnTail : Place → Rule Stmt
  ReturnTail p = Then Value (λ y. Empty (s.Return p y))

  -- expr "{" clause { clause } "}"
  abbrev pub SwitchTail : Place → Rule Stmt
  SwitchTail p = Then E (λ y. Then (ClausesOf d S) (λ cs. Empty (s.Switch p y cs)))

  -- "." "init" arguments
  abbrev pub InitTail : (List (Option Identifier × Expr) → Stmt) → Rule Stmt
  InitTail f = TokenThen (mark t.Dot) (λ _. TokenThen (mark t.Init) (λ _. Then A (λ as'. Empty (f as'))))

  -- [ operator expr ]
  abbrev pub AssignmentTail : Expr → Rule Stmt
  AssignmentTail y = Or (TokenThen (assigns_to y) (λ o. Then E (λ z. Empty (s.Assign y o z)))) (Empty (s.Expr y))

  -- post operator expr | expr
  abbrev pub Action : Rule Stmt
  Action = Then E AssignmentTail

  -- "self" "." "init" arguments | "super" "." "init" arguments | post operator expr | expr
  abbrev pub ActionOf : Bool → Rule Stmt
  ActionOf false = Action
  ActionOf true = Or (TokenThen (mark t.SelfValue) (λ p. InitTail (s.SelfInit p))) (Or (TokenThen (mark t.Super) (λ p. InitTail (s.SuperInit p))) Action)

  -- statement
  abbrev pub StmtOf : Rule Stmt
  StmtOf = Or (TokenThen introduces LocalTail)
      (Or (TokenThen (mark t.Underscore) DiscardTail)
      (Or (TokenThen (mark t.If) IfTail)
      (Or (TokenThen (mark t.While) WhileTail)
      (Or (TokenThen (mark t.Return) ReturnTail)
      (Or (TokenThen (mark t.Break) (λ p. Empty (s.Break p)))
      (Or (TokenThen (mark t.Continue) (λ p. Empty (s.Continue p)))
      (Or (TokenThen (mark t.Switch) SwitchTail) (ActionOf inits))))))))

-- the arguments of a call, with this much nesting
abbrev pub IsCall : ℕ → Rule (List (Option Identifier × Expr))
IsCall zero = Call zero Fail Fail
IsCall (suc d) = Call (suc d) (IsExpr d) (Unary d)

-- a statement with at most this much nesting
unfoldable pub IsStmt : Bool → ℕ → Rule Stmt
IsStmt inits zero = StmtOf inits zero (IsExpr zero) (IsCall zero) Fail
IsStmt inits (suc d) = StmtOf inits (suc d) (IsExpr (suc d)) (IsCall (suc d)) (IsStmt inits d)

-- a block with at most this much nesting
abbrev pub IsBlock : Bool → ℕ → Rule Block
IsBlock inits zero = BlockOf zero Fail
IsBlock inits (suc d) = BlockOf (suc d) (IsStmt inits d)

-- a statement of a client, the first one (true) or one behind a separator
abbrev pub IsStatement : Bool → ℕ → Rule Stmt
IsStatement true d = IsStmt false d
IsStatement false d = Later (IsStmt false d)
