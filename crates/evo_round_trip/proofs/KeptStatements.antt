-- The texts of statements, blocks and clauses stay where their places are taken away.
use Rattle.std.proofs.Common.{◌≡◌, ℕ, ◌+◌, List, [], ◌∷◌, ◌++◌, map, codes, Option, Some, None, refl, sym, ◌∙◌, ap, ap₂, subst}
use Rattle.std.specs.List.{flat_map, join_by}
use Rattle.std.specs.Option.{option_map}
use Rattle.evo_base.specs.declared.place.Place.{Place}
use Rattle.evo_tree.specs.declared.name.Identifier.{Identifier}
use Rattle.evo_tree.specs.declared.expression.Expr.{Expr}
use Rattle.evo_tree.specs.declared.statement.Binding.{Binding}
use Rattle.evo_tree.specs.declared.statement.Pattern.{Pattern}
use Rattle.evo_tree.specs.declared.statement.Pattern.TheVariants as pattern
use Rattle.evo_tree.specs.declared.statement.ClauseLabel.{ClauseLabel}
use Rattle.evo_tree.specs.declared.statement.ClauseLabel.TheVariants as label
use Rattle.evo_tree.specs.declared.statement.Block.{Block, Block-F, roll-Block, map-Block, fold-roll-Block, ind-Block}
use Rattle.evo_tree.specs.declared.statement.Clause.{Clause, Clause-F, roll-Clause, map-Clause, fold-roll-Clause}
use Rattle.evo_tree.specs.declared.statement.Stmt.{Stmt, Stmt-F, roll-Stmt, map-Stmt, fold-roll-Stmt, ind-Stmt}
use Rattle.evo_tree.specs.declared.statement.Stmt.TheOpen as f
use Rattle.evo_tree.specs.Bare.{bare_identifier, bare_type, bare_expr, bare_argument, bare_binding, bare_pattern, bare_clause_label, clear_block, clear_clause, clear_stmt, bare_block, bare_clause, bare_stmt}
use Rattle.evo_tree.specs.Canonical.{Text, optional, listed, indent, line, name_text, type_text, typed, bound_text, binding_text, pattern_text, clause_text, expr_text, introducer_text, assignment_text, call_arguments, branch_text, stmt_words, block_level, clause_level, stmt_level, block_text, stmt_text}
use Rattle.evo_tree.proofs.SameExpressions.{Argument}
use Rattle.evo_print.specs.Texts.{Lines, clause_lines}
use Rattle.evo_print.proofs.ExpressionTexts.{argument, arguments_joined}
use Rattle.evo_round_trip.proofs.KeptExpressions.{join_kept, option_kept, label_kept, expr_kept}

-- ---- patterns

bound_kept : (n : Option Identifier) → bound_text (option_map bare_identifier n) ≡ bound_text n
bound_kept None = refl
bound_kept (Some i) = refl

binding_kept : (b : Binding) → binding_text (bare_binding b) ≡ binding_text b
binding_kept b = ap₂ (λ (v w : Text). v ++ w) (label_kept b.label) (bound_kept b.name)

payload_kept : (bs : List Binding) → codes "(" ++ listed binding_text (map bare_binding bs) ++ codes ")" ≡ codes "(" ++ listed binding_text bs ++ codes ")"
payload_kept bs = ap (λ (v : Text). codes "(" ++ v ++ codes ")") (join_kept binding_text bare_binding binding_kept (codes ", ") bs)

pattern_kept : (p : Pattern) → pattern_text (bare_pattern p) ≡ pattern_text p
pattern_kept (pattern.Case p t i bs) = ap₂ (λ (v w : Text). v ++ codes "." ++ name_text i ++ w) (option_kept type_text bare_type (λ t. refl) t) (option_kept (λ (b : List Binding). codes "(" ++ listed binding_text b ++ codes ")") (map bare_binding) payload_kept bs)
pattern_kept (pattern.Integer p n) = refl
pattern_kept (pattern.Negative p n) = refl
pattern_kept (pattern.String p text) = refl
pattern_kept (pattern.Boolean p b) = refl

pub clause_label_kept : (l : ClauseLabel) → clause_text (bare_clause_label l) ≡ clause_text l
clause_label_kept (label.Case ps) = ap (λ (v : Text). codes "case " ++ v ++ codes ":") (join_kept pattern_text bare_pattern pattern_kept (codes ", ") ps)
clause_label_kept label.Default = refl
clause_label_kept label.UnknownDefault = refl

-- ---- expressions in statements

argument_kept : (a : Argument) → argument (bare_argument a) ≡ argument a
argument_kept a = ap₂ (λ (v w : Text). v ++ w) (label_kept a.0) (expr_kept a.1)

arguments_kept : (xs : List Argument) → call_arguments (map bare_argument xs) ≡ call_arguments xs
arguments_kept xs = ap (λ (v : Text). codes "(" ++ v ++ codes ")") (arguments_joined (map bare_argument xs) ∙ join_kept argument bare_argument argument_kept (codes ", ") xs ∙ sym (arguments_joined xs))

-- what expressions are written with stays
wrapped_kept : (before behind : Text) (x : Option Expr) → optional (λ y. before ++ expr_text y ++ behind) (option_map bare_expr x) ≡ optional (λ y. before ++ expr_text y ++ behind) x
wrapped_kept before behind x = option_kept (λ (y : Expr). before ++ expr_text y ++ behind) bare_expr (λ y. ap (λ (v : Text). before ++ v ++ behind) (expr_kept y)) x

value_kept : (x : Option Expr) → optional (λ y. codes " " ++ expr_text y) (option_map bare_expr x) ≡ optional (λ y. codes " " ++ expr_text y) x
value_kept x = option_kept (λ (y : Expr). codes " " ++ expr_text y) bare_expr (λ y. ap (λ (v : Text). codes " " ++ v) (expr_kept y)) x

-- ---- statements

abbrev KeepsStmt : Stmt → Type 0
KeepsStmt x = (d : ℕ) → stmt_text (bare_stmt x) d ≡ stmt_text x d

abbrev KeepsBlock : Block → Type 0
KeepsBlock x = (d : ℕ) → block_text (bare_block x) d ≡ block_text x d

abbrev KeepsClause : Clause → Type 0
KeepsClause x = (d : ℕ) → clause_lines (bare_clause x) d ≡ clause_lines x d

abbrev KeptStmt : Type 0
KeptStmt = (x : Stmt) × KeepsStmt x

abbrev KeptBlock : Type 0
KeptBlock = (x : Block) × KeepsBlock x

abbrev KeptClause : Type 0
KeptClause = (x : Clause) × KeepsClause x

-- the texts of a level
abbrev plain : Stmt-F Stmt Block Clause → Stmt-F Lines Lines Lines
plain x = map-Stmt Stmt Block Clause Lines Lines Lines stmt_text block_text clause_lines x

-- and without places
abbrev bared : Stmt-F Stmt Block Clause → Stmt-F Lines Lines Lines
bared x = plain (clear_stmt (map-Stmt Stmt Block Clause Stmt Block Clause bare_stmt bare_block bare_clause x))

abbrev parts : Stmt-F KeptStmt KeptBlock KeptClause → Stmt-F Stmt Block Clause
parts y = map-Stmt KeptStmt KeptBlock KeptClause Stmt Block Clause (λ e. e.0) (λ e. e.0) (λ e. e.0) y

statements_kept : (ss : List KeptStmt) (d : ℕ) → flat_map (λ (l : Lines). l d) (map stmt_text (map bare_stmt (map (λ (e : KeptStmt). e.0) ss))) ≡ flat_map (λ (l : Lines). l d) (map stmt_text (map (λ (e : KeptStmt). e.0) ss))
statements_kept [] d = refl
statements_kept (e ∷ ss) d = ap₂ (λ (v w : Text). v ++ w) (e.1 d) (statements_kept ss d)

clauses_kept : (cs : List KeptClause) (d : ℕ) → flat_map (λ (l : Lines). l d) (map clause_lines (map bare_clause (map (λ (e : KeptClause). e.0) cs))) ≡ flat_map (λ (l : Lines). l d) (map clause_lines (map (λ (e : KeptClause). e.0) cs))
clauses_kept [] d = refl
clauses_kept (e ∷ cs) d = ap₂ (λ (v w : Text). v ++ w) (e.1 d) (clauses_kept cs d)

abbrev Branch : Type 0
Branch = Option Expr × KeptBlock

branches_of : Stmt-F Lines Lines Lines → List (Option Expr × Lines)
branches_of (f.If p bs) = bs
branches_of x = []

branch_kept : (b : Branch) (d : ℕ) → branch_text d (option_map bare_expr b.0, block_text (bare_block b.1.0)) ≡ branch_text d (b.0, block_text b.1.0)
branch_kept b d = ap₂ (λ (v w : Text). v ++ w) (wrapped_kept (codes "if ") (codes " ") b.0) (b.1.1 d)

further_kept : (p : Place) (bs : List Branch) (d : ℕ) → flat_map (λ b. codes " else " ++ branch_text d b) (branches_of (bared (parts (f.If p bs)))) ≡ flat_map (λ b. codes " else " ++ branch_text d b) (branches_of (plain (parts (f.If p bs))))
unfolding branches_of
further_kept p [] d = refl
further_kept p (b ∷ bs) d = ap₂ (λ (v w : Text). codes " else " ++ v ++ w) (branch_kept b d) (further_kept p bs d)

branches_kept : (p : Place) (bs : List Branch) (d : ℕ) → join_by (branch_text d) (codes " else ") (branches_of (bared (parts (f.If p bs)))) ≡ join_by (branch_text d) (codes " else ") (branches_of (plain (parts (f.If p bs))))
unfolding branches_of
branches_kept p [] d = refl
branches_kept p (b ∷ bs) d = ap₂ (λ (v w : Text). v ++ w) (branch_kept b d) (further_kept p bs d)

words_kept : (y : Stmt-F KeptStmt KeptBlock KeptClause) (d : ℕ) → stmt_words (bared (parts y)) d ≡ stmt_words (plain (parts y)) d
unfolding branches_of
words_kept (f.Local p k i t x) d = ap₂ (λ (v w : Text). introducer_text k ++ name_text i ++ v ++ codes " = " ++ w) (option_kept typed bare_type (λ t. refl) t) (expr_kept x)
words_kept (f.Discard p x) d = ap (λ (v : Text). codes "_ = " ++ v) (expr_kept x)
words_kept (f.Assign x o y) d = ap₂ (λ (v w : Text). v ++ codes " " ++ assignment_text o ++ codes " " ++ w) (expr_kept x) (expr_kept y)
words_kept (f.Expr x) d = expr_kept x
words_kept (f.SelfInit p xs) d = ap (λ (v : Text). codes "self.init" ++ v) (arguments_kept xs)
words_kept (f.SuperInit p xs) d = ap (λ (v : Text). codes "super.init" ++ v) (arguments_kept xs)
words_kept (f.If p bs) d = branches_kept p bs d
words_kept (f.While p x b) d = ap₂ (λ (v w : Text). codes "while " ++ v ++ codes " " ++ w) (expr_kept x) (b.1 d)
words_kept (f.Return p x) d = ap (λ (v : Text). codes "return" ++ v) (value_kept x)
words_kept (f.Break p) d = refl
words_kept (f.Continue p) d = refl
words_kept (f.Switch p x cs) d = ap₂ (λ (v w : Text). codes "switch " ++ v ++ codes " {\n" ++ w ++ indent d ++ codes "}") (expr_kept x) (clauses_kept cs d)

-- ---- the induction

abbrev bare_stmt_level : Stmt-F Stmt Block Clause → Stmt
bare_stmt_level z = roll-Stmt (clear_stmt z)

abbrev bare_block_level : Block-F Stmt Block Clause → Block
bare_block_level z = roll-Block (clear_block z)

abbrev bare_clause_level : Clause-F Stmt Block Clause → Clause
bare_clause_level z = roll-Clause (clear_clause z)

abbrev opened_block : Block-F Stmt Block Clause → Block-F Lines Lines Lines
opened_block z = map-Block Stmt Block Clause Lines Lines Lines stmt_text block_text clause_lines z

abbrev opened_clause : Clause-F Stmt Block Clause → Clause-F Lines Lines Lines
opened_clause z = map-Clause Stmt Block Clause Lines Lines Lines stmt_text block_text clause_lines z

stmt_step : (x : Stmt-F Stmt Block Clause) (y : Stmt-F KeptStmt KeptBlock KeptClause) → parts y ≡ x → KeepsStmt (roll-Stmt x)
stmt_step x y is d =
    ap (λ z. stmt_text z d) (fold-roll-Stmt Stmt Block Clause bare_stmt_level bare_block_level bare_clause_level x)
    ∙ ap (λ (l : Lines). l d) (fold-roll-Stmt Lines Lines Lines stmt_level block_level clause_level (clear_stmt (map-Stmt Stmt Block Clause Stmt Block Clause bare_stmt bare_block bare_clause x)))
    ∙ subst (λ (z : Stmt-F Stmt Block Clause). line d (stmt_words (bared z) d) ≡ line d (stmt_words (plain z) d)) is (ap (line d) (words_kept y d))
    ∙ sym (ap (λ (l : Lines). l d) (fold-roll-Stmt Lines Lines Lines stmt_level block_level clause_level x))

block_step : (x : Block-F Stmt Block Clause) (y : Block-F KeptStmt KeptBlock KeptClause) → map-Block KeptStmt KeptBlock KeptClause Stmt Block Clause (λ e. e.0) (λ e. e.0) (λ e. e.0) y ≡ x → KeepsBlock (roll-Block x)
block_step x y is d =
    ap (λ z. block_text z d) (fold-roll-Block Stmt Block Clause bare_stmt_level bare_block_level bare_clause_level x)
    ∙ ap (λ (l : Lines). l d) (fold-roll-Block Lines Lines Lines stmt_level block_level clause_level (clear_block (map-Block Stmt Block Clause Stmt Block Clause bare_stmt bare_block bare_clause x)))
    ∙ subst (λ (z : Block-F Stmt Block Clause). block_level (opened_block (clear_block (map-Block Stmt Block Clause Stmt Block Clause bare_stmt bare_block bare_clause z))) d ≡ block_level (opened_block z) d) is
    (ap (λ (v : Text). codes "{\n" ++ v ++ indent d ++ codes "}") (statements_kept y.statements (d + 1)))
    ∙ sym (ap (λ (l : Lines). l d) (fold-roll-Block Lines Lines Lines stmt_level block_level clause_level x))

clause_step : (x : Clause-F Stmt Block Clause) (y : Clause-F KeptStmt KeptBlock KeptClause) → map-Clause KeptStmt KeptBlock KeptClause Stmt Block Clause (λ e. e.0) (λ e. e.0) (λ e. e.0) y ≡ x → KeepsClause (roll-Clause x)
clause_step x y is d =
    ap (λ z. clause_lines z d) (fold-roll-Clause Stmt Block Clause bare_stmt_level bare_block_level bare_clause_level x)
    ∙ ap (λ (l : Lines). l d) (fold-roll-Clause Lines Lines Lines stmt_level block_level clause_level (clear_clause (map-Clause Stmt Block Clause Stmt Block Clause bare_stmt bare_block bare_clause x)))
    ∙ subst (λ (z : Clause-F Stmt Block Clause). clause_level (opened_clause (clear_clause (map-Clause Stmt Block Clause Stmt Block Clause bare_stmt bare_block bare_clause z))) d ≡ clause_level (opened_clause z) d) is
    (ap₂ (λ (v w : Text). line d v ++ w) (clause_label_kept y.label) (statements_kept y.statements (d + 1)))
    ∙ sym (ap (λ (l : Lines). l d) (fold-roll-Clause Lines Lines Lines stmt_level block_level clause_level x))

-- the text of a statement says nothing of its places
pub stmt_kept : (x : Stmt) (d : ℕ) → stmt_text (bare_stmt x) d ≡ stmt_text x d
stmt_kept = ind-Stmt KeepsStmt KeepsBlock KeepsClause stmt_step block_step clause_step

-- nor does that of a block
pub block_kept : (x : Block) (d : ℕ) → block_text (bare_block x) d ≡ block_text x d
block_kept = ind-Block KeepsStmt KeepsBlock KeepsClause stmt_step block_step clause_step
