-- The texts of statements, blocks and clauses by those of their parts, and that they are the same where their parts are.
use Rattle.std.proofs.Common.{◌≡◌, ℕ, ◌+◌, List, ◌++◌, map, codes, Option, refl, sym, ◌∙◌, ap, ap₂}
use Rattle.std.specs.List.{flat_map, join_by}
use Rattle.std.specs.Option.{option_map}
use Rattle.std.proofs.lemmas.List.Folds.{flat_map-map}
use Rattle.evo_base.specs.declared.place.Place.{Place}
use Rattle.evo_tree.specs.declared.name.Identifier.{Identifier}
use Rattle.evo_tree.specs.declared.name.TypeName.{TypeName}
use Rattle.evo_tree.specs.declared.expression.Expr.{Expr}
use Rattle.evo_tree.specs.declared.statement.Introducer.{Introducer}
use Rattle.evo_tree.specs.declared.statement.AssignmentOperator.{AssignmentOperator}
use Rattle.evo_tree.specs.declared.statement.ClauseLabel.{ClauseLabel}
use Rattle.evo_tree.specs.declared.statement.Block.{Block, roll-Block, fold-roll-Block}
use Rattle.evo_tree.specs.declared.statement.Clause.{Clause, roll-Clause, fold-roll-Clause}
use Rattle.evo_tree.specs.declared.statement.Stmt.{Stmt, Stmt-F, out-Stmt, roll-Stmt, map-Stmt, fold_out-Stmt}
use Rattle.evo_tree.specs.declared.statement.Stmt.TheOpen as f
use Rattle.evo_tree.specs.declared.statement.Stmt.TheVariants as s
use Rattle.evo_tree.specs.declared.statement.Stmt.TheVariants.{outs-Local, outs-Discard, outs-Assign, outs-Expr, outs-SelfInit, outs-SuperInit, outs-While, outs-Return, outs-Break, outs-Continue, outs-Switch}
use Rattle.evo_tree.specs.Bare.{origin, bare_identifier, bare_type, bare_expr, bare_argument, bare_clause_label, clear_block, clear_clause, clear_stmt, bare_block, bare_clause, bare_stmt, bare_branch}
use Rattle.evo_tree.specs.Canonical.{Text, optional, indent, line, name_text, expr_text, typed, introducer_text, assignment_text, call_arguments, stmt_words, block_level, clause_level, stmt_level, block_text, stmt_text}
use Rattle.evo_tree.specs.Statements.{block, clause}
use Rattle.evo_tree.proofs.SameExpressions.{Argument}
use Rattle.evo_tree.proofs.SameStatements as same
use Rattle.evo_print.specs.Texts.{Lines, clause_lines, branch, words_of}
use Rattle.evo_print.proofs.StatementTexts as texts
use Rattle.evo_round_trip.proofs.ExpressionTrees.{SameExpr}

abbrev pub Branch : Type 0
Branch = Option Expr × Block

-- ---- the words of statements

module _ (a : Stmt) (x : Stmt-F Stmt Block Clause) (is : out-Stmt a ≡ x) (d : ℕ) where
  words_by : words_of a d ≡ stmt_words (map-Stmt Stmt Block Clause Lines Lines Lines stmt_text block_text clause_lines x) d
  words_by = ap (λ (z : Stmt-F Stmt Block Clause). stmt_words (map-Stmt Stmt Block Clause Lines Lines Lines stmt_text block_text clause_lines z) d) is

-- a statement is the line of its words
pub stmt_line : (a : Stmt) (d : ℕ) → stmt_text a d ≡ line d (words_of a d)
stmt_line a d = ap (λ (l : Lines). l d) (fold_out-Stmt Lines Lines Lines stmt_level block_level clause_level a)

pub local_words : (p : Place) (k : Introducer) (i : Identifier) (t : Option TypeName) (x : Expr) (d : ℕ) → words_of (s.Local p k i t x) d ≡ introducer_text k ++ name_text i ++ optional typed t ++ codes " = " ++ expr_text x
local_words p k i t x d = words_by (s.Local p k i t x) (f.Local p k i t x) (outs-Local p k i t x) d

pub discard_words : (p : Place) (x : Expr) (d : ℕ) → words_of (s.Discard p x) d ≡ codes "_ = " ++ expr_text x
discard_words p x d = words_by (s.Discard p x) (f.Discard p x) (outs-Discard p x) d

pub assign_words : (x : Expr) (o : AssignmentOperator) (y : Expr) (d : ℕ) → words_of (s.Assign x o y) d ≡ expr_text x ++ codes " " ++ assignment_text o ++ codes " " ++ expr_text y
assign_words x o y d = words_by (s.Assign x o y) (f.Assign x o y) (outs-Assign x o y) d

pub expr_words : (x : Expr) (d : ℕ) → words_of (s.Expr x) d ≡ expr_text x
expr_words x d = words_by (s.Expr x) (f.Expr x) (outs-Expr x) d

pub self_init_words : (p : Place) (xs : List Argument) (d : ℕ) → words_of (s.SelfInit p xs) d ≡ codes "self.init" ++ call_arguments xs
self_init_words p xs d = words_by (s.SelfInit p xs) (f.SelfInit p xs) (outs-SelfInit p xs) d

pub super_init_words : (p : Place) (xs : List Argument) (d : ℕ) → words_of (s.SuperInit p xs) d ≡ codes "super.init" ++ call_arguments xs
super_init_words p xs d = words_by (s.SuperInit p xs) (f.SuperInit p xs) (outs-SuperInit p xs) d

pub if_words : (p : Place) (bs : List Branch) (d : ℕ) → words_of (s.If p bs) d ≡ join_by (branch d) (codes " else ") bs
if_words p bs d = texts.if_words (s.If p bs) d p bs refl

pub while_words : (p : Place) (x : Expr) (b : Block) (d : ℕ) → words_of (s.While p x b) d ≡ codes "while " ++ expr_text x ++ codes " " ++ block_text b d
while_words p x b d = words_by (s.While p x b) (f.While p x b) (outs-While p x b) d

pub return_words : (p : Place) (x : Option Expr) (d : ℕ) → words_of (s.Return p x) d ≡ codes "return" ++ optional (λ y. codes " " ++ expr_text y) x
return_words p x d = words_by (s.Return p x) (f.Return p x) (outs-Return p x) d

pub break_words : (p : Place) (d : ℕ) → words_of (s.Break p) d ≡ codes "break"
break_words p d = words_by (s.Break p) (f.Break p) (outs-Break p) d

pub continue_words : (p : Place) (d : ℕ) → words_of (s.Continue p) d ≡ codes "continue"
continue_words p d = words_by (s.Continue p) (f.Continue p) (outs-Continue p) d

pub switch_words : (p : Place) (x : Expr) (cs : List Clause) (d : ℕ) → words_of (s.Switch p x cs) d ≡ codes "switch " ++ expr_text x ++ codes " {\n" ++ flat_map (λ c. clause_lines c d) cs ++ indent d ++ codes "}"
switch_words p x cs d =
    words_by (s.Switch p x cs) (f.Switch p x cs) (outs-Switch p x cs) d
    ∙ ap (λ (l : Text). codes "switch " ++ expr_text x ++ codes " {\n" ++ l ++ indent d ++ codes "}") (flat_map-map (λ (l : Lines). l d) clause_lines cs)

-- ---- blocks and clauses

-- a block is its statements in braces
pub block_is : (p : Place) (ss : List Stmt) (q : Place) (d : ℕ) → block_text (block p ss q) d ≡ codes "{\n" ++ flat_map (λ x. stmt_text x (d + 1)) ss ++ indent d ++ codes "}"
block_is p ss q d =
    ap (λ (l : Lines). l d) (fold-roll-Block Lines Lines Lines stmt_level block_level clause_level (record { place = p; statements = ss; end = q }))
    ∙ ap (λ (l : Text). codes "{\n" ++ l ++ indent d ++ codes "}") (flat_map-map (λ (l : Lines). l (d + 1)) stmt_text ss)

-- a clause is the line of its label, and its statements

-- ---- the same but for places

abbrev pub SameStmt : Stmt → Stmt → Type 0
SameStmt x y = bare_stmt x ≡ bare_stmt y

abbrev pub SameBlock : Block → Block → Type 0
SameBlock x y = bare_block x ≡ bare_block y

abbrev pub SameClause : Clause → Clause → Type 0
SameClause x y = bare_clause x ≡ bare_clause y

abbrev pub SameBranch : Branch → Branch → Type 0
SameBranch x y = bare_branch x ≡ bare_branch y

bare_is : (a : Stmt) (x : Stmt-F Stmt Block Clause) → out-Stmt a ≡ x → bare_stmt a ≡ roll-Stmt (same.below x)
bare_is a x is = fold_out-Stmt Stmt Block Clause (λ z. roll-Stmt (clear_stmt z)) (λ b. roll-Block (clear_block b)) (λ c. roll-Clause (clear_clause c)) a ∙ ap (λ z. roll-Stmt (same.below z)) is

-- statements are the same where their levels without places are
same_by : (a b : Stmt) (x y : Stmt-F Stmt Block Clause) → out-Stmt a ≡ x → out-Stmt b ≡ y → same.below x ≡ same.below y → SameStmt a b
same_by a b x y p q e = bare_is a x p ∙ ap roll-Stmt e ∙ sym (bare_is b y q)

pub local_same : (p q : Place) (k : Introducer) (i j : Identifier) (t u : Option TypeName) (x y : Expr) → bare_identifier i ≡ bare_identifier j → option_map bare_type t ≡ option_map bare_type u → SameExpr x y → SameStmt (s.Local p k i t x) (s.Local q k j u y)
local_same p q k i j t u x y ei et ex = same_by (s.Local p k i t x) (s.Local q k j u y) (f.Local p k i t x) (f.Local q k j u y) (outs-Local p k i t x) (outs-Local q k j u y)
    (ap₂ (λ v w. f.Local origin k v w (bare_expr x)) ei et ∙ ap (λ v. f.Local origin k (bare_identifier j) (option_map bare_type u) v) ex)

pub discard_same : (p q : Place) (x y : Expr) → SameExpr x y → SameStmt (s.Discard p x) (s.Discard q y)
discard_same p q x y ex = same_by (s.Discard p x) (s.Discard q y) (f.Discard p x) (f.Discard q y) (outs-Discard p x) (outs-Discard q y) (ap (λ v. f.Discard origin v) ex)

pub assign_same : (x v : Expr) (o : AssignmentOperator) (y w : Expr) → SameExpr x v → SameExpr y w → SameStmt (s.Assign x o y) (s.Assign v o w)
assign_same x v o y w ex ey = same_by (s.Assign x o y) (s.Assign v o w) (f.Assign x o y) (f.Assign v o w) (outs-Assign x o y) (outs-Assign v o w) (ap₂ (λ b c. f.Assign b o c) ex ey)

pub expr_same : (x y : Expr) → SameExpr x y → SameStmt (s.Expr x) (s.Expr y)
expr_same x y ex = same_by (s.Expr x) (s.Expr y) (f.Expr x) (f.Expr y) (outs-Expr x) (outs-Expr y) (ap (λ v. f.Expr v) ex)

pub self_init_same : (p q : Place) (xs ys : List Argument) → map bare_argument xs ≡ map bare_argument ys → SameStmt (s.SelfInit p xs) (s.SelfInit q ys)
self_init_same p q xs ys e = same_by (s.SelfInit p xs) (s.SelfInit q ys) (f.SelfInit p xs) (f.SelfInit q ys) (outs-SelfInit p xs) (outs-SelfInit q ys) (ap (λ v. f.SelfInit origin v) e)

pub super_init_same : (p q : Place) (xs ys : List Argument) → map bare_argument xs ≡ map bare_argument ys → SameStmt (s.SuperInit p xs) (s.SuperInit q ys)
super_init_same p q xs ys e = same_by (s.SuperInit p xs) (s.SuperInit q ys) (f.SuperInit p xs) (f.SuperInit q ys) (outs-SuperInit p xs) (outs-SuperInit q ys) (ap (λ v. f.SuperInit origin v) e)

pub if_same : (p q : Place) (xs ys : List Branch) → map bare_branch xs ≡ map bare_branch ys → SameStmt (s.If p xs) (s.If q ys)
if_same p q xs ys e = (same.if_same (s.If p xs) (s.If q ys) p q xs ys refl refl).0 e

pub while_same : (p q : Place) (x y : Expr) (b c : Block) → SameExpr x y → SameBlock b c → SameStmt (s.While p x b) (s.While q y c)
while_same p q x y b c ex eb = same_by (s.While p x b) (s.While q y c) (f.While p x b) (f.While q y c) (outs-While p x b) (outs-While q y c) (ap₂ (λ v w. f.While origin v w) ex eb)

pub return_same : (p q : Place) (x y : Option Expr) → option_map bare_expr x ≡ option_map bare_expr y → SameStmt (s.Return p x) (s.Return q y)
return_same p q x y e = same_by (s.Return p x) (s.Return q y) (f.Return p x) (f.Return q y) (outs-Return p x) (outs-Return q y) (ap (λ v. f.Return origin v) e)

pub break_same : (p q : Place) → SameStmt (s.Break p) (s.Break q)
break_same p q = same_by (s.Break p) (s.Break q) (f.Break p) (f.Break q) (outs-Break p) (outs-Break q) refl

pub continue_same : (p q : Place) → SameStmt (s.Continue p) (s.Continue q)
continue_same p q = same_by (s.Continue p) (s.Continue q) (f.Continue p) (f.Continue q) (outs-Continue p) (outs-Continue q) refl

pub switch_same : (p q : Place) (x y : Expr) (cs ds : List Clause) → SameExpr x y → map bare_clause cs ≡ map bare_clause ds → SameStmt (s.Switch p x cs) (s.Switch q y ds)
switch_same p q x y cs ds ex e = same_by (s.Switch p x cs) (s.Switch q y ds) (f.Switch p x cs) (f.Switch q y ds) (outs-Switch p x cs) (outs-Switch q y ds) (ap₂ (λ v w. f.Switch origin v w) ex e)

-- ---- branches, blocks and clauses

pub branch_same : (x y : Option Expr) (b c : Block) → option_map bare_expr x ≡ option_map bare_expr y → SameBlock b c → SameBranch (x, b) (y, c)
branch_same x y b c ex eb = ap₂ (λ v w. (v, w)) ex eb

abbrev bare_block_of : List Stmt → Block
bare_block_of ss = roll-Block (record { place = origin; statements = ss; end = origin })

block_bare : (p : Place) (ss : List Stmt) (q : Place) → bare_block (block p ss q) ≡ bare_block_of (map bare_stmt ss)
block_bare p ss q = fold-roll-Block Stmt Block Clause (λ z. roll-Stmt (clear_stmt z)) (λ b. roll-Block (clear_block b)) (λ c. roll-Clause (clear_clause c)) (record { place = p; statements = ss; end = q })

pub block_same : (p p' : Place) (xs ys : List Stmt) (q q' : Place) → map bare_stmt xs ≡ map bare_stmt ys → SameBlock (block p xs q) (block p' ys q')
block_same p p' xs ys q q' e = block_bare p xs q ∙ ap bare_block_of e ∙ sym (block_bare p' ys q')

abbrev bare_clause_of : ClauseLabel → List Stmt → Clause
bare_clause_of l ss = roll-Clause (record { place = origin; label = l; statements = ss })

clause_bare : (l : Place × ClauseLabel) (ss : List Stmt) → bare_clause (clause l ss) ≡ bare_clause_of (bare_clause_label l.1) (map bare_stmt ss)
clause_bare l ss = fold-roll-Clause Stmt Block Clause (λ z. roll-Stmt (clear_stmt z)) (λ b. roll-Block (clear_block b)) (λ c. roll-Clause (clear_clause c)) (record { place = l.0; label = l.1; statements = ss })

pub clause_same : (l m : Place × ClauseLabel) (xs ys : List Stmt) → bare_clause_label l.1 ≡ bare_clause_label m.1 → map bare_stmt xs ≡ map bare_stmt ys → SameClause (clause l xs) (clause m ys)
clause_same l m xs ys el e = clause_bare l xs ∙ ap₂ bare_clause_of el e ∙ sym (clause_bare m ys)
