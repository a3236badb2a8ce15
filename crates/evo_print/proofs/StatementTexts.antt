-- The texts of statements and blocks, by those of their parts.
use Rattle.std.proofs.Common.{◌≡◌, ℕ, ◌+◌, List, [], ◌∷◌, ◌++◌, map, codes, Option, refl, sym, ◌∙◌, ap, append_assoc}
use Rattle.std.specs.List.{flat_map, join_by}
use Rattle.std.proofs.lemmas.List.Folds.{flat_map-map}
use Rattle.evo_base.specs.declared.place.Place.{Place}
use Rattle.evo_tree.specs.declared.expression.Expr.{Expr}
use Rattle.evo_tree.specs.declared.statement.Block.{Block, out-Block, fold_out-Block}
use Rattle.evo_tree.specs.declared.statement.Clause.{Clause, out-Clause, fold_out-Clause}
use Rattle.evo_tree.specs.declared.statement.Stmt.{Stmt, Stmt-F, out-Stmt, map-Stmt}
use Rattle.evo_tree.specs.declared.statement.Stmt.TheOpen as f
use Rattle.evo_tree.specs.declared.statement.Stmt.TheVariants as s
use Rattle.evo_tree.specs.declared.statement.Stmt.TheVariants.{outs-Local, outs-Discard, outs-Assign, outs-Expr, outs-SelfInit, outs-SuperInit, outs-If, outs-While, outs-Return, outs-Break, outs-Continue, outs-Switch}
use Rattle.evo_tree.specs.Canonical.{Text, indent, line, expr_text, clause_text, braced, branch_text, stmt_words, block_level, clause_level, stmt_level, block_text, stmt_text}
use Rattle.evo_print.specs.Texts.{Lines, clause_lines, branch, words_of}
use Rattle.evo_print.proofs.Lists.{join_by-map}

abbrev pub Branch : Type 0
Branch = Option Expr × Block

-- ---- lines in braces

pub braced_lines : {X : Type 0} (h : X → Lines) (xs : List X) (d inner : ℕ) → inner ≡ d + 1 → braced (map h xs) d ≡ codes "{\n" ++ flat_map (λ x. h x inner) xs ++ (indent d ++ codes "}")
braced_lines h xs d inner is =
    append_assoc (codes "{\n" ++ flat_map (λ (l : Lines). l (d + 1)) (map h xs)) (indent d) (codes "}")
    ∙ ap (λ (l : Text). codes "{\n" ++ l ++ (indent d ++ codes "}")) (flat_map-map (λ (l : Lines). l (d + 1)) h xs ∙ ap (λ (n : ℕ). flat_map (λ x. h x n) xs) (sym is))

pub block_lines : (b : Block) (d inner : ℕ) → inner ≡ d + 1 → block_text b d ≡ codes "{\n" ++ flat_map (λ x. stmt_text x inner) (out-Block b).statements ++ (indent d ++ codes "}")
block_lines b d inner is = ap (λ (l : Lines). l d) (fold_out-Block Lines Lines Lines stmt_level block_level clause_level b) ∙ braced_lines stmt_text (out-Block b).statements d inner is

pub clause_text_lines : (c : Clause) (d inner : ℕ) → inner ≡ d + 1 → clause_lines c d ≡ line d (clause_text (out-Clause c).label) ++ flat_map (λ x. stmt_text x inner) (out-Clause c).statements
clause_text_lines c d inner is =
    ap (λ (l : Lines). l d) (fold_out-Clause Lines Lines Lines stmt_level block_level clause_level c)
    ∙ ap (λ (l : Text). line d (clause_text (out-Clause c).label) ++ l) (flat_map-map (λ (l : Lines). l (d + 1)) stmt_text (out-Clause c).statements ∙ ap (λ (n : ℕ). flat_map (λ x. stmt_text x n) (out-Clause c).statements) (sym is))

-- ---- statements with blocks

abbrev opened : Stmt-F Stmt Block Clause → Stmt-F Lines Lines Lines
opened x = map-Stmt Stmt Block Clause Lines Lines Lines stmt_text block_text clause_lines x

branches_of : Stmt-F Lines Lines Lines → List (Option Expr × Lines)
branches_of (f.If p bs) = bs
branches_of x = []

branches_listed : (p : Place) (bs : List Branch) → branches_of (opened (f.If p bs)) ≡ map (λ (b : Branch). (b.0, block_text b.1)) bs
unfolding branches_of
branches_listed p [] = refl
branches_listed p (b ∷ bs) = ap (λ (l : List (Option Expr × Lines)). (b.0, block_text b.1) ∷ l) (branches_listed p bs)

module _ (a : Stmt) (d : ℕ) where
  words_by : (x : Stmt-F Stmt Block Clause) (t : Text) → out-Stmt a ≡ x → stmt_words (opened x) d ≡ t → words_of a d ≡ t
  words_by x t p q = ap (λ (v : Stmt-F Stmt Block Clause). stmt_words (opened v) d) p ∙ q

  if_level : (p : Place) (bs : List Branch) → stmt_words (opened (f.If p bs)) d ≡ join_by (branch d) (codes " else ") bs
  unfolding branches_of
  if_level p bs = ap (join_by (branch_text d) (codes " else ")) (branches_listed p bs) ∙ join_by-map (branch_text d) (λ (b : Branch). (b.0, block_text b.1)) (codes " else ") bs

  pub if_words : (p : Place) (bs : List Branch) → a ≡ s.If p bs → words_of a d ≡ join_by (branch d) (codes " else ") bs
  if_words p bs is = words_by (f.If p bs) _ (ap out-Stmt is ∙ outs-If p bs) (if_level p bs)

  pub while_words : (p : Place) (x : Expr) (b : Block) → a ≡ s.While p x b → words_of a d ≡ codes "while " ++ expr_text x ++ codes " " ++ block_text b d
  while_words p x b is = words_by (f.While p x b) _ (ap out-Stmt is ∙ outs-While p x b) refl

  switch_level : (p : Place) (x : Expr) (cs : List Clause) → stmt_words (opened (f.Switch p x cs)) d ≡ codes "switch " ++ expr_text x ++ codes " {\n" ++ flat_map (λ c. clause_lines c d) cs ++ (indent d ++ codes "}")
  switch_level p x cs =
      append_assoc (codes "switch " ++ expr_text x ++ codes " {\n" ++ flat_map (λ (l : Lines). l d) (map clause_lines cs)) (indent d) (codes "}")
      ∙ ap (λ (l : Text). codes "switch " ++ expr_text x ++ codes " {\n" ++ l ++ (indent d ++ codes "}")) (flat_map-map (λ (l : Lines). l d) clause_lines cs)

  pub switch_words : (p : Place) (x : Expr) (cs : List Clause) → a ≡ s.Switch p x cs → words_of a d ≡ codes "switch " ++ expr_text x ++ codes " {\n" ++ flat_map (λ c. clause_lines c d) cs ++ (indent d ++ codes "}")
  switch_words p x cs is = words_by (f.Switch p x cs) _ (ap out-Stmt is ∙ outs-Switch p x cs) (switch_level p x cs)
