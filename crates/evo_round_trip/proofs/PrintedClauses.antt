-- Clauses of a `switch` are written.
use Rattle.std.proofs.Common.{◌≡◌, ℕ, ◌+◌, List, [], ◌∷◌, ◌++◌, map, Bool, true, false, codes, refl, sym, ◌∙◌, ap, ap₂, subst, append_assoc, append-nil}
use Rattle.std.specs.List.{flat_map}
use Rattle.evo_base.specs.declared.place.Place.{Place}
use Rattle.evo_combinators.specs.Guard.{Run}
use Rattle.evo_round_trip.proofs.Alike.{AllLike}
use Rattle.evo_tree.specs.declared.statement.ClauseLabel.{ClauseLabel}
use Rattle.evo_tree.specs.declared.statement.ClauseLabel.TheVariants as label
use Rattle.evo_tree.specs.declared.statement.Clause.{Clause, Clause-F, out-Clause, roll-Clause, map-Clause, fold_out-Clause, out-roll-Clause}
use Rattle.evo_tree.specs.declared.statement.Stmt.{Stmt, roll-Stmt}
use Rattle.evo_tree.specs.declared.statement.Block.{Block, roll-Block}
use Rattle.evo_tree.specs.declared.terminal.Terminal.TheVariants as t
use Rattle.evo_tree.specs.Expressions.{Rule}
use Rattle.evo_tree.specs.Statements.{clause, takes_rest, is_last_clause, SomeStatements, IsClause, clause_at, ClausesTail, less, ClausesOf}
use Rattle.evo_tree.specs.Bare.{clear_stmt, clear_block, clear_clause, bare_block, bare_stmt, bare_clause, bare_clause_label}
use Rattle.evo_tree.specs.Canonical.{Text, indent, line, clause_text, stmt_text}
use Rattle.evo_print.specs.Texts.{words_of, clause_lines}
use Rattle.evo_print.proofs.StatementTexts.{clause_text_lines}
use Rattle.evo_round_trip.proofs.Printed.{any, is_apart, is_flush, is_free, leads_free}
use Rattle.evo_round_trip.proofs.Prints.{Prints, Writes, print_only, print_nothing, print_or, print_led, print_nested, print_then, print_after, print_after_told, print_run, print_behind, print_in, print_firm, print_more}
use Rattle.evo_round_trip.proofs.Spellings.{sign}
use Rattle.evo_round_trip.proofs.TakenTokens.{taken_mark}
use Rattle.evo_round_trip.proofs.Heads.{is_head, head_flush, apart_free, leads_apart, any_head}
use Rattle.evo_round_trip.proofs.ExpressionTrees.{like_map}
use Rattle.evo_round_trip.proofs.StatementTrees.{SameStmt, SameClause, stmt_line, clause_same}
use Rattle.evo_round_trip.proofs.PrintedBlocks.{feed, indent_gap, fed_lines, Stated, statements_print}
use Rattle.evo_round_trip.proofs.PrintedPatterns.{label_words, label_prints}

-- a clause without the white space before it and the line feed behind it
abbrev pub clause_words : ℕ → Clause → Text
clause_words n c = label_words (out-Clause c).label ++ (codes ":" ++ flat_map (λ x. feed (n + 1) ++ words_of x (n + 1)) (out-Clause c).statements)

label_is : (l : ClauseLabel) → clause_text l ≡ label_words l ++ codes ":"
label_is (label.Case ps) = refl
label_is label.Default = refl
label_is label.UnknownDefault = refl

clause_fed : (n : ℕ) (c : Clause) → (indent n ++ clause_words n c) ++ codes "\n" ≡ clause_lines c n
clause_fed n c =
    simp append_assoc
    (ap (λ z. indent n ++ (label_words (out-Clause c).label ++ (codes ":" ++ z))) (fed_lines (λ x. words_of x (n + 1)) (n + 1) (out-Clause c).statements ∙ ap (λ z. codes "\n" ++ z) (lines (out-Clause c).statements))
    ∙ sym (clause_text_lines c n (n + 1) refl ∙ ap (λ z. (indent n ++ z ++ codes "\n") ++ flat_map (λ x. stmt_text x (n + 1)) (out-Clause c).statements) (label_is (out-Clause c).label) ∙ simp append_assoc))
  where
    lines : (ss : List Stmt) → flat_map (λ x. line (n + 1) (words_of x (n + 1))) ss ≡ flat_map (λ x. stmt_text x (n + 1)) ss
    lines [] = refl
    lines (x ∷ xs) = ap₂ (λ v w. v ++ w) (sym (stmt_line x (n + 1))) (lines xs)

-- the braces of a `switch`
abbrev pub braces_text : ℕ → List Clause → Text
braces_text n cs = codes "{" ++ (flat_map (λ c. feed n ++ clause_words n c) cs ++ (feed n ++ codes "}"))

pub braces_is : (n : ℕ) (cs : List Clause) → braces_text n cs ≡ codes "{\n" ++ (flat_map (λ c. clause_lines c n) cs ++ (indent n ++ codes "}"))
braces_is n cs =
    ap (λ z. codes "{" ++ z) (sym (append_assoc (flat_map (λ c. feed n ++ clause_words n c) cs) (codes "\n") (indent n ++ codes "}")) ∙ ap (λ z. z ++ (indent n ++ codes "}")) (fed_lines (clause_words n) n cs ∙ ap (λ z. codes "\n" ++ z) (lines cs)))
  where
    lines : (cs : List Clause) → flat_map (λ c. line n (clause_words n c)) cs ≡ flat_map (λ c. clause_lines c n) cs
    lines [] = refl
    lines (c ∷ cs) = ap₂ (λ v w. v ++ w) (clause_fed n c) (lines cs)

-- ---- rules

module _ (S : Rule Stmt) (law : Stated S) where
  abbrev below : ℕ → Stmt → Text
  below n x = feed n ++ words_of x n

  some_prints : (n : ℕ) → Writes true false is_apart (flat_map (below n)) (AllLike SameStmt) (SomeStatements S) (SomeStatements S)
  some_prints n = print_then {q = is_apart} {e' = true} (print_firm (print_behind (feed n) refl (indent_gap n) (print_more (λ h. h) head_flush (law n any is_head any_head)))) (λ w i. i) apart_free
      (λ x. print_after {q = is_apart} (statements_print S law n false) (λ w i. i) apart_free (λ w i. i)
      (λ xs. print_only (ap (λ z. below n x ++ z) (append-nil (flat_map (below n) xs))) (λ a near. (near.0.1, near.1))))

  clause_leaf : (l : Place × ClauseLabel) (ss : List Stmt) (n : ℕ) → label_words l.1 ++ (codes ":" ++ (flat_map (below (n + 1)) ss ++ [])) ≡ clause_words n (clause l ss)
  clause_leaf l ss n = ap (λ z. label_words l.1 ++ (codes ":" ++ z)) (append-nil (flat_map (below (n + 1)) ss))
      ∙ sym (ap (λ (c : Clause-F Stmt Block Clause). label_words c.label ++ (codes ":" ++ flat_map (below (n + 1)) c.statements)) (out-roll-Clause (record { place = l.0; label = l.1; statements = ss })))

  clause_prints : (d n : ℕ) → Writes false false is_head (clause_words n) SameClause (IsClause d S) (IsClause d S)
  clause_prints d n = print_then {q = is_free} {e' = false} (label_prints d) (λ w i. i) (λ w i. i)
      (λ l. print_led {e' = false} {q = is_apart} (taken_mark t.Colon [] refl refl (λ u g i. refl)) (λ c ws b. leads_apart _ (sign [] t.Colon) ws refl b)
      (λ c. print_then {q = is_free} {e' = true} (some_prints (n + 1)) (λ w i. i) (λ w i. i)
      (λ ss. print_only {p = is_free} (clause_leaf l ss n) (λ a near. clause_same l a.0.0.1 ss a.1 near.0.0.1 (like_map bare_stmt ss a.1 near.1)))))

  fed_clause : (d n : ℕ) → Writes true false is_apart (λ c. feed n ++ clause_words n c) SameClause (IsClause d S) (IsClause d S)
  fed_clause d n = print_firm (print_behind (feed n) refl (indent_gap n) (print_more (λ h. h) head_flush (clause_prints d n)))

  rest_kept : (c c' : Clause) → SameClause c c' → is_last_clause false c ≡ is_last_clause false c'
  rest_kept c c' same = sym (kept c) ∙ ap (λ z. takes_rest (out-Clause z).label) same ∙ kept c'
    where
      label_kept : (l : ClauseLabel) → takes_rest (bare_clause_label l) ≡ takes_rest l
      label_kept (label.Case ps) = refl
      label_kept label.Default = refl
      label_kept label.UnknownDefault = refl

      kept : (c : Clause) → takes_rest (out-Clause (bare_clause c)).label ≡ takes_rest (out-Clause c).label
      kept c =
          ap (λ z. takes_rest (out-Clause z).label) (fold_out-Clause Stmt Block Clause (λ z. roll-Stmt (clear_stmt z)) (λ b. roll-Block (clear_block b)) (λ k. roll-Clause (clear_clause k)) c)
          ∙ ap (λ (z : Clause-F Stmt Block Clause). takes_rest z.label) (out-roll-Clause (clear_clause (map-Clause Stmt Block Clause Stmt Block Clause bare_stmt bare_block bare_clause (out-Clause c)))) ∙ label_kept (out-Clause c).label

  clauses_run : (d n : ℕ) (s : Bool) → Prints true any true is_apart (λ z. z) (flat_map (λ c. feed n ++ clause_words n c)) (λ s'. s ≡ s') (AllLike SameClause) (Run (clause_at d S) is_last_clause s) (λ s'. Run (clause_at d S) is_last_clause s')
  clauses_run d n = print_run {Rel = λ s s'. s ≡ s'} apart_free each (λ s s' c c' near same. rest_kept c c' same)
    where
      each : (s : Bool) → Prints true any false is_apart (λ z. z) (λ c. feed n ++ clause_words n c) (λ s'. s ≡ s') SameClause (clause_at d S s) (clause_at d S)
      each true = record { holds = λ us b gen fst r. absurd r }
      each false = record {
        holds = λ us b gen fst r.
            let (ws, written, sound, begun, make) = (fed_clause d n).holds us b gen fst r in
            (ws, written, sound, begun, λ a near ms f. let (b', r', same) = make tt tt ms f in (b', subst (λ z. clause_at d S z ms b') near r', same));
      }

  rest_prints : (d n : ℕ) → Writes true false is_apart (λ cs. flat_map (λ c. feed n ++ clause_words n c) cs ++ (feed n ++ codes "}")) (λ xs ys. map bare_clause xs ≡ map bare_clause ys) (ClausesTail d S) (ClausesTail d S)
  rest_prints d n = print_then {q = is_apart} {e' = false} (fed_clause d n) (λ w i. i) apart_free
      (λ c. print_after_told (clauses_run d n (is_last_clause false c)) (λ a near. rest_kept c a.1 near.1)
      (λ cs. print_led {e' = true} {q = is_free} (taken_mark t.CloseBrace (feed n) refl (indent_gap n) (λ u g i. refl)) (λ c' ws b. leads_free _ (sign (feed n) t.CloseBrace) ws refl b)
      (λ c'. print_only (simp append_assoc) (λ a near. ap₂ (λ v w. v ∷ w) near.0.0.1 (like_map bare_clause cs a.0.1 near.0.1)))) apart_free)

  pub clauses_print : (d n : ℕ) → Writes false false is_flush (braces_text n) (λ xs ys. map bare_clause xs ≡ map bare_clause ys) (ClausesOf d S) (ClausesOf d S)
  clauses_print d n = print_or
      (print_nested d (print_led {e' = false} {q = is_apart} (taken_mark t.OpenBrace [] refl refl (λ u g i. refl)) (λ c ws b. leads_apart _ (sign [] t.OpenBrace) ws refl b)
      (λ c. print_in (λ b z h. ap (λ v. codes "{" ++ v) h) (rest_prints (less d) n))))
      print_nothing
