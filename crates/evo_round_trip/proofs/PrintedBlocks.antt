-- Statements one below the other, and blocks, are written.
use Rattle.std.proofs.Common.{◌≡◌, ℕ, zero, suc, ◌+◌, List, [], ◌∷◌, ◌++◌, Bool, true, false, codes, refl, sym, ◌∙◌, ap, ap₂, subst, inl, inr, append_assoc}
use Rattle.std.specs.Prelude.{◌==◌, not}
use Rattle.std.specs.List.{flat_map}
use Rattle.std.proofs.lemmas.Bool.{and_parts}
use Rattle.evo_base.specs.declared.place.Place.{Place}
use Rattle.evo_combinators.specs.Guard.{On}
use Rattle.evo_round_trip.proofs.Alike.{AllLike}
use Rattle.evo_tree.specs.declared.statement.Stmt.{Stmt}
use Rattle.evo_tree.specs.declared.terminal.Terminal.TheVariants as t
use Rattle.evo_tree.specs.Terminals.{number_of}
use Rattle.evo_tree.specs.Pieces.{Piece}
use Rattle.evo_tree.specs.Expressions.{Rule}
use Rattle.evo_tree.specs.Statements.{is_below, is_later, Later, statement_at, Statements, BlockOf, block}
use Rattle.evo_tree.specs.Bare.{bare_stmt}
use Rattle.evo_tree.specs.Canonical.{Text, indent, line, stmt_text, block_text}
use Rattle.evo_print.specs.Texts.{words_of}
use Rattle.evo_round_trip.proofs.Written.{Written, joined, is_gap, breaks, Sound}
use Rattle.evo_round_trip.proofs.Matching.{FromText}
use Rattle.evo_round_trip.proofs.Printed.{any, begins, is_apart, is_flush, is_free, Matched, any_begins, leads_free, begins_within}
use Rattle.evo_round_trip.proofs.Prints.{Prints, Writes, Alone, print_only, print_nothing, print_or, print_led, print_nested, print_after, print_run, print_firm, print_more, print_behind, print_on}
use Rattle.evo_round_trip.proofs.Spellings.{sign}
use Rattle.evo_round_trip.proofs.TakenTokens.{taken_mark}
use Rattle.evo_round_trip.proofs.Heads.{is_head, head_flush, apart_free, leads_apart, Begun, any_head, is_no_dot, later_begun}
use Rattle.evo_round_trip.proofs.ExpressionTrees.{like_map}
use Rattle.evo_round_trip.proofs.StatementTrees.{SameStmt, SameBlock, stmt_line, block_is, block_same}

-- ---- lines

-- the white space before a line that is so deep
abbrev pub feed : ℕ → List ℕ
feed n = 10 ∷ indent n

pub indent_gap : (n : ℕ) → is_gap (indent n) ≡ true
indent_gap zero = refl
indent_gap (suc n) = indent_gap n

-- lines that each begin with a line feed, and lines that each end in one
pub fed_lines : {X : Type 0} (f : X → Text) (n : ℕ) (xs : List X) → flat_map (λ x. feed n ++ f x) xs ++ codes "\n" ≡ codes "\n" ++ flat_map (λ x. line n (f x)) xs
fed_lines f n [] = refl
fed_lines f n (x ∷ xs) =
    append_assoc (feed n ++ f x) (flat_map (λ x. feed n ++ f x) xs) (codes "\n") ∙ ap (λ z. (feed n ++ f x) ++ z) (fed_lines f n xs)
    ∙ ap (λ z. 10 ∷ z) (sym (append_assoc (indent n ++ f x) (codes "\n") (flat_map (λ x. line n (f x)) xs)))

-- ---- statements

-- a rule of statements is written, whatever it must begin with, so deep
abbrev pub Stated : Rule Stmt → Type 0
Stated S = (n : ℕ) (g : Piece → Bool) (p : Written → Bool) → Begun g p → Prints {A = Unit {0}} false g false p (λ z. z) (λ x. words_of x n) Alone SameStmt S (λ a. S)

module _ (S : Rule Stmt) (law : Stated S) (n : ℕ) where
  abbrev below : Stmt → Text
  below x = feed n ++ words_of x n

  first_below : Prints {A = Bool} true any false is_apart (λ z. z) below (λ s. true ≡ s) SameStmt (statement_at S true) (statement_at S)
  first_below = record {
    holds = λ us x gen fst s.
        let (ws, written, sound, begun, make) = (print_firm (print_behind (feed n) refl (indent_gap n) (print_more (λ h. h) head_flush (law n any is_head any_head)))).holds us x gen fst s in
        (ws, written, sound, begun, λ a near ms f. let (x', s', same) = make tt tt ms f in (x', subst (λ b. statement_at S b ms x') near s', same));
  }

  -- what begins with no dot
  pub later_prints : Writes false false is_flush (λ x. words_of x n) SameStmt (Later S) (Later S)
  unfolding is_later
  later_prints = record {
    holds = λ us x gen fst s.
        let (u, vs, at, passes, spelled) = s in
        let (ws, written, sound, begun, make) = (law n is_later is_no_dot later_begun).holds us x gen (subst (λ z. begins true is_later z ≡ true) (sym at) passes) spelled in
        (ws, written, sound, begins_within false false is_no_dot is_flush ws (λ h. h) (λ w h. head_flush w (and_parts (is_head w) _ h).0) begun, λ a near ms f. on x ws begun make ms f);
  }
    where
      on : (x : Stmt) (ws : List Written) → begins false is_no_dot ws ≡ true → ((a : Unit {0}) → Alone a → (ms : List Piece) → Matched false ms ws → (x' : Stmt) × S ms x' × SameStmt x x') →
          (ms : List Piece) → Matched false ms ws → (x' : Stmt) × Later S ms x' × SameStmt x x'
      on x [] h make ms f = absurd (cc)
      on x (w ∷ ws) h make [] f = absurd f
      on x (w ∷ ws) h make (m ∷ ms) f =
          let (x', s', same) = make tt tt (m ∷ ms) f in
          (x', (m, ms, refl, subst (λ k. not (number_of k == number_of t.Dot) ≡ true) (sym f.0.terminal) (and_parts (is_head w) _ h).1, s'), same)

  further_prints : Writes true false is_apart below SameStmt (Later S) (On is_below (Later S))
  unfolding is_below
  further_prints = print_on (feed n) refl (indent_gap n) passes later_prints
    where
      passes : (m : Piece) → m.below ≡ breaks (feed n) → is_below m ≡ true
      passes m is = is

  next_below : Prints {A = Bool} true any false is_apart (λ z. z) below (λ s. false ≡ s) SameStmt (statement_at S false) (statement_at S)
  next_below = record { holds = go }
    where
      again : (us : List Piece) (x : Stmt) → FromText us → Later S us x →
          (ws : List Written) × (joined ws ≡ below x) × Sound ws × (begins false is_apart ws ≡ true) × ((a : Bool) → false ≡ a → (ms : List Piece) → Matched true ms ws → (x' : Stmt) × statement_at S a ms x' × SameStmt x x')
      again us x gen s =
          let (ws, written, sound, begun, make) = further_prints.holds us x gen (any_begins us) s in
          (ws, written, sound, begun, λ a near ms f. let (x', s', same) = make tt tt ms f in (x', subst (λ b. statement_at S b ms x') near (inr s'), same))

      go : (us : List Piece) (x : Stmt) → FromText us → begins true any us ≡ true → statement_at S false us x →
          (ws : List Written) × (joined ws ≡ below x) × Sound ws × (begins false is_apart ws ≡ true) × ((a : Bool) → false ≡ a → (ms : List Piece) → Matched true ms ws → (x' : Stmt) × statement_at S a ms x' × SameStmt x x')
      go us x gen fst (inl (t, c, vs, at, takes, s)) = again vs x (subst FromText at gen).2 s
      go us x gen fst (inr (u, vs, at, is, s)) = again us x gen s

  -- statements, each on a line of its own
  pub statements_print : (first : Bool) → Writes true true is_apart (flat_map below) (AllLike SameStmt) (Statements S first) (Statements S first)
  statements_print first = record {
    holds = λ us xs gen fst s.
        let (ws, written, sound, begun, make) = (print_run {Rel = λ s s'. s ≡ s'} apart_free each (λ s s' x x' near same. refl) first).holds us xs gen fst s in
        (ws, written, sound, begun, λ a near ms f. make first refl ms f);
  }
    where
      each : (s : Bool) → Prints true any false is_apart (λ z. z) below (λ s'. s ≡ s') SameStmt (statement_at S s) (statement_at S)
      each true = first_below
      each false = next_below

-- ---- blocks

pub block_leaf : (p : Place) (ss : List Stmt) (q : Place) (n : ℕ) → codes "{" ++ (flat_map (λ x. feed (n + 1) ++ words_of x (n + 1)) ss ++ (feed n ++ (codes "}" ++ []))) ≡ block_text (block p ss q) n
block_leaf p ss q n =
    ap (λ z. codes "{" ++ z) (sym (append_assoc (flat_map (λ x. feed (n + 1) ++ words_of x (n + 1)) ss) (codes "\n") (indent n ++ codes "}"))
    ∙ ap (λ z. z ++ (indent n ++ codes "}")) (fed_lines (λ x. words_of x (n + 1)) (n + 1) ss ∙ ap (λ z. codes "\n" ++ z) (lines ss)))
    ∙ sym (append_assoc (codes "{\n" ++ flat_map (λ x. stmt_text x (n + 1)) ss) (indent n) (codes "}"))
    ∙ sym (block_is p ss q n)
  where
    lines : (ss : List Stmt) → flat_map (λ x. line (n + 1) (words_of x (n + 1))) ss ≡ flat_map (λ x. stmt_text x (n + 1)) ss
    lines [] = refl
    lines (x ∷ xs) = ap₂ (λ v w. v ++ w) (sym (stmt_line x (n + 1))) (lines xs)

-- a block that begins behind a blank
pub block_prints : (d : ℕ) (S : Rule Stmt) → Stated S → (n : ℕ) → Writes false false is_flush (λ b. block_text b n) SameBlock (BlockOf d S) (BlockOf d S)
block_prints d S law n = print_or
    (print_nested d (print_led {e' = false} {q = is_apart} (taken_mark t.OpenBrace [] refl refl (λ u g i. refl)) (λ c ws b. leads_apart _ (sign [] t.OpenBrace) ws refl b)
    (λ c. print_after {q = is_apart} (statements_print S law (n + 1) true) (λ w i. i) apart_free (λ w i. i)
    (λ ss. print_led {e' = true} {q = is_free} (taken_mark t.CloseBrace (feed n) refl (indent_gap n) (λ u g i. refl)) (λ c' ws b. leads_free _ (sign (feed n) t.CloseBrace) ws refl b)
    (λ c'. print_only (block_leaf c ss c' n) (λ a near. block_same c a.0.0.1 ss a.0.1 c' a.1 (like_map bare_stmt ss a.0.1 near.0.1)))))))
    print_nothing
