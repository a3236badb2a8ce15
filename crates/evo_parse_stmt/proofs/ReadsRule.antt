-- The readers of statements read their rules, over readers of expressions, of arguments and of a statement in braces.
use Rattle.std.specs.Prelude.{◌≡◌, ℕ, zero, suc, Bool, true, false, List, [], ◌∷◌, ◌++◌, Option, Some, None, refl, codes}
use Rattle.std.proofs.Common.{sym, ◌∙◌, ap, subst, inl, inr, arith, append_assoc}
use Rattle.evo_base.specs.declared.place.Place.{Place}
use Rattle.evo_combinators.specs.Rule.{Empty, Fail, TokenThen, Or, Then, Many, SomeOf}
use Rattle.evo_combinators.specs.Reader.{refuse}
use Rattle.evo_combinators.specs.Guard.{On, Run}
use Rattle.evo_combinators.specs.Attempt.{tries}
use Rattle.evo_combinators.specs.Laws.{Begins, first, Skips}
use Rattle.evo_combinators.proofs.Laws.{begins_or, begins_nothing, begins_then, begins_as, begins_skips, many_first, of_map}
use Rattle.evo_combinators.proofs.Sequences.{Anything}
use Rattle.evo_tree.specs.declared.statement.Pattern.{Pattern}
use Rattle.evo_tree.specs.declared.statement.ClauseLabel.TheVariants as kind
use Rattle.evo_tree.specs.declared.statement.Clause.{Clause}
use Rattle.evo_tree.specs.declared.statement.Stmt.{Stmt}
use Rattle.evo_tree.specs.declared.terminal.Terminal.TheVariants as t
use Rattle.evo_tree.specs.Terminals.{number_of}
use Rattle.evo_tree.specs.Pieces.{Piece, is_terminal, mark, word}
use Rattle.evo_tree.specs.Expressions.{Rule, Nested}
use Rattle.evo_tree.specs.Statements as grammar
use Rattle.evo_tree.specs.Statements.{is_below, is_later, is_last_clause, no_longer_first, less, IsPattern, Later, Statements, SomeStatements, BlockTail, BlockOf, Patterns, Label, IsClause, ClausesTail, ClausesOf}
use Rattle.evo_parse_expr.specs.Read.{Reader, opens}
use Rattle.std.specs.Prelude.{◌||◌, is_some}
use Rattle.evo_tree.specs.Pieces.{sign, opens_nesting}
use Rattle.evo_parse_expr.proofs.Tests.{Stop, quiet_mark, quiet_number, word_number}
use Rattle.evo_parse_expr.proofs.Nesting.{May}
use Rattle.evo_parse_expr.proofs.ReadsRule.{begins_nested}
use Rattle.evo_parse_stmt.specs.Read.{patterns, unknown, label, later, further, statement_at, statements, some_statements, rest_of_block, block_of, clause, clause_at, rest_of_clauses, clauses_of}
use Rattle.evo_parse_expr.proofs.Among.{among, widened, not_among}
use Rattle.evo_parse_expr.proofs.Tests.{mark_is, mark_number}
use Rattle.evo_parse_stmt.proofs.Tests.{code, mark_codes, a_piece, a_place, mark_takes, word_takes}
use Rattle.evo_parse_stmt.proofs.Fits.{Law, Fits, Below, Tail, Leads, fits_pure, law_nothing, fits_then, fits_map, fits_led, fits_mark, law_alt, law_opens, no_skips, fits_many, begun_law, law_ahead, fits_tries, run_follows, begun_follows, tail_alt, tail_last}
use Rattle.evo_parse_stmt.proofs.Follows.{AfterStmt, Closes, closing, Fresh, leading, Starts, BeginsAt, closes_after, next_after, closes_shut, starts_not, later_no_dot, below_is, six_at, Without, without_less, without_at}
use Rattle.evo_parse_stmt.proofs.Patterns.{Never, without_no, mark_follows, AfterPattern, fits_pattern}

-- ---- labels of clauses

-- what may follow a label
abbrev AfterLabel : Option Piece → Type 0
AfterLabel = Without (number_of t.Comma ∷ number_of t.OpenParenthesis ∷ number_of t.Dot ∷ [])

to_pattern : (x : Option Piece) → AfterLabel x → AfterPattern x
to_pattern x stop = without_less (number_of t.OpenParenthesis ∷ number_of t.Dot ∷ []) (number_of t.Comma ∷ number_of t.OpenParenthesis ∷ number_of t.Dot ∷ []) refl x stop

comma_pattern : (p : Piece) (a : Place) → mark t.Comma p ≡ Some a → AfterPattern (Some p)
comma_pattern p a takes = without_at (number_of t.OpenParenthesis ∷ number_of t.Dot ∷ []) t.Comma p (mark_number t.Comma p a takes) refl

abbrev MorePatterns : ℕ → Rule (List Pattern)
MorePatterns d = Many (mark t.Comma) (λ _. IsPattern d)

fits_patterns : (d : ℕ) → Fits (suc d) AfterLabel (Patterns d) (Patterns (suc d)) (patterns d) (patterns (suc d))
unfolding patterns
fits_patterns d = fits_then refl
    (λ x vs rest ys s stop. let (xs, m, is) = of_map (MorePatterns d) (λ xs. x ∷ xs) vs ys s in
    many_first AfterLabel AfterPattern (mark t.Comma) (λ _. IsPattern d) to_pattern comma_pattern vs rest xs m stop)
    (fits_pattern d)
    (λ x. fits_map (λ xs. x ∷ xs)
    (fits_many (mark t.Comma) (quiet_mark t.Comma refl) refl (without_no (number_of t.Comma ∷ number_of t.OpenParenthesis ∷ number_of t.Dot ∷ []) t.Comma refl) to_pattern comma_pattern (λ _. (fits_pattern d).here tt) (λ _. fits_pattern d)))

fits_unknown : (d : ℕ) (p : Place) → Fits d AfterLabel (TokenThen (word (codes "unknown")) (λ _. TokenThen (mark t.Default) (λ _. Empty (p, kind.UnknownDefault)))) (TokenThen (word (codes "unknown")) (λ _. TokenThen (mark t.Default) (λ _. Empty (p, kind.UnknownDefault)))) (unknown p) (unknown p)
unfolding unknown
fits_unknown d p = fits_led (word (codes "unknown")) (λ u a takes. quiet_number 0 refl u (word_number (codes "unknown") u a takes)) (a_piece t.Identifier (codes "unknown")) a_place (word_takes (codes "unknown")) refl (λ _. fits_mark t.Default refl refl (λ _. fits_pure refl (p, kind.UnknownDefault)))

abbrev labelling : List ℕ
labelling = number_of t.Case ∷ number_of t.Default ∷ number_of t.At ∷ []

tail_label : (d : ℕ) → Tail (suc d) AfterLabel Never labelling (Label d) (Label (suc d)) (label d) (label (suc d))
unfolding label
tail_label d =
    tail_alt (mark t.Case) (number_of t.Case ∷ []) (mark_codes t.Case) (quiet_mark t.Case refl) refl (λ p never is. never) (λ p. fits_map (λ xs. (p, kind.Case xs)) (fits_patterns d))
    (tail_alt (mark t.Default) (number_of t.Default ∷ []) (mark_codes t.Default) (quiet_mark t.Default refl) refl (λ p never is. never) (λ p. fits_pure refl (p, kind.Default))
    (tail_last (mark t.At) (number_of t.At ∷ []) (mark_codes t.At) (fits_mark t.At refl refl (fits_unknown (suc d)))))

-- ---- braces

pub braced : {B : Type 0} (d : ℕ) (R : Place → Rule B) → Begins (λ p. code p ≡ number_of t.OpenBrace) (Or (Nested d (mark t.OpenBrace) R) Fail)
braced d R = begins_or (λ p. code p ≡ number_of t.OpenBrace) (Nested d (mark t.OpenBrace) R) Fail
    (begins_nested d (λ p. code p ≡ number_of t.OpenBrace) (mark t.OpenBrace) R (λ p a takes. mark_number t.OpenBrace p a takes)) (begins_nothing (λ p. code p ≡ number_of t.OpenBrace))

-- braces do not go on with an expression
pub braces_six : {B : Type 0} (d : ℕ) (R : Place → Rule B) (vs rest : List Piece) (b : B) → Or (Nested d (mark t.OpenBrace) R) Fail vs b → Stop 6 (first (vs ++ rest))
braces_six d R = begun_follows (Stop 6) (Or (Nested d (mark t.OpenBrace) R) Fail) (braced d R) (λ p is. six_at t.OpenBrace p is (omega arith))

pub braces_map_six : {B C : Type 0} (d : ℕ) (R : Place → Rule B) (g : B → C) (vs rest : List Piece) (c : C) → Then (Or (Nested d (mark t.OpenBrace) R) Fail) (λ b. Empty (g b)) vs c → Stop 6 (first (vs ++ rest))
braces_map_six d R g vs rest c s = let (b, r, is) = of_map (Or (Nested d (mark t.OpenBrace) R) Fail) g vs c s in braces_six d R vs rest b r

some_below : {A : Type 0} (d : ℕ) (Stop' : Option Piece → Type 0) (S S' : Rule A) (p p' : Reader A) → Below d Stop' S S' p p' → SomeOf S'
some_below zero Stop' S S' p p' below = below
some_below (suc d) Stop' S S' p p' below = below.some

brace_opens : (p : Piece) (a : Place) → mark t.OpenBrace p ≡ Some a → opens_nesting p ≡ true
brace_opens p a takes = opening (is_terminal t.OpenParenthesis p) (is_terminal t.OpenBrace p) (is_some (sign p)) (mark_is t.OpenBrace p a takes)
  where
    opening : (a b c : Bool) → b ≡ true → (a || b || c) ≡ true
    opening true true c is = refl
    opening false true c is = refl
    opening a false c is = absurd cc

here_braces : {B : Type 0} (d : ℕ) (R R' : Place → Rule B) (q q' : Place → Reader B) → ((a : Place) → Below d Anything (R a) (R' a) (q a) (q' a)) → May d → SomeOf (Or (Nested d (mark t.OpenBrace) R) Fail)
here_braces zero R R' q q' below held = absurd held
here_braces (suc d) R R' q q' below held = let (us, b, r) = (below a_place).here held in (a_piece t.OpenBrace [] ∷ us, b, inl (a_piece t.OpenBrace [], a_place, us, refl, mark_takes t.OpenBrace, r))

fits_braces : {B : Type 0} (d : ℕ) (R R' : Place → Rule B) (q q' : Place → Reader B) → ((a : Place) → Below d Anything (R a) (R' a) (q a) (q' a)) →
    Fits d Anything (Or (Nested d (mark t.OpenBrace) R) Fail) (Or (Nested (suc d) (mark t.OpenBrace) R') Fail) (opens d (mark t.OpenBrace) q refuse) (opens (suc d) (mark t.OpenBrace) q' refuse)
fits_braces d R R' q q' below = record {
  law = law_opens d (mark t.OpenBrace) R R' q q' brace_opens (no_skips Anything (mark t.OpenBrace)) below (law_nothing tt);
  some = let (us, b, r) = some_below d Anything (R a_place) (R' a_place) (q a_place) (q' a_place) (below a_place) in (a_piece t.OpenBrace [] ∷ us, b, inl (a_piece t.OpenBrace [], a_place, us, refl, mark_takes t.OpenBrace, r));
  here = here_braces d R R' q q' below;
}

-- a statement in braces; where no nesting may open there is none
pub record Statement (d : ℕ) (S S' : Rule Stmt) (p p' : Reader Stmt) : Type 0 where
  pub tail : Tail d AfterStmt Fresh leading S S' p p'
  pub later : SomeOf (Later S')
  pub later_here : May d → SomeOf (Later S)

abbrev pub Inner : ℕ → Rule Stmt → Rule Stmt → Reader Stmt → Reader Stmt → Type 0
Inner zero S S' p p' = SomeOf S'
Inner (suc d) S S' p p' = Statement (suc d) S S' p p'

-- ---- several statements

module _ (d : ℕ) (S S' : Rule Stmt) (p p' : Reader Stmt) (inner : Statement d S S' p p') where
  pub law_later : Law d AfterStmt (Later S) (Later S') (later p) (later p')
  unfolding later
  law_later = law_ahead is_later Starts inner.tail.begins inner.tail.fits.law

  fits_later : Fits d AfterStmt (Later S) (Later S') (later p) (later p')
  fits_later = record { law = law_later; some = inner.later; here = inner.later_here }

  begins_later : Begins Starts (Later S')
  begins_later us x (u, vs, cut, is, r) = inner.tail.begins us x r

  begins_below : Begins Starts (On is_below (Later S))
  begins_below us x (u, vs, cut, is, r) = begun_law law_later begins_later us x r

  semicolon_skips : (us rest : List Piece) (x : Stmt) → On is_below (Later S) us x → AfterStmt (first rest) → Skips (mark t.Semicolon) (us ++ rest)
  semicolon_skips us rest x r stop =
      begins_skips Starts (mark t.Semicolon) (On is_below (Later S)) begins_below (λ u a starts takes. starts_not t.Semicolon refl refl u starts (mark_number t.Semicolon u a takes)) us rest x r

  law_further : Law d AfterStmt (grammar.statement_at S false) (grammar.statement_at S' false) (further p) (further p')
  unfolding further
  law_further = law_alt (mark t.Semicolon) (quiet_mark t.Semicolon refl) semicolon_skips (λ _. fits_later) (law_ahead is_below Starts begins_later law_later)

  law_at : (early : Bool) → Law d AfterStmt (grammar.statement_at S early) (grammar.statement_at S' early) (statement_at p early) (statement_at p' early)
  law_at true = inner.tail.fits.law
  law_at false = law_further

  begins_further : Begins (BeginsAt false) (grammar.statement_at S' false)
  begins_further us x (inl (u, a, vs, cut, takes, r)) = (u, vs, cut, inl (mark_number t.Semicolon u a takes))
  begins_further us x (inr (u, vs, cut, is, (v, ws, cut', is', r))) =
      let (w, xs, cut'', h) = inner.tail.begins us x r in
      let same : u ≡ w = let both = sym cut ∙ cut'' in cc in
      let same' : v ≡ w = let both = sym cut' ∙ cut'' in cc in
      (w, xs, cut'', inr (ap (λ (z : Piece). z.below) (sym same) ∙ below_is u is, later_no_dot w (ap is_later (sym same') ∙ is'), h))

  begins_at : (early : Bool) → Begins (BeginsAt early) (grammar.statement_at S' early)
  begins_at true = inner.tail.begins
  begins_at false = begins_further

  fits_statements : (early : Bool) → Fits d Closes (Statements S early) (Statements S' early) (statements p early) (statements p' early)
  fits_statements early = fits_tries no_longer_first BeginsAt begins_at tt closes_shut closes_after (λ early' x u h. next_after u h) law_at early

  statements_follow : (vs rest : List Piece) (xs : List Stmt) → Statements S false vs xs → Closes (first rest) → AfterStmt (first (vs ++ rest))
  statements_follow = run_follows (grammar.statement_at S) no_longer_first BeginsAt false (begun_law law_further begins_further) closes_after next_after

  fits_some_statements : Fits d Closes (SomeStatements S) (SomeStatements S') (some_statements p) (some_statements p')
  unfolding some_statements
  fits_some_statements = fits_then tt
      (λ x vs rest ys r stop. let (xs, m, is) = of_map (Statements S false) (λ xs. x ∷ xs) vs ys r in statements_follow vs rest xs m stop)
      inner.tail.fits (λ x. fits_map (λ xs. x ∷ xs) (fits_statements false))

  fits_rest_of_block : (q : Place) → Fits d Anything (BlockTail S q) (BlockTail S' q) (rest_of_block p q) (rest_of_block p' q)
  unfolding rest_of_block
  fits_rest_of_block q = fits_then tt
      (λ ss vs rest b r stop. mark_follows Closes t.CloseBrace (λ q'. Empty (grammar.block q ss q')) (λ u is. ap (among closing) is) vs rest b r)
      (fits_statements true) (λ ss. fits_mark t.CloseBrace refl tt (λ q'. fits_pure tt (grammar.block q ss q')))

-- ---- clauses

module _ (d : ℕ) (S S' : Rule Stmt) (p p' : Reader Stmt) (inner : Statement (suc d) S S' p p') where
  fits_clause : Fits (suc d) Closes (IsClause d S) (IsClause (suc d) S') (clause d p) (clause (suc d) p')
  unfolding clause
  fits_clause = fits_then tt
      (λ l vs rest c r stop. mark_follows AfterLabel t.Colon (λ _. Then (SomeStatements S) (λ ss. Empty (grammar.clause l ss)))
      (λ u is. without_at (number_of t.Comma ∷ number_of t.OpenParenthesis ∷ number_of t.Dot ∷ []) t.Colon u is refl) vs rest c r)
      (tail_label d).fits (λ l. fits_mark t.Colon refl tt (λ _. fits_map (grammar.clause l) (fits_some_statements (suc d) S S' p p' inner)))

  abbrev Labels : Piece → Type 0
  Labels u = among labelling (code u) ≡ true

  begins_clause : Begins Labels (IsClause (suc d) S')
  begins_clause = begins_then Labels (Label (suc d)) _ (begins_as (Leads Never labelling) Labels (Label (suc d)) (λ u h. elim h [ inl is ↦ is | inr never ↦ absurd never ]) (tail_label d).begins)

  -- what a further clause begins with
  abbrev LabelsAt : Bool → Piece → Type 0
  LabelsAt true u = ⊥
  LabelsAt false u = Labels u

  begins_clause_at : (ended : Bool) → Begins (LabelsAt ended) (grammar.clause_at (suc d) S' ended)
  begins_clause_at true = begins_nothing (LabelsAt true)
  begins_clause_at false = begins_clause

  law_clause_at : (ended : Bool) → Law (suc d) Closes (grammar.clause_at d S ended) (grammar.clause_at (suc d) S' ended) (clause_at d p ended) (clause_at (suc d) p' ended)
  law_clause_at true = law_nothing tt
  law_clause_at false = fits_clause.law

  -- a closing brace
  abbrev Brace : Option Piece → Type 0
  Brace None = Unit {0}
  Brace (Some u) = code u ≡ number_of t.CloseBrace

  brace_shut : (ended : Bool) (u : Piece) → Brace (Some u) → LabelsAt ended u → ⊥
  brace_shut true u brace never = never
  brace_shut false u brace labels = not_among labelling (code u) (number_of t.CloseBrace) labels brace refl

  brace_closes : (x : Option Piece) → Brace x → Closes x
  brace_closes None brace = tt
  brace_closes (Some u) brace = ap (among closing) brace

  labels_close : (ended : Bool) (u : Piece) → LabelsAt ended u → Closes (Some u)
  labels_close true u never = absurd never
  labels_close false u labels = widened labelling closing (code u) refl labels

  fits_more : (ended : Bool) → Fits (suc d) Brace (Run (grammar.clause_at d S) is_last_clause ended) (Run (grammar.clause_at (suc d) S') is_last_clause ended) (tries (clause_at d p) is_last_clause ended) (tries (clause_at (suc d) p') is_last_clause ended)
  fits_more ended = fits_tries is_last_clause LabelsAt begins_clause_at tt brace_shut brace_closes (λ ended' c u h. labels_close (is_last_clause ended' c) u h) law_clause_at ended

  abbrev Ended : Clause → List Clause → Rule (List Clause)
  Ended c cs = TokenThen (mark t.CloseBrace) (λ _. Empty (c ∷ cs))

  ended_brace : (c : Clause) (cs : List Clause) (vs rest : List Piece) (xs : List Clause) → Ended c cs vs xs → Brace (first (vs ++ rest))
  ended_brace c cs vs rest xs r = mark_follows Brace t.CloseBrace (λ _. Empty (c ∷ cs)) (λ u is. is) vs rest xs r

  clauses_follow : (c : Clause) (ended : Bool) (vs rest : List Piece) (xs : List Clause) → Then (Run (grammar.clause_at d S) is_last_clause ended) (Ended c) vs xs → Closes (first (vs ++ rest))
  clauses_follow c ended vs rest xs (cs, us, ws, cut, m, r) =
      subst (λ (z : List Piece). Closes (first z)) (sym (ap (λ (z : List Piece). z ++ rest) cut ∙ append_assoc us ws rest))
      (run_follows (grammar.clause_at d S) is_last_clause LabelsAt ended (begun_law (law_clause_at ended) (begins_clause_at ended)) brace_closes (labels_close ended) us (ws ++ rest) cs m (ended_brace c cs ws rest xs r))

  fits_rest_of_clauses : Fits (suc d) Anything (ClausesTail d S) (ClausesTail (suc d) S') (rest_of_clauses d p) (rest_of_clauses (suc d) p')
  unfolding rest_of_clauses
  fits_rest_of_clauses = fits_then tt
      (λ c vs rest xs r stop. clauses_follow c (is_last_clause false c) vs rest xs r)
      fits_clause
      (λ c. fits_then tt (λ cs vs rest xs r stop. ended_brace c cs vs rest xs r) (fits_more (is_last_clause false c)) (λ cs. fits_mark t.CloseBrace refl tt (λ _. fits_pure tt (c ∷ cs))))

some_block : (S' : Rule Stmt) (q : Place) → SomeOf (BlockTail S' q)
some_block S' q = (a_piece t.CloseBrace [] ∷ [], grammar.block q [] a_place, ([], [], a_piece t.CloseBrace [] ∷ [], refl, refl, (a_piece t.CloseBrace [], a_place, [], refl, mark_takes t.CloseBrace, (refl, refl))))

some_clauses : (d : ℕ) (S' : Rule Stmt) → SomeOf S' → SomeOf (ClausesTail d S')
some_clauses d S' (us, x, r) =
    let colon = a_piece t.Colon [] in
    let default = a_piece t.Default [] in
    let brace = a_piece t.CloseBrace [] in
    let c = grammar.clause (a_place, kind.Default) (x ∷ []) in (
      (default ∷ (colon ∷ (us ++ []))) ++ brace ∷ [],
      c ∷ [],
      (
        c,
        default ∷ (colon ∷ (us ++ [])),
        brace ∷ [],
        refl,
        (
          (a_place, kind.Default),
          default ∷ [],
          colon ∷ (us ++ []),
          refl,
          inr (inl (default, a_place, [], refl, mark_takes t.Default, (refl, refl))),
          (colon, a_place, us ++ [], refl, mark_takes t.Colon, (x ∷ [], us ++ [], [], sym (nil (us ++ [])), (x, us, [], refl, r, ([], [], [], refl, refl, (refl, refl))), (refl, refl))),
        ),
        ([], [], brace ∷ [], refl, refl, (brace, a_place, [], refl, mark_takes t.CloseBrace, (refl, refl))),
      ),
    )
  where
    nil : (xs : List Piece) → xs ++ [] ≡ xs
    nil [] = refl
    nil (v ∷ xs) = ap (λ (z : List Piece). v ∷ z) (nil xs)

block_below : (d : ℕ) (S S' : Rule Stmt) (p p' : Reader Stmt) → Inner d S S' p p' → (q : Place) → Below d Anything (BlockTail S q) (BlockTail S' q) (rest_of_block p q) (rest_of_block p' q)
block_below zero S S' p p' inner q = some_block S' q
block_below (suc d) S S' p p' inner q = fits_rest_of_block (suc d) S S' p p' inner q

clauses_below : (d : ℕ) (S S' : Rule Stmt) (p p' : Reader Stmt) → Inner d S S' p p' → Below d Anything (ClausesTail (less d) S) (ClausesTail d S') (rest_of_clauses (less d) p) (rest_of_clauses d p')
clauses_below zero S S' p p' inner = some_clauses 0 S' inner
clauses_below (suc d) S S' p p' inner = fits_rest_of_clauses d S S' p p' inner

module _ (d : ℕ) (S S' : Rule Stmt) (p p' : Reader Stmt) (inner : Inner d S S' p p') where
  pub fits_block : Fits d Anything (BlockOf d S) (BlockOf (suc d) S') (block_of d p) (block_of (suc d) p')
  unfolding block_of
  fits_block = fits_braces d (BlockTail S) (BlockTail S') (rest_of_block p) (rest_of_block p') (block_below d S S' p p' inner)

  pub fits_clauses : Fits d Anything (ClausesOf d S) (ClausesOf (suc d) S') (clauses_of d p) (clauses_of (suc d) p')
  unfolding clauses_of
  fits_clauses = fits_braces d (λ _. ClausesTail (less d) S) (λ _. ClausesTail d S') (λ _. rest_of_clauses (less d) p) (λ _. rest_of_clauses d p') (λ _. clauses_below d S S' p p' inner)
