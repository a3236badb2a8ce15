-- The readers of the single statements read their rules.
use Rattle.std.specs.Prelude.{◌≡◌, ℕ, suc, Bool, true, false, List, [], ◌∷◌, ◌++◌, length, Option, Some, None, Err, ◌⊎◌, refl}
use Rattle.std.proofs.Common.{sym, ◌∙◌, ap, subst, inl, inr, arith}
use Rattle.evo_base.specs.declared.place.Place.{Place}
use Rattle.evo_combinators.specs.declared.Fault.TheVariants.{Grammar}
use Rattle.evo_combinators.specs.Rule.{Empty, TokenThen, Or, Then}
use Rattle.evo_combinators.specs.Reader.{◌>>=◌, and_then, pure, alt, one}
use Rattle.evo_combinators.specs.Guard.{On}
use Rattle.evo_combinators.specs.Three.{three, starts_three}
use Rattle.evo_combinators.specs.Laws.{Begins, first, Skips}
use Rattle.evo_combinators.proofs.Laws.{begins_led, begins_or, begins_nothing, begins_then, begins_as, stop_skips, of_map}
use Rattle.evo_combinators.proofs.GuardDeeper.{deeper_choose}
use Rattle.evo_combinators.proofs.ThreeLaws.{right_three, far_refused, far_deep, three_other}
use Rattle.evo_combinators.proofs.Sequences.{Anything}
use Rattle.evo_tree.specs.declared.name.Identifier.{Identifier}
use Rattle.evo_tree.specs.declared.expression.Expr.{Expr}
use Rattle.evo_tree.specs.declared.statement.Introducer.{Introducer}
use Rattle.evo_tree.specs.declared.statement.AssignmentOperator.{AssignmentOperator}
use Rattle.evo_tree.specs.declared.statement.Block.{Block}
use Rattle.evo_tree.specs.declared.statement.Stmt.{Stmt}
use Rattle.evo_tree.specs.declared.statement.Stmt.TheVariants as s
use Rattle.evo_tree.specs.declared.terminal.Terminal.{Terminal}
use Rattle.evo_tree.specs.declared.terminal.Terminal.TheVariants as t
use Rattle.evo_tree.specs.Terminals.{number_of}
use Rattle.evo_tree.specs.Pieces.{Piece, is_terminal, mark}
use Rattle.evo_tree.specs.Expressions.{Rule}
use Rattle.evo_tree.specs.Types.{IsType}
use Rattle.evo_tree.specs.Statements as grammar
use Rattle.evo_tree.specs.Statements.{introduces, is_here, assigns_to, is_last_branch, less, BlockTail, BlockOf, ClausesTail, Annotation, LocalTail, DiscardTail, Branch, BehindElse, IfTail, WhileTail, ReturnTail, SwitchTail, InitTail, AssignmentTail, Action, ActionOf, StmtOf}
use Rattle.evo_parse_expr.specs.Read.{Reader, type_of}
use Rattle.evo_combinators.specs.Rule.{One, Many}
use Rattle.evo_combinators.specs.Reader.{many}
use Rattle.evo_combinators.proofs.Nesting.{nest_choose}
use Rattle.evo_tree.specs.Pieces.{opens_nesting}
use Rattle.evo_tree.specs.Types.{type_head, plain_name, type_name}
use Rattle.evo_parse_expr.proofs.Tests.{Stop, is_quiet, quiet_mark, quiet_number, plain_name_number}
use Rattle.evo_parse_expr.proofs.Nesting.{May, ReadsInner}
use Rattle.evo_parse_expr.proofs.ReadsRule.{right_type, some_type, NoDot}
use Rattle.evo_combinators.proofs.GrowsWithNesting.{same_refl}
use Rattle.evo_parse_stmt.specs.Read.{block_of, annotation, rest_of_local, rest_of_discard, branch, behind_else, else_at, rest_of_if, rest_of_while, value_here, rest_of_return, rest_of_switch, self_init, super_init, rest_of_assignment, action, action_of, leaving, stmt_of}
use Rattle.evo_parse_expr.proofs.Among.{among, disjoint}
use Rattle.evo_parse_expr.proofs.Tests.{mark_is, mark_number, is_number}
use Rattle.evo_parse_stmt.proofs.Tests.{code, introducing, introduces_codes, assigning_codes, assigns_codes, type_head_takes, plain_takes, mark_of, mark_codes, a_piece, a_place}
use Rattle.evo_parse_stmt.proofs.Fits.{Quiet, quiet_by, Law, Fits, Tail, Leads, fits_one, fits_many, fits_stop, fits_pure, law_nothing, fits_then, fits_next, fits_map, fits_mark, fits_name, fits_alt, law_ahead, fits_attempt, fits_tries, tail_alt}
use Rattle.evo_parse_stmt.proofs.Follows.{AfterStmt, Fresh, leading, expression_codes, fresh_apart, fresh_mark, here_is, after_six, operator_six, Without, without_at}
use Rattle.evo_parse_stmt.proofs.Patterns.{without_no, mark_follows, type_head_quiet}
use Rattle.evo_parse_stmt.proofs.ReadsRule.{Inner, braced, braces_map_six, fits_block, fits_clauses}

abbrev Arguments : Type 0
Arguments = List (Option Identifier × Expr)

-- what a statement goes on with where an expression may follow
fits_end : {d : ℕ} {A : Type 0} {S S' : Rule A} {p p' : Reader A} → Fits d (Stop 6) S S' p p' → Fits d AfterStmt S S' p p'
fits_end fits = fits_stop after_six tt fits

fits_any : {d : ℕ} {A : Type 0} {End : Option Piece → Type 0} {S S' : Rule A} {p p' : Reader A} → End None → Fits d Anything S S' p p' → Fits d End S S' p p'
fits_any ended fits = fits_stop (λ x stop. tt) ended fits

-- one more alternative led by a terminal
tail_mark : {d : ℕ} {B : Type 0} {ks : List ℕ} {S S' : Place → Rule B} {R R' : Rule B} {q q' : Place → Reader B} {r r' : Reader B} (k : Terminal) →
    is_quiet (number_of k) ≡ true → disjoint (number_of k ∷ []) ks ≡ true → disjoint (number_of k ∷ []) expression_codes ≡ true → ((a : Place) → Fits d AfterStmt (S a) (S' a) (q a) (q' a)) → Tail d AfterStmt Fresh ks R R' r r' →
    Tail d AfterStmt Fresh ((number_of k ∷ []) ++ ks) (Or (TokenThen (mark k) S) R) (Or (TokenThen (mark k) S') R') (alt (mark k) q r) (alt (mark k) q' r')
tail_mark k quiet far far' fits tail = tail_alt (mark k) (number_of k ∷ []) (mark_codes k) (quiet_mark k quiet) far (fresh_apart (number_of k ∷ []) far') fits tail

introduces_quiet : Quiet introduces
introduces_quiet = quiet_by introduces introducing refl introduces_codes

assigns_quiet : (y : Expr) → Quiet (assigns_to y)
assigns_quiet y = quiet_by (assigns_to y) assigning_codes refl (assigns_codes y)

-- ---- types

abbrev TypeNames : Rule (List (List ℕ))
TypeNames = Many (mark t.Dot) (λ _. One plain_name)

plain_quiet : Quiet plain_name
plain_quiet u a takes = quiet_number 0 refl u (plain_name_number u a takes)

abbrev AfterAnnotation : Option Piece → Type 0
AfterAnnotation = Without (number_of t.Colon ∷ number_of t.Dot ∷ [])

no_dot : (x : Option Piece) → AfterAnnotation x → NoDot x
no_dot None stop = refl
no_dot (Some p) stop = go (is_terminal t.Dot p) refl
  where
    go : (b : Bool) → is_terminal t.Dot p ≡ b → b ≡ false
    go true is = let bad = sym stop ∙ ap (among (number_of t.Colon ∷ number_of t.Dot ∷ [])) (is_number t.Dot p is) in absurd cc
    go false is = refl

fits_type_names : (d : ℕ) → Fits d NoDot TypeNames TypeNames (many (mark t.Dot) (λ _. one plain_name)) (many (mark t.Dot) (λ _. one plain_name))
fits_type_names d = fits_many (mark t.Dot) (quiet_mark t.Dot refl) refl (λ u a stop takes. let is = mark_is t.Dot u a takes in cc) (λ x stop. tt) (λ u a takes. tt) (λ _. one_name.some) (λ _. one_name)
  where
    one_name : Fits d Anything (One plain_name) (One plain_name) (one plain_name) (one plain_name)
    one_name = fits_one plain_name plain_quiet (a_piece t.Identifier []) [] plain_takes

nest_type : (d n : ℕ) → ReadsInner d n IsType type_of
unfolding type_of
nest_type d n = (fits_next refl (fits_one type_head type_head_quiet (a_piece t.Identifier []) (a_place, []) type_head_takes) (λ h. fits_map (type_name h) (fits_type_names d))).law.nest n

fits_type : (d : ℕ) → Fits d NoDot IsType IsType type_of type_of
fits_type d = record { law = record { right = right_type; deeper = same_refl type_of; nest = nest_type d }; some = some_type; here = λ held. some_type }

fits_annotation : (d : ℕ) → Fits d AfterAnnotation Annotation Annotation annotation annotation
unfolding annotation
fits_annotation d = fits_alt (mark t.Colon) (quiet_mark t.Colon refl) (stop_skips AfterAnnotation (mark t.Colon) (without_no (number_of t.Colon ∷ number_of t.Dot ∷ []) t.Colon refl) None)
    (λ _. fits_map (λ n. Some n) (fits_stop no_dot refl (fits_type d))) (fits_pure refl None)

-- ---- statements

module _ (inits : Bool) (d : ℕ) (E E' : Rule Expr) (e e' : Reader Expr) (A A' : Rule Arguments) (a a' : Reader Arguments) (S S' : Rule Stmt) (p p' : Reader Stmt)
    (fits_e : Fits d (Stop 6) E E' e e') (begins_e : Begins Fresh E') (fits_a : Fits d (Stop 0) A A' a a') (inner : Inner d S S' p p')
    (blocked : (k : Terminal) → (number_of k ≡ number_of t.SelfValue) ⊎ (number_of k ≡ number_of t.Super) → (u v w : Piece) (us : List Piece) →
    is_terminal k u ≡ true → is_terminal t.Dot v ≡ true → is_terminal t.Init w ≡ true → e (u ∷ (v ∷ (w ∷ us))) ≡ Err (Grammar (suc (length us)))) where
  the_block : Fits d Anything (BlockOf d S) (BlockOf (suc d) S') (block_of d p) (block_of (suc d) p')
  the_block = fits_block d S S' p p' inner

  fits_local : (i : Place × Introducer) → Fits d AfterStmt (LocalTail inits d E A S i) (LocalTail inits (suc d) E' A' S' i) (rest_of_local inits d e a p i) (rest_of_local inits (suc d) e' a' p' i)
  unfolding rest_of_local
  fits_local i = fits_name tt (λ n. fits_then tt
      (λ ty vs rest x r stop. mark_follows AfterAnnotation t.Equal (λ _. Then E (λ y. Empty (s.Local i.0 i.1 n ty y))) (λ u is. without_at (number_of t.Colon ∷ number_of t.Dot ∷ []) t.Equal u is refl) vs rest x r)
      (fits_annotation d) (λ ty. fits_mark t.Equal refl tt (λ _. fits_map (λ y. s.Local i.0 i.1 n ty y) (fits_end fits_e))))

  fits_discard : (q : Place) → Fits d AfterStmt (DiscardTail inits d E A S q) (DiscardTail inits (suc d) E' A' S' q) (rest_of_discard inits d e a p q) (rest_of_discard inits (suc d) e' a' p' q)
  unfolding rest_of_discard
  fits_discard q = fits_mark t.Equal refl tt (λ _. fits_map (λ y. s.Discard q y) (fits_end fits_e))

  -- an expression and a block
  fits_branch : Fits d Anything (Branch inits d E A S) (Branch inits (suc d) E' A' S') (branch inits d e a p) (branch inits (suc d) e' a' p')
  unfolding branch
  fits_branch = fits_then tt (λ y vs rest b r stop. braces_map_six d (BlockTail S) (λ b. (Some y, b)) vs rest b r) fits_e (λ y. fits_map (λ b. (Some y, b)) the_block)

  fits_behind : Fits d Anything (BehindElse inits d E A S) (BehindElse inits (suc d) E' A' S') (behind_else inits d e a p) (behind_else inits (suc d) e' a' p')
  unfolding behind_else
  fits_behind = fits_alt (mark t.If) (quiet_mark t.If refl) if_skips (λ _. fits_branch) (fits_map (λ b. (None, b)) the_block)
    where
      if_skips : (us rest : List Piece) (b : Option Expr × Block) → Then (BlockOf d S) (λ b. Empty (None, b)) us b → Unit {0} → Skips (mark t.If) (us ++ rest)
      if_skips us rest b r stop =
          let (c, m, is) = of_map (BlockOf d S) (λ b. (None, b)) us b r in
          let (u, vs, cut, brace) = braced d (BlockTail S) us c m in
          λ v q at takes.
          let same : u ≡ v = let both = sym (ap (λ (z : List Piece). first (z ++ rest)) cut) ∙ at in cc in
          let bad = sym brace ∙ ap code same ∙ mark_number t.If v q takes in absurd (omega (arith, bad))

  -- a further branch begins with `else`
  abbrev Else : Bool → Piece → Type 0
  Else true u = ⊥
  Else false u = code u ≡ number_of t.Else

  begins_else : (ended : Bool) → Begins (Else ended) (grammar.else_at inits (suc d) E' A' S' ended)
  begins_else true = begins_nothing (Else true)
  begins_else false = begins_led (Else false) (mark t.Else) (λ _. BehindElse inits (suc d) E' A' S') (λ u q takes. mark_number t.Else u q takes)

  law_else : (ended : Bool) → Law d Anything (grammar.else_at inits d E A S ended) (grammar.else_at inits (suc d) E' A' S' ended) (else_at inits d e a p ended) (else_at inits (suc d) e' a' p' ended)
  law_else true = law_nothing tt
  law_else false = (fits_mark t.Else refl tt (λ _. fits_behind)).law

  else_shut : (ended : Bool) (u : Piece) → AfterStmt (Some u) → Else ended u → ⊥
  else_shut true u after never = never
  else_shut false u after is = after.no_else is

  fits_if : (q : Place) → Fits d AfterStmt (IfTail inits d E A S q) (IfTail inits (suc d) E' A' S' q) (rest_of_if inits d e a p q) (rest_of_if inits (suc d) e' a' p' q)
  unfolding rest_of_if
  fits_if q = fits_next tt fits_branch (λ b. fits_map (λ bs. s.If q (b ∷ bs)) (fits_tries is_last_branch Else begins_else tt else_shut (λ x stop. tt) (λ ended b u h. tt) law_else false))

  fits_while : (q : Place) → Fits d AfterStmt (WhileTail inits d E A S q) (WhileTail inits (suc d) E' A' S' q) (rest_of_while inits d e a p q) (rest_of_while inits (suc d) e' a' p' q)
  unfolding rest_of_while
  fits_while q = fits_then tt (λ y vs rest x r stop. braces_map_six d (BlockTail S) (λ b. s.While q y b) vs rest x r) fits_e (λ y. fits_map (λ b. s.While q y b) (fits_any tt the_block))

  -- an expression on the line
  abbrev Here : Piece → Type 0
  Here u = Fresh u × (is_here u ≡ true)

  begins_value : Begins Here (On is_here E')
  begins_value us y (u, vs, cut, is, r) =
      let (v, ws, cut', h) = begins_e us y r in
      let same : u ≡ v = let both = sym cut ∙ cut' in cc in
      (v, ws, cut', (h, ap is_here (sym same) ∙ is))

  fits_return : (q : Place) → Fits d AfterStmt (ReturnTail inits d E A S q) (ReturnTail inits (suc d) E' A' S' q) (rest_of_return inits d e a p q) (rest_of_return inits (suc d) e' a' p' q)
  unfolding rest_of_return value_here
  fits_return q = fits_map (λ y. s.Return q y)
      (fits_attempt Here begins_value tt after_six (λ u after here. here_is u here.1 (after.no_value here.0.opens)) (law_ahead is_here Fresh begins_e fits_e.law))

  fits_switch : (q : Place) → Fits d AfterStmt (SwitchTail inits d E A S q) (SwitchTail inits (suc d) E' A' S' q) (rest_of_switch inits d e a p q) (rest_of_switch inits (suc d) e' a' p' q)
  unfolding rest_of_switch
  fits_switch q = fits_then tt (λ y vs rest x r stop. braces_map_six d (λ _. ClausesTail (less d) S) (λ cs. s.Switch q y cs) vs rest x r) fits_e
      (λ y. fits_map (λ cs. s.Switch q y cs) (fits_any tt (fits_clauses d S S' p p' inner)))

  -- ---- expressions and assignments

  no_operator : (y : Expr) (u : Piece) (o : AssignmentOperator) → AfterStmt (Some u) → assigns_to y u ≡ Some o → ⊥
  no_operator y u o after takes = after.no_operator (assigns_codes y u o takes)

  fits_assignment : (y : Expr) → Fits d AfterStmt (AssignmentTail inits d E A S y) (AssignmentTail inits (suc d) E' A' S' y) (rest_of_assignment inits d e a p y) (rest_of_assignment inits (suc d) e' a' p' y)
  unfolding rest_of_assignment
  fits_assignment y = fits_alt (assigns_to y) (assigns_quiet y) (stop_skips AfterStmt (assigns_to y) (no_operator y) (s.Expr y)) (λ o. fits_map (λ z. s.Assign y o z) (fits_end fits_e)) (fits_pure tt (s.Expr y))

  assignment_six : (y : Expr) (vs rest : List Piece) (x : Stmt) → AssignmentTail inits d E A S y vs x → AfterStmt (first rest) → Stop 6 (first (vs ++ rest))
  assignment_six y vs rest x (inl (u, o, ws, cut, takes, r)) stop = subst (λ (z : List Piece). Stop 6 (first (z ++ rest))) (sym cut) (operator_six y u o takes)
  assignment_six y vs rest x (inr (none, is)) stop = subst (λ (z : List Piece). Stop 6 (first (z ++ rest))) (sym none) (after_six (first rest) stop)

  fits_action : Fits d AfterStmt (Action inits d E A S) (Action inits (suc d) E' A' S') (action inits d e a p) (action inits (suc d) e' a' p')
  unfolding action
  fits_action = fits_then tt assignment_six fits_e fits_assignment

  begins_action : Begins Fresh (Action inits (suc d) E' A' S')
  begins_action = begins_then Fresh E' (AssignmentTail inits (suc d) E' A' S') begins_e

  blocked_action : (k : Terminal) → (number_of k ≡ number_of t.SelfValue) ⊎ (number_of k ≡ number_of t.Super) → (u v w : Piece) (us : List Piece) →
      is_terminal k u ≡ true → is_terminal t.Dot v ≡ true → is_terminal t.Init w ≡ true → action inits d e a p (u ∷ (v ∷ (w ∷ us))) ≡ Err (Grammar (suc (length us)))
  unfolding action
  blocked_action k own u v w us is is' is'' = ap (λ o. and_then o (rest_of_assignment inits d e a p)) (blocked k own u v w us is is' is'')

  -- ---- the statements of initialisers

  zero_six : (x : Option Piece) → AfterStmt x → Stop 0 x
  zero_six x stop = omega (arith, after_six x stop)

  module _ (k : Terminal) (quiet : is_quiet (number_of k) ≡ true) (f : Place → Arguments → Stmt) (fresh : (u : Piece) (q : Place) → mark k u ≡ Some q → Fresh u) (R R' : Rule Stmt) (r r' : Reader Stmt)
      (other : Fits d AfterStmt R R' r r') (begins : Begins Fresh R')
      (stuck : (u v w : Piece) (us : List Piece) → is_terminal k u ≡ true → is_terminal t.Dot v ≡ true → is_terminal t.Init w ≡ true → r (u ∷ (v ∷ (w ∷ us))) ≡ Err (Grammar (suc (length us)))) where
    abbrev Init : Rule Arguments → Rule Stmt
    Init B = TokenThen (mark k) (λ q. TokenThen (mark t.Dot) (λ _. TokenThen (mark t.Init) (λ _. Then B (λ as'. Empty (f q as')))))

    abbrev init_by : Reader Arguments → Reader Stmt
    init_by b = one (mark k) >>= (λ q. one (mark t.Dot) >>= (λ _. one (mark t.Init) >>= (λ _. b >>= (λ as'. pure (f q as')))))

    fits_made : (q : Place) → Fits d AfterStmt (Then A (λ as'. Empty (f q as'))) (Then A' (λ as'. Empty (f q as'))) (a >>= (λ as'. pure (f q as'))) (a' >>= (λ as'. pure (f q as')))
    fits_made q = fits_map (f q) (fits_stop zero_six tt fits_a)

    fits_init : Fits d AfterStmt (Init A) (Init A') (init_by a) (init_by a')
    fits_init = fits_mark k quiet tt (λ q. fits_mark t.Dot refl tt (λ _. fits_mark t.Init refl tt (λ _. fits_made q)))

    triple : (us : List Piece) (x : Stmt) → Init A us x →
        (u : Piece) × (v : Piece) × (w : Piece) × (ws : List Piece) × (us ≡ u ∷ (v ∷ (w ∷ ws))) × (is_terminal k u ≡ true) × (is_terminal t.Dot v ≡ true) × (is_terminal t.Init w ≡ true)
    triple us x (u, q, vs, cut, takes, (v, q', vs', cut', takes', (w, q'', ws, cut'', takes'', m))) = (
      u,
      v,
      w,
      ws,
      cut ∙ ap (λ (z : List Piece). u ∷ z) (cut' ∙ ap (λ (z : List Piece). v ∷ z) cut''),
      mark_is k u q takes,
      mark_is t.Dot v q' takes',
      mark_is t.Init w q'' takes'',
    )

    fits_three : Fits d AfterStmt (Or (Init A) R) (Or (Init A') R') (three (is_terminal k) (is_terminal t.Dot) (is_terminal t.Init) (init_by a) r) (three (is_terminal k) (is_terminal t.Dot) (is_terminal t.Init) (init_by a') r')
    fits_three = record {
      law = record {
        right = λ n. right_three n AfterStmt (is_terminal k) (is_terminal t.Dot) (is_terminal t.Init) (Init A) (Init A') R R' (init_by a) r (fits_init.law.right n) other.law.right triple stuck
            (λ u v w us m is is' is'' bad. far_refused AfterStmt (λ q. Then A (λ as'. Empty (f q as'))) (λ q. Then A' (λ as'. Empty (f q as'))) (mark k) (mark t.Dot) (mark t.Init) (λ q. a >>= (λ as'. pure (f q as'))) (λ q n. (fits_made q).law.right n)
            u v w u.place v.place w.place (mark_of k u is) (mark_of t.Dot v is') (mark_of t.Init w is'') us m bad)
            (λ u v w us m is is' is'' bad. far_deep AfterStmt (λ q. Then A (λ as'. Empty (f q as'))) (λ q. Then A' (λ as'. Empty (f q as'))) (mark k) (mark t.Dot) (mark t.Init) (λ q. a >>= (λ as'. pure (f q as'))) (λ q n. (fits_made q).law.right n)
            u v w u.place v.place w.place (mark_of k u is) (mark_of t.Dot v is') (mark_of t.Init w is'') us m bad);
        deeper = deeper_choose (starts_three (is_terminal k) (is_terminal t.Dot) (is_terminal t.Init)) (init_by a) (init_by a') r r' fits_init.law.deeper other.law.deeper;
        nest = λ n. nest_choose (May d) opens_nesting n (starts_three (is_terminal k) (is_terminal t.Dot) (is_terminal t.Init)) (Init A) R (init_by a) r (fits_init.law.nest n) (other.law.nest n);
      };
      some = let (us, x, m) = other.some in (us, x, inr m);
      here = λ held. let (us, x, m) = other.here held in (us, x, inr m);
    }

    begins_three : Begins Fresh (Or (Init A') R')
    begins_three = begins_or Fresh (Init A') R' (begins_led Fresh (mark k) (λ q. TokenThen (mark t.Dot) (λ _. TokenThen (mark t.Init) (λ _. Then A' (λ as'. Empty (f q as'))))) fresh) begins

  fresh_self : (u : Piece) (q : Place) → mark t.SelfValue u ≡ Some q → Fresh u
  fresh_self = fresh_mark t.SelfValue refl (λ same. cc)

  fresh_super : (u : Piece) (q : Place) → mark t.Super u ≡ Some q → Fresh u
  fresh_super = fresh_mark t.Super refl (λ same. cc)

  blocked_super : (u v w : Piece) (us : List Piece) → is_terminal t.Super u ≡ true → is_terminal t.Dot v ≡ true → is_terminal t.Init w ≡ true → action inits d e a p (u ∷ (v ∷ (w ∷ us))) ≡ Err (Grammar (suc (length us)))
  blocked_super = blocked_action t.Super (inr refl)

  abbrev SuperOr : ℕ → Rule Expr → Rule Arguments → Rule Stmt → Rule Stmt
  SuperOr f D B T = Or (TokenThen (mark t.Super) (λ q. InitTail inits f D B T (s.SuperInit q))) (Action inits f D B T)

  abbrev super_or : ℕ → Reader Expr → Reader Arguments → Reader Stmt → Reader Stmt
  super_or f g b q = three (is_terminal t.Super) (is_terminal t.Dot) (is_terminal t.Init) (super_init inits f g b q) (action inits f g b q)

  fits_super : Fits d AfterStmt (SuperOr d E A S) (SuperOr (suc d) E' A' S') (super_or d e a p) (super_or (suc d) e' a' p')
  unfolding super_init
  fits_super = fits_three t.Super refl s.SuperInit fresh_super _ _ _ _ fits_action begins_action blocked_super

  begins_super : Begins Fresh (SuperOr (suc d) E' A' S')
  begins_super = begins_three t.Super refl s.SuperInit fresh_super _ _ _ _ fits_action begins_action blocked_super

  blocked_self : (u v w : Piece) (us : List Piece) → is_terminal t.SelfValue u ≡ true → is_terminal t.Dot v ≡ true → is_terminal t.Init w ≡ true → super_or d e a p (u ∷ (v ∷ (w ∷ us))) ≡ Err (Grammar (suc (length us)))
  blocked_self u v w us is is' is'' =
      three_other (is_terminal t.Super) (is_terminal t.Dot) (is_terminal t.Init) (super_init inits d e a p) (action inits d e a p) u (v ∷ (w ∷ us)) (other (is_terminal t.Super u) refl)
      ∙ blocked_action t.SelfValue (inl refl) u v w us is is' is''
    where
      other : (b : Bool) → is_terminal t.Super u ≡ b → b ≡ false
      other true both = let bad = sym (is_number t.SelfValue u is) ∙ is_number t.Super u both in absurd (omega (arith, bad))
      other false both = refl

  tail_action : (own : Bool) → Tail d AfterStmt Fresh [] (ActionOf inits d E A S own) (ActionOf inits (suc d) E' A' S' own) (action_of inits d e a p own) (action_of inits (suc d) e' a' p' own)
  unfolding self_init
  tail_action false = record { fits = fits_action; begins = begins_as Fresh (Leads Fresh []) (Action inits (suc d) E' A' S') (λ u h. inr h) begins_action }
  tail_action true = record {
    fits = fits_three t.SelfValue refl s.SelfInit fresh_self _ _ _ _ fits_super begins_super blocked_self;
    begins = begins_as Fresh (Leads Fresh []) _ (λ u h. inr h) (begins_three t.SelfValue refl s.SelfInit fresh_self _ _ _ _ fits_super begins_super blocked_self);
  }

  -- ---- all statements

  pub tail_stmt : Tail d AfterStmt Fresh leading (StmtOf inits d E A S) (StmtOf inits (suc d) E' A' S') (stmt_of inits d e a p) (stmt_of inits (suc d) e' a' p')
  unfolding stmt_of leaving
  tail_stmt =
      tail_alt introduces introducing introduces_codes introduces_quiet refl (fresh_apart introducing refl) fits_local
      (tail_mark t.Underscore refl refl refl fits_discard
      (tail_mark t.If refl refl refl fits_if
      (tail_mark t.While refl refl refl fits_while
      (tail_mark t.Return refl refl refl fits_return
      (tail_mark t.Break refl refl refl (λ q. fits_pure tt (s.Break q))
      (tail_mark t.Continue refl refl refl (λ q. fits_pure tt (s.Continue q))
      (tail_mark t.Switch refl refl refl fits_switch (tail_action inits))))))))
