-- Statements are written.
use Rattle.std.proofs.Common.{◌≡◌, ℕ, zero, suc, List, [], ◌∷◌, ◌++◌, Bool, true, false, codes, Option, Some, None, refl, sym, ◌∙◌, ap, ap₂, subst, append_assoc, append-nil}
use Rattle.std.specs.Prelude.{◌||◌, ◌==◌, not, cond}
use Rattle.std.specs.List.{flat_map}
use Rattle.std.specs.Option.{option_map}
use Rattle.std.proofs.lemmas.Bool.{or_right}
use Rattle.evo_base.specs.declared.place.Place.{Place}
use Rattle.evo_base.specs.declared.token.TokenKind.TheVariants as kind
use Rattle.evo_combinators.specs.Rule.{Empty, Fail, TokenThen, Then}
use Rattle.evo_combinators.specs.Guard.{On, Run}
use Rattle.evo_round_trip.proofs.Alike.{AllLike}
use Rattle.evo_tree.specs.declared.name.Identifier.{Identifier}
use Rattle.evo_tree.specs.declared.name.TypeName.{TypeName}
use Rattle.evo_tree.specs.declared.expression.Expr.{Expr, Expr-F, out-Expr, map-Expr, out-roll-Expr}
use Rattle.evo_tree.specs.declared.expression.Expr.TheOpen as f
use Rattle.evo_tree.specs.declared.statement.Introducer.{Introducer}
use Rattle.evo_tree.specs.declared.statement.Introducer.TheVariants as introducer
use Rattle.evo_tree.specs.declared.statement.AssignmentOperator.{AssignmentOperator}
use Rattle.evo_tree.specs.declared.statement.AssignmentOperator.TheVariants as assignment
use Rattle.evo_tree.specs.declared.statement.Block.{Block}
use Rattle.evo_tree.specs.declared.statement.Clause.{Clause}
use Rattle.evo_tree.specs.declared.statement.Stmt.{Stmt}
use Rattle.evo_tree.specs.declared.statement.Stmt.TheVariants as s
use Rattle.evo_tree.specs.declared.terminal.Role.TheVariants as role
use Rattle.evo_tree.specs.declared.terminal.Terminal.{Terminal}
use Rattle.evo_tree.specs.declared.terminal.Terminal.TheVariants as t
use Rattle.evo_tree.specs.Terminals.{terminal_of}
use Rattle.evo_tree.specs.Pieces.{Piece, mark, is_terminal, has_role, role_number, placed}
use Rattle.evo_tree.specs.Expressions.{Rule, IsExpr, Unary}
use Rattle.evo_tree.specs.Statements.{introduced, introduces, assigning, assigns, is_here, is_positive_level, is_target_level, is_target, assigns_to, has_none, is_last_branch, Annotation, LocalTail, DiscardTail, BehindElse, else_at, IfTail, WhileTail, Value, ReturnTail, SwitchTail, InitTail, Action, ActionOf, StmtOf, IsCall, IsStmt, BlockOf, IsBlock}
use Rattle.evo_tree.specs.Bare.{clear_expr, bare_type, bare_expr, bare_branch}
use Rattle.evo_tree.specs.Canonical.{Text, introducer_text, assignment_text, optional, typed, expr_text, call_arguments, block_text}
use Rattle.evo_print.specs.Texts.{words_of, branch}
use Rattle.evo_round_trip.proofs.Written.{Written, IsToken}
use Rattle.evo_round_trip.proofs.Printed.{any, is_apart, is_flush, is_free, leads_free}
use Rattle.evo_round_trip.proofs.Prints.{Prints, Writes, Alone, Taken, print_only, print_nothing, print_or, print_led, print_then, print_after, print_run, print_behind, print_on, print_firm, print_more, print_by}
use Rattle.evo_round_trip.proofs.Tokens.{spelled_is, spelled_is_token, has_spelling}
use Rattle.evo_round_trip.proofs.Spellings.{sign, named}
use Rattle.evo_round_trip.proofs.TokensOfTerminals.{spelling, kind_for}
use Rattle.evo_round_trip.proofs.TakenTokens.{like_of, taken_mark, taken_name, SameName}
use Rattle.evo_round_trip.proofs.Heads.{is_head, is_calm, is_start, head_flush, apart_free, leads_apart, leads_dot, leads_infix, Begun, any_head}
use Rattle.evo_round_trip.proofs.ExpressionTrees.{SameExpr, like_map, bare_is}
use Rattle.evo_round_trip.proofs.PrintedExpressions.{Expressed, expressed_behind}
use Rattle.evo_round_trip.proofs.PrintedOperands.{Arg, SameArguments, expressed, call_prints, nothing_expressed}
use Rattle.evo_round_trip.proofs.PrintedTypes.{type_behind}
use Rattle.evo_round_trip.proofs.StatementTrees.{SameStmt, SameBlock, SameBranch, local_words, discard_words, assign_words, expr_words, self_init_words, super_init_words, if_words, while_words, return_words, break_words, continue_words, switch_words, local_same, discard_same, assign_same, expr_same, self_init_same, super_init_same, if_same, while_same, return_same, break_same, continue_same, switch_same, branch_same}
use Rattle.evo_round_trip.proofs.PrintedBlocks.{Stated, block_prints}
use Rattle.evo_round_trip.proofs.PrintedClauses.{braces_text, braces_is, clauses_print}

-- ---- the tests of statements

abbrev introducer_terminal : Introducer → Terminal
introducer_terminal introducer.Let = t.Let
introducer_terminal introducer.Var = t.Var

abbrev SameIntroducer : Place × Introducer → Place × Introducer → Type 0
SameIntroducer a b = a.1 ≡ b.1

introducer_only : (k : Terminal) (i : Introducer) → introduced k ≡ Some i → k ≡ introducer_terminal i
introducer_only t.Let i e = let is : introducer.Let ≡ i = cc in ap introducer_terminal is
introducer_only t.Var i e = let is : introducer.Var ≡ i = cc in ap introducer_terminal is
introducer_only k i e = absurd (cc)

introducer_again : (i : Introducer) → introduced (introducer_terminal i) ≡ Some i
introducer_again introducer.Let = refl
introducer_again introducer.Var = refl

introducer_token : (i : Introducer) → IsToken (sign [] (introducer_terminal i)) × (terminal_of (kind_for (introducer_terminal i)) (spelling (introducer_terminal i)) ≡ introducer_terminal i)
introducer_token introducer.Let = (spelled_is_token t.Let refl [] refl role.Unattached, spelled_is t.Let refl)
introducer_token introducer.Var = (spelled_is_token t.Var refl [] refl role.Unattached, spelled_is t.Var refl)

introducer_is : (i : Introducer) → introducer_text i ≡ spelling (introducer_terminal i) ++ codes " "
introducer_is introducer.Let = refl
introducer_is introducer.Var = refl

placed_is : {C : Type 0} (p : Place) (o : Option C) (c : Place × C) → placed p o ≡ Some c → o ≡ Some c.1
placed_is p None c e = absurd (cc)
placed_is {C} p (Some o) c e = let is : ◌≡◌ {A = Place × C} (p, o) c = cc in ap (λ (x : Place × C). Some x.1) is

taken_introduces : {A : Type 0} {firm : Bool} {g : Piece → Bool} {p : Written → Bool} {Near : A → Type 0} → ((u : Piece) (i : Introducer) → g u ≡ true → u.terminal ≡ introducer_terminal i → p (sign [] (introducer_terminal i)) ≡ true) →
    Taken firm g p (λ (c : Place × Introducer). sign [] (introducer_terminal c.1)) Near SameIntroducer introduces (λ a. introduces)
unfolding introduces
taken_introduces {firm} begun = record {
  holds = λ u c gen passes takes. (
    (introducer_token c.1).0,
    begun u c.1 passes (introducer_only u.terminal c.1 (placed_is u.place (introduced u.terminal) c takes)),
    λ a near m f.
        let like = like_of firm m (sign [] (introducer_terminal c.1)) f in
        ((m.place, c.1), ap (placed m.place) (ap introduced (like.terminal ∙ (introducer_token c.1).1) ∙ introducer_again c.1), refl),
  );
}

abbrev assignment_terminal : AssignmentOperator → Terminal
assignment_terminal assignment.Assign = t.Equal
assignment_terminal assignment.Add = t.PlusEqual
assignment_terminal assignment.Subtract = t.MinusEqual
assignment_terminal assignment.Multiply = t.StarEqual
assignment_terminal assignment.Divide = t.SlashEqual
assignment_terminal assignment.Remainder = t.PercentEqual

-- an operator that assigns, with a blank before it
abbrev assigned : AssignmentOperator → Written
assigned o = record { gap = codes " "; kind = kind.Operator; text = assignment_text o; role = role.Infix }

assigned_both : (o : AssignmentOperator) → IsToken (assigned o) × (terminal_of kind.Operator (assignment_text o) ≡ assignment_terminal o)
assigned_both assignment.Assign = (spelled_is_token t.Equal refl (codes " ") refl role.Infix, spelled_is t.Equal refl)
assigned_both assignment.Add = (spelled_is_token t.PlusEqual refl (codes " ") refl role.Infix, spelled_is t.PlusEqual refl)
assigned_both assignment.Subtract = (spelled_is_token t.MinusEqual refl (codes " ") refl role.Infix, spelled_is t.MinusEqual refl)
assigned_both assignment.Multiply = (spelled_is_token t.StarEqual refl (codes " ") refl role.Infix, spelled_is t.StarEqual refl)
assigned_both assignment.Divide = (spelled_is_token t.SlashEqual refl (codes " ") refl role.Infix, spelled_is t.SlashEqual refl)
assigned_both assignment.Remainder = (spelled_is_token t.PercentEqual refl (codes " ") refl role.Infix, spelled_is t.PercentEqual refl)

assigning_again : (o : AssignmentOperator) → assigning (assignment_terminal o) ≡ Some o
assigning_again assignment.Assign = refl
assigning_again assignment.Add = refl
assigning_again assignment.Subtract = refl
assigning_again assignment.Multiply = refl
assigning_again assignment.Divide = refl
assigning_again assignment.Remainder = refl

abbrev SameAssignment : AssignmentOperator → AssignmentOperator → Type 0
SameAssignment a b = a ≡ b

positive_kept : (x : Expr-F Expr) → is_positive_level (clear_expr (map-Expr Expr Expr bare_expr x)) ≡ is_positive_level x
positive_kept (f.Integer p n) = refl
positive_kept (f.Negative p n) = refl
positive_kept (f.String p n) = refl
positive_kept (f.Boolean p n) = refl
positive_kept (f.Name i None) = refl
positive_kept (f.Name i (Some xs)) = refl
positive_kept (f.SelfValue p) = refl
positive_kept (f.SelfType p) = refl
positive_kept (f.Super p i xs) = refl
positive_kept (f.ImplicitMember p i None) = refl
positive_kept (f.ImplicitMember p i (Some xs)) = refl
positive_kept (f.Parenthesised p x) = refl
positive_kept (f.Prefix p o x) = refl
positive_kept (f.Members x ms) = refl
positive_kept (f.Chain x os) = refl

out_bare : (x : Expr) → out-Expr (bare_expr x) ≡ clear_expr (map-Expr Expr Expr bare_expr (out-Expr x))
out_bare x = ap out-Expr (bare_is x (out-Expr x) refl) ∙ out-roll-Expr (clear_expr (map-Expr Expr Expr bare_expr (out-Expr x)))

target_kept : (x : Expr-F Expr) → is_target_level (clear_expr (map-Expr Expr Expr bare_expr x)) ≡ is_target_level x
target_kept (f.Integer p n) = refl
target_kept (f.Negative p n) = refl
target_kept (f.String p n) = refl
target_kept (f.Boolean p n) = refl
target_kept (f.Name i None) = refl
target_kept (f.Name i (Some xs)) = refl
target_kept (f.SelfValue p) = refl
target_kept (f.SelfType p) = refl
target_kept (f.Super p i xs) = refl
target_kept (f.ImplicitMember p i None) = refl
target_kept (f.ImplicitMember p i (Some xs)) = refl
target_kept (f.Parenthesised p x) = refl
target_kept (f.Prefix p o x) = refl
target_kept (f.Members x ms) = ap is_positive_level (out_bare x) ∙ positive_kept (out-Expr x)
target_kept (f.Chain x os) = refl

same_target : (x y : Expr) → SameExpr x y → is_target x ≡ is_target y
unfolding is_target
same_target x y same = sym (ap is_target_level (out_bare x) ∙ target_kept (out-Expr x)) ∙ ap (λ z. is_target_level (out-Expr z)) same ∙ (ap is_target_level (out_bare y) ∙ target_kept (out-Expr y))

taken_assigns : {A : Type 0} {Near : A → Type 0} (y : Expr) (y' : A → Expr) → ((a : A) → Near a → SameExpr y (y' a)) →
    Taken true any is_apart assigned Near SameAssignment (assigns_to y) (λ a. assigns_to (y' a))
unfolding assigns_to assigns
taken_assigns y y' like = record {
  holds = λ u o gen passes takes. (
    (assigned_both o).0,
    refl,
    λ a near m f.
        let held : is_target (y' a) ≡ true = sym (same_target y (y' a) (like a near)) ∙ target (is_target y) refl u o takes in
        let between : has_role role.Infix m ≡ true = ap (λ r. role_number r == 0) f.0.role in
        let again : assigning m.terminal ≡ Some o = ap assigning (f.0.terminal ∙ (assigned_both o).1) ∙ assigning_again o in
        (o, ap (λ b. cond b (cond (is_terminal t.Equal m || has_role role.Infix m) (assigning m.terminal) None) None) held ∙ ap (λ b. cond b (assigning m.terminal) None) (or_right (is_terminal t.Equal m) _ between) ∙ again, refl),
  );
}
  where
    target : (b : Bool) → is_target y ≡ b → (u : Piece) (o : AssignmentOperator) → cond (is_target y) (cond (is_terminal t.Equal u || has_role role.Infix u) (assigning u.terminal) None) None ≡ Some o → is_target y ≡ true
    target true is u o takes = is
    target false is u o takes = absurd (no u o (subst (λ z. cond z (cond (is_terminal t.Equal u || has_role role.Infix u) (assigning u.terminal) None) None ≡ Some o) is takes))
      where
        no : (u : Piece) (o : AssignmentOperator) → None ≡ Some o → ⊥
        no u o e = absurd (cc)

-- ---- statements without blocks

abbrev SameAnnotation : Option TypeName → Option TypeName → Type 0
SameAnnotation a b = option_map bare_type a ≡ option_map bare_type b

annotation_prints : Writes true true is_free (optional typed) SameAnnotation Annotation Annotation
annotation_prints = print_or
    (print_led {e' = false} {q = is_apart} (taken_mark t.Colon [] refl refl (λ u g i. refl)) (λ c ws b. leads_apart _ (sign [] t.Colon) ws refl b)
    (λ c. print_then {q = is_free} {e' = true} (print_firm type_behind) (λ w i. i) (λ w i. i) (λ n. print_only {p = is_free} (simp (append_assoc, append-nil)) (λ a near. ap (λ v. Some v) near.1))))
    (print_only refl (λ a near. refl))

module _ (inits : Bool) (d : ℕ) (E : Rule Expr) (A : Rule (List Arg)) (S : Rule Stmt) (law : Expressed E) (call : Writes true false is_free call_arguments SameArguments A A) (inner : Stated S) (n : ℕ) where
  valued : Writes true false is_apart (λ y. codes " " ++ expr_text y) SameExpr E E
  valued = print_firm (expressed_behind E law)

  blocked : Writes true false is_apart (λ b. codes " " ++ block_text b n) SameBlock (BlockOf d S) (BlockOf d S)
  blocked = print_firm (print_behind (codes " ") refl refl (block_prints d S inner n))

  module _ (g : Piece → Bool) (p : Written → Bool) (begun : Begun g p) where
    abbrev Said : Rule Stmt → Type 0
    Said R = Prints {A = Unit {0}} false g false p (λ z. z) (λ x. words_of x n) Alone SameStmt R (λ a. R)

    starts_as : (k : Terminal) → has_spelling k ≡ true → is_start (kind_for k) ≡ true → (u : Piece) → g u ≡ true → u.terminal ≡ k → p (sign [] k) ≡ true
    starts_as k has start u passes is = begun.first u (sign [] k) passes (is ∙ sym (spelled_is k has)) (λ name. absurd (no_spelling (subst (λ z. has_spelling z ≡ true) (sym is ∙ name) has))) refl start
      where
        no_spelling : has_spelling t.Identifier ≡ true → ⊥
        no_spelling h = cc

    local_leaf : (c : Place × Introducer) (i : Identifier) (ty : Option TypeName) (y : Expr) →
        spelling (introducer_terminal c.1) ++ (codes " " ++ (i.text ++ (optional typed ty ++ (codes " =" ++ ((codes " " ++ expr_text y) ++ []))))) ≡ words_of (s.Local c.0 c.1 i ty y) n
    local_leaf c i ty y =
        sym (append_assoc (spelling (introducer_terminal c.1)) (codes " ") (i.text ++ (optional typed ty ++ (codes " =" ++ ((codes " " ++ expr_text y) ++ [])))))
        ∙ ap (λ z. z ++ (i.text ++ (optional typed ty ++ (codes " =" ++ ((codes " " ++ expr_text y) ++ []))))) (sym (introducer_is c.1))
        ∙ simp (append_assoc, append-nil) (sym (simp append_assoc at local_words c.0 c.1 i ty y n))

    local_like : (c c' : Place × Introducer) (i i' : Identifier) (ty ty' : Option TypeName) (y y' : Expr) → SameIntroducer c c' → SameName i i' → SameAnnotation ty ty' → SameExpr y y' → SameStmt (s.Local c.0 c.1 i ty y) (s.Local c'.0 c'.1 i' ty' y')
    local_like c c' i i' ty ty' y y' kinds names types values =
        subst (λ k. SameStmt (s.Local c.0 c.1 i ty y) (s.Local c'.0 k i' ty' y')) kinds (local_same c.0 c'.0 c.1 i i' ty ty' y y' names types values)

    local_prints : Said (TokenThen introduces (LocalTail inits d E A S))
    local_prints = print_led {e' = false} {q = is_apart} (taken_introduces (λ u i passes is. introducer_start i u passes is)) (λ c ws b. leads_apart _ (sign [] (introducer_terminal c.1)) ws refl b)
        (λ c. print_led {e' = false} {q = is_free} (taken_name (codes " ") refl (λ u w g i same. refl)) (λ i ws b. leads_free _ (named (codes " ") i.text) ws refl b)
        (λ i. print_after {q = is_free} annotation_prints (λ w i. i) (λ w i. i) (λ w i. i)
        (λ ty. print_led {e' = false} {q = is_apart} (taken_mark t.Equal (codes " ") refl refl (λ u g i. refl)) (λ c' ws b. leads_apart _ (sign (codes " ") t.Equal) ws refl b)
        (λ c'. print_then {q = is_free} {e' = true} valued (λ w i. i) (λ w i. i)
        (λ y. print_only {p = is_free} (local_leaf c i ty y) (λ a near. local_like c a.0.0.0.0.1 i a.0.0.0.1 ty a.0.0.1 y a.1 near.0.0.0.0.1 near.0.0.0.1 near.0.0.1 near.1))))))
      where
        introducer_start : (i : Introducer) (u : Piece) → g u ≡ true → u.terminal ≡ introducer_terminal i → p (sign [] (introducer_terminal i)) ≡ true
        introducer_start introducer.Let u passes is = starts_as t.Let refl refl u passes is
        introducer_start introducer.Var u passes is = starts_as t.Var refl refl u passes is

    discard_prints : Said (TokenThen (mark t.Underscore) (DiscardTail inits d E A S))
    discard_prints = print_led {e' = false} {q = is_apart} (taken_mark t.Underscore [] refl refl (starts_as t.Underscore refl refl)) (λ c ws b. leads_apart _ (sign [] t.Underscore) ws refl b)
        (λ c. print_led {e' = false} {q = is_apart} (taken_mark t.Equal (codes " ") refl refl (λ u g i. refl)) (λ c' ws b. leads_apart _ (sign (codes " ") t.Equal) ws refl b)
        (λ c'. print_then {q = is_free} {e' = true} valued (λ w i. i) (λ w i. i)
        (λ y. print_only {p = is_free} (simp append-nil (sym (discard_words c y n))) (λ a near. discard_same c a.0.0.1 y a.1 near.1))))

    word_prints : (k : Terminal) → has_spelling k ≡ true → is_start (kind_for k) ≡ true → (x : Place → Stmt) → ((c : Place) → spelling k ++ [] ≡ words_of (x c) n) → ((c c' : Place) → SameStmt (x c) (x c')) → Said (TokenThen (mark k) (λ c. Empty (x c)))
    word_prints k has start x written same = print_led {e' = true} {q = is_free} (taken_mark k [] has refl (starts_as k has start)) (λ c ws b. leads_free _ (sign [] k) ws refl b) (λ c. print_only (written c) (λ a near. same c a.1))

    value_prints : Writes true true is_apart (optional (λ y. codes " " ++ expr_text y)) (λ x y. option_map bare_expr x ≡ option_map bare_expr y) (Value inits d E A S) (Value inits d E A S)
    unfolding is_here
    value_prints = print_or
        (print_then {q = is_free} {e' = true} (print_by (λ us b s. s) (λ a us b s. s) here) (λ w i. i) (λ w i. i) (λ y. print_only {p = is_free} (append-nil (codes " " ++ expr_text y)) (λ a near. ap (λ v. Some v) near.1)))
        (print_only refl (λ a near. refl))
      where
        here : Prints {A = Unit {0}} true any false is_apart (λ z. z) (λ y. codes " " ++ expr_text y) Alone SameExpr (On is_here E) (λ a. On is_here E)
        here = print_on (codes " ") refl refl (λ m is. ap not is) (print_by (λ us b s. s.4) (λ a us b s. s) (print_more (λ h. h) head_flush (law any is_head any_head)))

    return_prints : Said (TokenThen (mark t.Return) (ReturnTail inits d E A S))
    return_prints = print_led {e' = true} {q = is_apart} (taken_mark t.Return [] refl refl (starts_as t.Return refl refl)) (λ c ws b. leads_apart _ (sign [] t.Return) ws refl b)
        (λ c. print_after {q = is_apart} value_prints (λ w i. i) apart_free (λ w i. i)
        (λ y. print_only (ap (λ z. codes "return" ++ z) (append-nil (optional (λ y. codes " " ++ expr_text y) y)) ∙ sym (return_words c y n)) (λ a near. return_same c a.0.1 y a.1 near.1)))

    while_prints : Said (TokenThen (mark t.While) (WhileTail inits d E A S))
    while_prints = print_led {e' = false} {q = is_apart} (taken_mark t.While [] refl refl (starts_as t.While refl refl)) (λ c ws b. leads_apart _ (sign [] t.While) ws refl b)
        (λ c. print_then {q = is_apart} {e' = false} valued (λ w i. i) apart_free
        (λ y. print_then {q = is_free} {e' = true} blocked (λ w i. i) (λ w i. i)
        (λ b. print_only {p = is_free} (simp (append_assoc, append-nil) (sym (simp append_assoc at while_words c y b n))) (λ a near. while_same c a.0.0.1 y a.0.1 b a.1 near.0.1 near.1))))

    assign_leaf : (y : Expr) (o : AssignmentOperator) (z : Expr) → expr_text y ++ (codes " " ++ (assignment_text o ++ ((codes " " ++ expr_text z) ++ []))) ≡ words_of (s.Assign y o z) n
    assign_leaf y o z = simp (append_assoc, append-nil) (sym (simp append_assoc at assign_words y o z n))

    assign_like : (x v : Expr) (o r : AssignmentOperator) (y w : Expr) → SameExpr x v → o ≡ r → SameExpr y w → SameStmt (s.Assign x o y) (s.Assign v r w)
    assign_like x v o r y w a is b = subst (λ z. SameStmt (s.Assign x o y) (s.Assign v z w)) is (assign_same x v o y w a b)

    action_prints : Said (Action inits d E A S)
    action_prints = print_then {q = is_apart} {e' = true} (law g p begun) (λ w i. i) apart_free
        (λ y. print_or
        (print_led {e' = false} {q = is_apart} (taken_assigns y (λ a. a.1) (λ a near. near.1)) (λ o ws b. leads_infix (assigned o) ws refl b)
        (λ o. print_then {q = is_free} {e' = true} valued (λ w i. i) (λ w i. i)
        (λ z. print_only {p = is_free} (assign_leaf y o z) (λ a near. assign_like y a.0.0.1 o a.0.1 z a.1 near.0.0.1 near.0.1 near.1))))
        (print_only (append-nil (expr_text y) ∙ sym (expr_words y n)) (λ a near. expr_same y a.1 near.1)))

    init_prints : (k : Terminal) → has_spelling k ≡ true → is_start (kind_for k) ≡ true → (x : Place → List Arg → Stmt) → ((c : Place) (xs : List Arg) → spelling k ++ (codes ".init" ++ (call_arguments xs ++ [])) ≡ words_of (x c xs) n) →
        ((c c' : Place) (xs ys : List Arg) → SameArguments xs ys → SameStmt (x c xs) (x c' ys)) → Said (TokenThen (mark k) (λ c. InitTail inits d E A S (x c)))
    init_prints k has start x written same = print_led {e' = false} {q = is_free} (taken_mark k [] has refl (starts_as k has start)) (λ c ws b. leads_free _ (sign [] k) ws refl b)
        (λ c. print_led {e' = false} {q = is_calm} (taken_mark t.Dot [] refl refl (λ u g i. refl)) (λ c' ws b. leads_dot _ ws b)
        (λ c'. print_led {e' = false} {q = is_free} (taken_mark t.Init [] refl refl (λ u g i. refl)) (λ c'' ws b. leads_free _ (sign [] t.Init) ws refl b)
        (λ c''. print_then {q = is_free} {e' = true} call (λ w i. i) (λ w i. i) (λ xs. print_only {p = is_free} (written c xs) (λ a near. same c a.0.0.0.1 xs a.1 near.1)))))

    -- ---- branches

    abbrev Part : Type 0
    Part = Option Expr × Block

    branch_like : (y z : Expr) (b c : Block) → SameExpr y z → SameBlock b c → SameBranch (Some y, b) (Some z, c)
    branch_like y z b c e f = branch_same (Some y) (Some z) b c (ap (λ v. Some v) e) f

    else_prints : Writes true false is_apart (λ b. codes " else " ++ branch n b) SameBranch (TokenThen (mark t.Else) (λ _. BehindElse inits d E A S)) (TokenThen (mark t.Else) (λ _. BehindElse inits d E A S))
    else_prints = print_led {e' = false} {q = is_apart} (taken_mark t.Else (codes " ") refl refl (λ u g i. refl)) (λ c ws b. leads_apart _ (sign (codes " ") t.Else) ws refl b)
        (λ c. print_or
        (print_led {e' = false} {q = is_apart} (taken_mark t.If (codes " ") refl refl (λ u g i. refl)) (λ c' ws b. leads_apart _ (sign (codes " ") t.If) ws refl b)
        (λ c'. print_then {q = is_apart} {e' = false} valued (λ w i. i) apart_free
        (λ y. print_then {q = is_free} {e' = true} blocked (λ w i. i) (λ w i. i)
        (λ b. print_only {p = is_free} (simp (append_assoc, append-nil)) (λ a near. branch_like y a.0.1 b a.1 near.0.1 near.1)))))
        (print_then {q = is_free} {e' = true} blocked (λ w i. i) (λ w i. i)
        (λ b. print_only {p = is_free} (simp (append_assoc, append-nil)) (λ a near. branch_same None None b a.1 refl near.1))))

    abbrev elses : List Part → Text
    elses bs = flat_map (λ b. codes " else " ++ branch n b) bs

    elses_print : Writes true true is_apart elses (AllLike SameBranch) (Run (else_at inits d E A S) is_last_branch false) (Run (else_at inits d E A S) is_last_branch false)
    elses_print = record {
      holds = λ us xs gen fst r.
          let (ws, written, sound, begun', make) = (print_run {Rel = λ s s'. s ≡ s'} apart_free each follows false).holds us xs gen fst r in
          (ws, written, sound, begun', λ a near ms f. make false refl ms f);
    }
      where
        each : (s : Bool) → Prints true any false is_apart (λ z. z) (λ b. codes " else " ++ branch n b) (λ s'. s ≡ s') SameBranch (else_at inits d E A S s) (else_at inits d E A S)
        each true = record { holds = λ us b gen fst r. absurd r }
        each false = record {
          holds = λ us b gen fst r.
              let (ws, written, sound, begun', make) = else_prints.holds us b gen fst r in
              (ws, written, sound, begun', λ a near ms f. let (b', r', same) = make tt tt ms f in (b', subst (λ z. else_at inits d E A S z ms b') near r', same));
        }

        none_kept : (x y : Option Expr) → option_map bare_expr x ≡ option_map bare_expr y → has_none x ≡ has_none y
        none_kept None None is = refl
        none_kept None (Some y) is = absurd (cc)
        none_kept (Some x) None is = absurd (cc)
        none_kept (Some x) (Some y) is = refl

        follows : (s s' : Bool) (b b' : Part) → s ≡ s' → SameBranch b b' → is_last_branch s b ≡ is_last_branch s' b'
        follows s s' b b' is same = none_kept b.0 b'.0 (ap (λ (z : Part). z.0) same)

    -- a first branch, and what follows it
    abbrev IfOf : Place → Rule Stmt
    IfOf c = Then E (λ y. Then (BlockOf d S) (λ b. Then (Run (else_at inits d E A S) is_last_branch false) (λ bs. Empty (s.If c ((Some y, b) ∷ bs)))))

    opened : (c : Place) (us : List Piece) (x : Stmt) → IfTail inits d E A S c us x → IfOf c us x
    opened c us x (k, vs, ws, cut, (y, v1, v2, cut2, e, (b, v3, v4, cut3, block, (none, is))), rest) = (
      y,
      v1,
      v3 ++ ws,
      cut ∙ ap (λ z. z ++ ws) (cut2 ∙ ap (λ z. v1 ++ z) (cut3 ∙ ap (λ z. v3 ++ z) none ∙ append-nil v3)) ∙ append_assoc v1 v3 ws,
      e,
      (b, v3, ws, refl, block, subst (λ z. Then (Run (else_at inits d E A S) is_last_branch false) (λ bs. Empty (s.If c (z ∷ bs))) ws x) is rest),
    )

    closed : (c : Place) (us : List Piece) (x : Stmt) → IfOf c us x → IfTail inits d E A S c us x
    closed c us x (y, v1, v2, cut, e, (b, v3, v4, cut2, block, rest)) =
        ((Some y, b), v1 ++ v3, v4, cut ∙ ap (λ z. v1 ++ z) cut2 ∙ sym (append_assoc v1 v3 v4), (y, v1, v3, refl, e, (b, v3, [], sym (append-nil v3), block, (refl, refl))), rest)

    if_leaf : (c : Place) (y : Expr) (b : Block) (bs : List Part) → codes "if" ++ ((codes " " ++ expr_text y) ++ ((codes " " ++ block_text b n) ++ (elses bs ++ []))) ≡ words_of (s.If c ((Some y, b) ∷ bs)) n
    if_leaf c y b bs = ap (λ z. codes "if" ++ ((codes " " ++ expr_text y) ++ ((codes " " ++ block_text b n) ++ z))) (append-nil (elses bs)) ∙ first (elses bs) ∙ sym (if_words c ((Some y, b) ∷ bs) n)
      where
        first : (z : Text) → codes "if" ++ ((codes " " ++ expr_text y) ++ ((codes " " ++ block_text b n) ++ z)) ≡ branch n (Some y, b) ++ z
        first z = simp append_assoc

    if_prints : Said (TokenThen (mark t.If) (IfTail inits d E A S))
    if_prints = print_led {e' = false} {q = is_apart} (taken_mark t.If [] refl refl (starts_as t.If refl refl)) (λ c ws b. leads_apart _ (sign [] t.If) ws refl b)
        (λ c. print_by (opened c) (λ a us x i. closed a.1 us x i)
        (print_then {q = is_apart} {e' = false} valued (λ w i. i) apart_free
        (λ y. print_then {q = is_apart} {e' = true} blocked (λ w i. i) apart_free
        (λ b. print_after {q = is_apart} elses_print (λ w i. i) apart_free (λ w i. i)
        (λ bs. print_only (if_leaf c y b bs)
        (λ a near. if_same c a.0.0.0.1 ((Some y, b) ∷ bs) ((Some a.0.0.1, a.0.1) ∷ a.1) (ap₂ (λ v w. v ∷ w) (branch_like y a.0.0.1 b a.0.1 near.0.0.1 near.0.1) (like_map bare_branch bs a.1 near.1))))))))

    switch_leaf : (c : Place) (y : Expr) (cs : List Clause) → codes "switch" ++ ((codes " " ++ expr_text y) ++ ((codes " " ++ braces_text n cs) ++ [])) ≡ words_of (s.Switch c y cs) n
    switch_leaf c y cs = ap (λ z. codes "switch" ++ ((codes " " ++ expr_text y) ++ z)) (append-nil (codes " " ++ braces_text n cs) ∙ ap (λ z. codes " " ++ z) (braces_is n cs))
        ∙ sym (switch_words c y cs n ∙ simp append_assoc)

    switch_prints : Said (TokenThen (mark t.Switch) (SwitchTail inits d E A S))
    switch_prints = print_led {e' = false} {q = is_apart} (taken_mark t.Switch [] refl refl (starts_as t.Switch refl refl)) (λ c ws b. leads_apart _ (sign [] t.Switch) ws refl b)
        (λ c. print_then {q = is_apart} {e' = false} valued (λ w i. i) apart_free
        (λ y. print_then {q = is_free} {e' = true} (print_firm (print_behind (codes " ") refl refl (clauses_print S inner d n))) (λ w i. i) (λ w i. i)
        (λ cs. print_only {p = is_free} (switch_leaf c y cs) (λ a near. switch_same c a.0.0.1 y a.0.1 cs a.1 near.0.1 near.1))))

    action_of_prints : (b : Bool) → Said (ActionOf inits d E A S b)
    action_of_prints false = action_prints
    action_of_prints true = print_or (init_prints t.SelfValue refl refl (λ c xs. s.SelfInit c xs) (λ c xs. ap (λ z. codes "self.init" ++ z) (append-nil (call_arguments xs)) ∙ sym (self_init_words c xs n)) (λ c c' xs ys same. self_init_same c c' xs ys same))
        (print_or (init_prints t.Super refl refl (λ c xs. s.SuperInit c xs) (λ c xs. ap (λ z. codes "super.init" ++ z) (append-nil (call_arguments xs)) ∙ sym (super_init_words c xs n)) (λ c c' xs ys same. super_init_same c c' xs ys same)) action_prints)

    stmt_prints : Said (StmtOf inits d E A S)
    stmt_prints = print_or local_prints (print_or discard_prints (print_or if_prints (print_or while_prints (print_or return_prints
        (print_or (word_prints t.Break refl refl (λ c. s.Break c) (λ c. sym (break_words c n)) (λ c c'. break_same c c'))
        (print_or (word_prints t.Continue refl refl (λ c. s.Continue c) (λ c. sym (continue_words c n)) (λ c c'. continue_same c c'))
        (print_or switch_prints (action_of_prints inits))))))))

call_is : (d : ℕ) → Writes true false is_free call_arguments SameArguments (IsCall d) (IsCall d)
call_is zero = call_prints zero Fail Fail nothing_expressed
call_is (suc d) = call_prints (suc d) (IsExpr d) (Unary d) (expressed d)

-- a statement is written
pub stated : (inits : Bool) (d : ℕ) → Stated (IsStmt inits d)
unfolding IsStmt
stated inits zero n g p begun = stmt_prints inits zero (IsExpr zero) (IsCall zero) Fail (expressed zero) (call_is zero) (λ n g p begun. print_nothing) n g p begun
stated inits (suc d) n g p begun = stmt_prints inits (suc d) (IsExpr (suc d)) (IsCall (suc d)) (IsStmt inits d) (expressed (suc d)) (call_is (suc d)) (stated inits d) n g p begun

-- a block is written
pub blocks_print : (inits : Bool) (d n : ℕ) → Writes false false is_flush (λ b. block_text b n) SameBlock (IsBlock inits d) (IsBlock inits d)
blocks_print inits zero n = block_prints zero Fail (λ n g p begun. print_nothing) n
blocks_print inits (suc d) n = block_prints (suc d) (IsStmt inits d) (stated inits d) n
