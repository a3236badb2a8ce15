-- What spells a statement that is written `get` is the name `get` alone.
use Rattle.std.proofs.Common.{◌≡◌, ℕ, zero, suc, List, ◌∷◌, ◌++◌, true, false, codes, Option, Some, refl, sym, ◌∙◌, ap, subst, inl, inr, append-nil, append_assoc}
use Rattle.evo_base.specs.declared.place.Place.{Place}
use Rattle.evo_combinators.specs.Rule.{Empty, Fail, TokenThen, Or, Then}
use Rattle.evo_tree.specs.declared.name.Identifier.{Identifier}
use Rattle.evo_tree.specs.declared.name.TypeName.{TypeName}
use Rattle.evo_tree.specs.declared.expression.Expr.{Expr}
use Rattle.evo_tree.specs.declared.statement.Introducer.{Introducer}
use Rattle.evo_tree.specs.declared.statement.Introducer.TheVariants as introducer
use Rattle.evo_tree.specs.declared.statement.Block.{Block}
use Rattle.evo_tree.specs.declared.statement.Stmt.{Stmt}
use Rattle.evo_tree.specs.declared.statement.Stmt.TheVariants as s
use Rattle.evo_tree.specs.Pieces.{Piece}
use Rattle.evo_tree.specs.Expressions.{Rule, IsExpr}
use Rattle.evo_tree.specs.Statements.{assigns_to, Branch, AssignmentTail, Action, StmtOf, IsCall, IsStmt}
use Rattle.evo_tree.specs.Canonical.{Text, expr_text, assignment_text}
use Rattle.evo_print.specs.Texts.{words_of}
use Rattle.evo_round_trip.proofs.StatementTrees.{local_words, discard_words, assign_words, expr_words, if_words, while_words, return_words, break_words, continue_words, switch_words}
use Rattle.evo_round_trip.proofs.GetTexts.{is_lone_get, no_get, no_get_behind, starts_get, All, all_only, all_led, all_then, all_then_by, Gets, expression_gets}

-- written so deep, it is `get`
abbrev IsGet : Stmt → Type 0
IsGet x = (n : ℕ) × (words_of x n ≡ codes "get")

abbrev NoGet : Stmt → Type 0
NoGet x = IsGet x → ⊥

-- what S spells is written `get` only where it is the name
pub record GetsStated (S : Rule Stmt) : Type 0 where
  pub holds : (us : List Piece) (x : Stmt) (n : ℕ) → S us x → words_of x n ≡ codes "get" → is_lone_get us ≡ true

gets_or : {S R : Rule Stmt} → GetsStated S → GetsStated R → GetsStated (Or S R)
gets_or {S} {R} gs gr = record { holds = go }
  where
    go : (us : List Piece) (x : Stmt) (n : ℕ) → Or S R us x → words_of x n ≡ codes "get" → is_lone_get us ≡ true
    go us x n (inl s) is = gs.holds us x n s is
    go us x n (inr r) is = gr.holds us x n r is

gets_never : {S : Rule Stmt} → All NoGet S → GetsStated S
gets_never never = record { holds = λ us x n s is. absurd (never.holds us x s (n, is)) }

no_get_by : (x : Stmt) (z : ℕ → Text) → ((n : ℕ) → words_of x n ≡ z n) → ((n : ℕ) → starts_get (z n) ≡ false) → NoGet x
no_get_by x z text h is = no_get (z is.0) (h is.0) (sym (text is.0) ∙ is.1)

locals : (p : Place) (k : Introducer) (i : Identifier) (ty : Option TypeName) (y : Expr) → NoGet (s.Local p k i ty y)
locals p introducer.Let i ty y = no_get_by (s.Local p introducer.Let i ty y) _ (λ n. local_words p introducer.Let i ty y n) (λ n. refl)
locals p introducer.Var i ty y = no_get_by (s.Local p introducer.Var i ty y) _ (λ n. local_words p introducer.Var i ty y n) (λ n. refl)

-- a branch with a condition
HasSome : Option Expr × Block → Type 0
HasSome b = (y : Expr) × (k : Block) × (b ≡ (Some y, k))

ifs : (p : Place) (b : Option Expr × Block) (bs : List (Option Expr × Block)) → HasSome b → NoGet (s.If p (b ∷ bs))
unfolding HasSome
ifs p b bs (y, k, is) = subst (λ z. NoGet (s.If p (z ∷ bs))) (sym is) (no_get_by (s.If p ((Some y, k) ∷ bs)) _ (λ n. if_words p ((Some y, k) ∷ bs) n) (λ n. refl))

module _ (d : ℕ) (E : Rule Expr) (S : Rule Stmt) (law : Gets E) where
  branches : All HasSome (Branch false d E (IsCall d) S)
  unfolding HasSome
  branches = all_then (λ y. all_then (λ b. all_only (y, b, refl)))

  assigned : (y : Expr) → All NoGet (TokenThen (assigns_to y) (λ o. Then E (λ z. Empty (s.Assign y o z))))
  assigned y = all_led (λ o. all_then (λ z. all_only (λ is. no_get_behind 32 refl refl (expr_text y) (assignment_text o ++ (codes " " ++ expr_text z)) (sym (simp append_assoc at assign_words y o z is.0) ∙ is.1))))

  action_gets : GetsStated (Action false d E (IsCall d) S)
  action_gets = record { holds = λ us x n a is. let (y, vs, ws, at, s', r) = a in ap is_lone_get at ∙ go x y n vs ws (law.holds vs y s') r is }
    where
      go : (x : Stmt) (y : Expr) (n : ℕ) (vs ws : List Piece) → (expr_text y ≡ codes "get" → is_lone_get vs ≡ true) → AssignmentTail false d E (IsCall d) S y ws x → words_of x n ≡ codes "get" → is_lone_get (vs ++ ws) ≡ true
      go x y n vs ws law (inl r) is = absurd ((assigned y).holds ws x r (n, is))
      go x y n vs ws law (inr (nil, named)) is = ap is_lone_get (ap (λ z. vs ++ z) nil ∙ append-nil vs) ∙ law (sym (expr_words y n) ∙ ap (λ z. words_of z n) (sym named) ∙ is)

  statement_of_gets : GetsStated (StmtOf false d E (IsCall d) S)
  statement_of_gets = gets_or (gets_never (all_led (λ i. all_led (λ n. all_then (λ ty. all_led (λ c. all_then (λ y. all_only (locals i.0 i.1 n ty y))))))))
      (gets_or (gets_never (all_led (λ p. all_led (λ c. all_then (λ y. all_only (no_get_by (s.Discard p y) _ (λ n. discard_words p y n) (λ n. refl)))))))
      (gets_or (gets_never (all_led (λ p. all_then_by branches (λ b some. all_then (λ bs. all_only (ifs p b bs some))))))
      (gets_or (gets_never (all_led (λ p. all_then (λ y. all_then (λ b. all_only (no_get_by (s.While p y b) _ (λ n. while_words p y b n) (λ n. refl)))))))
      (gets_or (gets_never (all_led (λ p. all_then (λ y. all_only (no_get_by (s.Return p y) _ (λ n. return_words p y n) (λ n. refl))))))
      (gets_or (gets_never (all_led (λ p. all_only (no_get_by (s.Break p) _ (λ n. break_words p n) (λ n. refl)))))
      (gets_or (gets_never (all_led (λ p. all_only (no_get_by (s.Continue p) _ (λ n. continue_words p n) (λ n. refl)))))
      (gets_or (gets_never (all_led (λ p. all_then (λ y. all_then (λ cs. all_only (no_get_by (s.Switch p y cs) _ (λ n. switch_words p y cs n) (λ n. refl))))))) action_gets)))))))

-- a statement that is written `get` is the name
pub statement_gets : (d : ℕ) → GetsStated (IsStmt false d)
unfolding IsStmt
statement_gets zero = statement_of_gets zero (IsExpr zero) Fail (expression_gets zero)
statement_gets (suc d) = statement_of_gets (suc d) (IsExpr (suc d)) (IsStmt false d) (expression_gets (suc d))
