-- With more nesting the reader gives the same, but where it met one nesting too many.
use Rattle.std.proofs.Common.{ℕ, zero, suc, ◌-◌, ◌^◌, true, false, [], ◌∷◌, Option, Some, None}
use Rattle.evo_base.specs.declared.place.Place.{Place}
use Rattle.evo_combinators.specs.Reader.{◌>>=◌, pure, refuse, one, many}
use Rattle.evo_combinators.specs.Guard.{starts_two}
use Rattle.evo_combinators.specs.Laws.{GrowsWithNesting, GrammarOf}
use Rattle.evo_combinators.proofs.GrowsWithNesting.{same_refl, deeper_then, deeper_alt, deeper_bar, deeper_many}
use Rattle.evo_combinators.proofs.GuardDeeper.{deeper_choose}
use Rattle.evo_tree.specs.declared.name.Identifier.{Identifier}
use Rattle.evo_tree.specs.declared.expression.InfixOperator.{InfixOperator}
use Rattle.evo_tree.specs.declared.expression.Expr.{Expr}
use Rattle.evo_tree.specs.declared.expression.Expr.TheVariants as e
use Rattle.evo_tree.specs.declared.terminal.Terminal.TheVariants as t
use Rattle.evo_tree.specs.Pieces.{Piece, is_terminal, is_identifier, mark, identifier, integer, string, negative, sign, call}
use Rattle.evo_tree.specs.Expressions.{infix_by, chain, members, one_operand, IsExpr}
use Rattle.evo_parse_expr.specs.declared.lexeme.Level.TheVariants as level
use Rattle.evo_parse_expr.specs.Levels.{operators_of}
use Rattle.evo_parse_expr.specs.Read.{Reader, opens, chain_of, pair_of, levels, labelled, argument, listed_arguments, closed_arguments, rest_of_arguments, arguments, called, member, rest_of_group, rest_of_super, magnitude, named, implicit, later_primary, primary, links, post, unary_of, unary, expr}
use Rattle.evo_parse_expr.proofs.Tests.{Stop}
use Rattle.evo_parse_expr.proofs.ReadsRule.{right_expr}

pub deeper_map : {A B : Type 0} (p p' : Reader A) (g : A → B) → GrowsWithNesting p p' → GrowsWithNesting (p >>= (λ a. pure (g a))) (p' >>= (λ a. pure (g a)))
deeper_map p p' g dp = deeper_then p p' (λ a. pure (g a)) (λ a. pure (g a)) dp (λ a. same_refl (pure (g a)))

-- a token, and then what follows it
pub deeper_led : {A B : Type 0} (f : Piece → Option A) (q q' : A → Reader B) → ((a : A) → GrowsWithNesting (q a) (q' a)) → GrowsWithNesting (one f >>= q) (one f >>= q')
deeper_led f q q' dq = deeper_then (one f) (one f) q q' (same_refl (one f)) dq

-- below a nesting that may open
abbrev pub Inside : {A : Type 0} → ℕ → Reader A → Reader A → Type 0
Inside zero p p' = Unit {0}
Inside (suc d) p p' = GrowsWithNesting p p'

pub inside_by : {A B : Type 0} (d : ℕ) (p p' : Reader A) (q q' : Reader B) → (GrowsWithNesting p p' → GrowsWithNesting q q') → Inside d p p' → Inside d q q'
inside_by zero p p' q q' to i = tt
inside_by (suc d) p p' q q' to i = to i

pub deeper_opens : {A B : Type 0} (d : ℕ) (f : Piece → Option A) (q q' : A → Reader B) (r r' : Reader B) → ((a : A) → Inside d (q a) (q' a)) → GrowsWithNesting r r' →
    GrowsWithNesting (opens d f q r) (opens (suc d) f q' r')
deeper_opens zero f q q' r r' dq dr = deeper_bar f q' q' r r' (λ a. same_refl (q' a)) dr
deeper_opens (suc d) f q q' r r' dq dr = deeper_alt f q q' r r' dq dr

module _ (f : Piece → Option InfixOperator) (p p' : Reader Expr) (dp : GrowsWithNesting p p') where
  deeper_chain : GrowsWithNesting (chain_of f p) (chain_of f p')
  unfolding chain_of
  deeper_chain = deeper_then p p' _ _ dp (λ x. deeper_map (many f (λ o. p >>= (λ y. pure (o, y)))) (many f (λ o. p' >>= (λ y. pure (o, y)))) (chain x)
      (deeper_many f _ _ (λ o. deeper_map p p' (λ y. (o, y)) dp)))

  deeper_pair : GrowsWithNesting (pair_of f p) (pair_of f p')
  unfolding pair_of
  deeper_pair = deeper_then p p' _ _ dp (λ x. deeper_alt f _ _ (pure x) (pure x) (λ o. deeper_map p p' (λ y. chain x (one_operand o y)) dp) (same_refl (pure x)))

pub deeper_levels : (p p' : Reader Expr) → GrowsWithNesting p p' → GrowsWithNesting (levels p) (levels p')
deeper_levels p p' dp = deeper_chain (infix_by (operators_of level.Disjunction)) _ _ (deeper_chain (infix_by (operators_of level.Conjunction)) _ _ (deeper_pair (infix_by (operators_of level.Comparison)) _ _
    (deeper_chain (infix_by (operators_of level.Addition)) _ _ (deeper_chain (infix_by (operators_of level.Multiplication)) p p' dp))))

module _ (d : ℕ) (i i' o o' : Reader Expr) (di : Inside d i i') (do' : Inside d o o') where
  deeper_labelled : GrowsWithNesting i i' → GrowsWithNesting (labelled d i o) (labelled (suc d) i' o')
  unfolding labelled
  deeper_labelled de = deeper_led identifier _ _ (λ w. deeper_led (mark t.Colon) _ _ (λ _. deeper_map i i' (λ x. (Some w, x)) de))

  deeper_argument : GrowsWithNesting i i' → GrowsWithNesting (argument d i o) (argument (suc d) i' o')
  deeper_argument de = deeper_choose (starts_two is_identifier (is_terminal t.Colon)) (labelled d i o) (labelled (suc d) i' o') _ _ (deeper_labelled de) (deeper_map i i' (λ x. (None, x)) de)

  deeper_listed : GrowsWithNesting i i' → GrowsWithNesting (listed_arguments d i o) (listed_arguments (suc d) i' o')
  unfolding listed_arguments
  deeper_listed de = deeper_then (argument d i o) (argument (suc d) i' o') _ _ (deeper_argument de)
      (λ a. deeper_map (many (mark t.Comma) (λ _. argument d i o)) (many (mark t.Comma) (λ _. argument (suc d) i' o')) (λ as'. a ∷ as') (deeper_many (mark t.Comma) _ _ (λ _. deeper_argument de)))

  deeper_closed : GrowsWithNesting i i' → GrowsWithNesting (closed_arguments d i o) (closed_arguments (suc d) i' o')
  unfolding closed_arguments
  deeper_closed de = deeper_then (listed_arguments d i o) (listed_arguments (suc d) i' o') _ _ (deeper_listed de) (λ as'. same_refl (one (mark t.CloseParenthesis) >>= (λ _. pure as')))

  deeper_rest : GrowsWithNesting i i' → GrowsWithNesting (rest_of_arguments d i o) (rest_of_arguments (suc d) i' o')
  unfolding rest_of_arguments
  deeper_rest de = deeper_alt (mark t.CloseParenthesis) (λ _. pure []) (λ _. pure []) _ _ (λ _. same_refl (pure [])) (deeper_closed de)

  deeper_arguments : GrowsWithNesting (arguments d i o) (arguments (suc d) i' o')
  unfolding arguments
  deeper_arguments = deeper_opens d call _ _ (pure None) (pure None)
      (λ _. inside_by d i i' _ _ (λ de. deeper_map (rest_of_arguments d i o) (rest_of_arguments (suc d) i' o') (λ as'. Some as') (deeper_rest de)) di) (same_refl (pure None))

  pub deeper_called : GrowsWithNesting (called d i o) (called (suc d) i' o')
  unfolding called
  deeper_called = deeper_opens d call _ _ refuse refuse (λ _. inside_by d i i' (rest_of_arguments d i o) (rest_of_arguments (suc d) i' o') deeper_rest di) (same_refl refuse)

  deeper_member : GrowsWithNesting (member d i o) (member (suc d) i' o')
  unfolding member
  deeper_member = deeper_led identifier _ _ (λ w. deeper_map (arguments d i o) (arguments (suc d) i' o') (λ as'. (w, as')) deeper_arguments)

  deeper_group : (p : Place) → GrowsWithNesting i i' → GrowsWithNesting (rest_of_group d i o p) (rest_of_group (suc d) i' o' p)
  unfolding rest_of_group
  deeper_group p de = deeper_then i i' _ _ de (λ x. same_refl (one (mark t.CloseParenthesis) >>= (λ _. pure (e.Parenthesised p x))))

  deeper_super : (p : Place) → GrowsWithNesting (rest_of_super d i o p) (rest_of_super (suc d) i' o' p)
  unfolding rest_of_super
  deeper_super p = deeper_led (mark t.Dot) _ _ (λ _. deeper_led identifier _ _ (λ w. deeper_map (called d i o) (called (suc d) i' o') (λ as'. e.Super p w as') deeper_called))

  deeper_magnitude : (p : Place) → GrowsWithNesting (magnitude d i o p) (magnitude (suc d) i' o' p)
  unfolding magnitude
  deeper_magnitude p = same_refl (one (integer (2 ^ 63)) >>= (λ v. pure (e.Negative p v.1)))

  deeper_named : (w : Identifier) → GrowsWithNesting (named d i o w) (named (suc d) i' o' w)
  unfolding named
  deeper_named w = deeper_map (arguments d i o) (arguments (suc d) i' o') (λ as'. e.Name w as') deeper_arguments

  deeper_implicit : (p : Place) → GrowsWithNesting (implicit d i o p) (implicit (suc d) i' o' p)
  unfolding implicit
  deeper_implicit p = deeper_map (member d i o) (member (suc d) i' o') (λ m. e.ImplicitMember p m.0 m.1) deeper_member

  deeper_later : GrowsWithNesting (later_primary d i o) (later_primary (suc d) i' o')
  unfolding later_primary
  deeper_later = deeper_alt (mark t.True) _ _ _ _ (λ p. same_refl (pure (e.Boolean p true)))
      (deeper_alt (mark t.False) _ _ _ _ (λ p. same_refl (pure (e.Boolean p false)))
      (deeper_alt negative _ _ _ _ deeper_magnitude
      (deeper_opens d (mark t.OpenParenthesis) (rest_of_group d i o) (rest_of_group (suc d) i' o') _ _ (λ p. inside_by d i i' _ _ (deeper_group p) di)
      (deeper_alt (mark t.Dot) _ _ refuse refuse deeper_implicit (same_refl refuse)))))

  deeper_primary : GrowsWithNesting (primary d i o) (primary (suc d) i' o')
  unfolding primary
  deeper_primary = deeper_alt identifier _ _ _ _ deeper_named
      (deeper_alt (integer (2 ^ 63 - 1)) _ _ _ _ (λ v. same_refl (pure (e.Integer v.0 v.1)))
      (deeper_alt string _ _ _ _ (λ v. same_refl (pure (e.String v.0 v.1)))
      (deeper_alt (mark t.SelfValue) _ _ _ _ (λ p. same_refl (pure (e.SelfValue p)))
      (deeper_alt (mark t.SelfType) _ _ _ _ (λ p. same_refl (pure (e.SelfType p)))
      (deeper_alt (mark t.Super) _ _ _ _ deeper_super deeper_later)))))

  deeper_links : (x : Expr) → GrowsWithNesting (links d i o x) (links (suc d) i' o' x)
  unfolding links
  deeper_links x = deeper_map (many (mark t.Dot) (λ _. member d i o)) (many (mark t.Dot) (λ _. member (suc d) i' o')) (members x) (deeper_many (mark t.Dot) _ _ (λ _. deeper_member))

  deeper_post : GrowsWithNesting (post d i o) (post (suc d) i' o')
  unfolding post
  deeper_post = deeper_then (primary d i o) (primary (suc d) i' o') _ _ deeper_primary deeper_links

  deeper_unary_of : GrowsWithNesting (unary_of d i o) (unary_of (suc d) i' o')
  unfolding unary_of
  deeper_unary_of = deeper_opens d sign _ _ (post d i o) (post (suc d) i' o') (λ s. inside_by d o o' _ _ (λ de. deeper_map o o' (λ x. e.Prefix s.0 s.1 x) de) do') deeper_post

pub deeper_unary : (d : ℕ) → GrowsWithNesting (unary d) (unary (suc d))
unfolding unary
deeper_unary zero = deeper_unary_of 0 refuse (levels (unary 0)) refuse (unary 0) tt tt
deeper_unary (suc d) = deeper_unary_of (suc d) (levels (unary d)) (levels (unary (suc d))) (unary d) (unary (suc d)) (deeper_levels (unary d) (unary (suc d)) (deeper_unary d)) (deeper_unary d)

pub expr_grammar : GrammarOf (Stop 6) IsExpr expr
expr_grammar = record { right = right_expr; deeper = λ d. deeper_levels (unary d) (unary (suc d)) (deeper_unary d) }
