-- Statements by how much nesting may open: their readers read the grammar.
use Rattle.std.specs.Prelude.{◌≡◌, ℕ, zero, suc, Bool, true, List, [], ◌∷◌, length, Some, Err, ◌⊎◌, refl}
use Rattle.std.proofs.Common.{sym, ◌∙◌, ap, inl, inr, arith}
use Rattle.std.proofs.lemmas.Bool.Decides.{Decides-eqb}
use Rattle.evo_base.specs.declared.place.Place.{Place}
use Rattle.evo_combinators.specs.declared.Fault.TheVariants.{Grammar}
use Rattle.evo_combinators.specs.Rule.{Fail, SomeOf}
use Rattle.evo_combinators.specs.Reader.{refuse}
use Rattle.evo_combinators.specs.Laws.{Begins, GrammarOf}
use Rattle.evo_combinators.proofs.Laws.{begins_or, begins_as}
use Rattle.evo_combinators.proofs.Sequences.{Anything}
use Rattle.evo_tree.specs.declared.expression.PrefixOperator.{PrefixOperator}
use Rattle.evo_tree.specs.declared.expression.Expr.{Expr}
use Rattle.evo_tree.specs.declared.statement.Stmt.TheVariants as s
use Rattle.evo_tree.specs.declared.terminal.Terminal.{Terminal}
use Rattle.evo_tree.specs.declared.terminal.Terminal.TheVariants as t
use Rattle.evo_tree.specs.declared.terminal.Role.TheVariants as role
use Rattle.evo_tree.specs.Terminals.{number_of}
use Rattle.evo_tree.specs.Pieces.{Piece, is_terminal, has_role, role_number, sign}
use Rattle.evo_tree.specs.Expressions.{Rule, Nested, Levels, UnaryOf, Postfix, Unary, IsExpr}
use Rattle.evo_tree.specs.Statements.{is_later, Later, IsCall, IsStmt, IsBlock}
use Rattle.evo_parse_expr.specs.Read.{Reader, unary, expr}
use Rattle.evo_parse_expr.proofs.Tests.{Stop, First, first_opens, sign_opens, sign_role, opens_primary, same_terminal}
use Rattle.evo_parse_expr.proofs.ReadsRule.{Ready, begins_nested, begins_post, begins_levels, some_expr, begins_expr, named_expr, some_unary, right_unary, right_expr, right_called, some_call}
use Rattle.evo_parse_expr.proofs.More.{expr_grammar, deeper_called, deeper_unary}
use Rattle.evo_parse_stmt.specs.Read.{call, stmt, block}
use Rattle.evo_parse_expr.proofs.Tests.{is_number, number_is}
use Rattle.evo_parse_stmt.proofs.Tests.{a_piece, a_place, mark_takes}
use Rattle.evo_combinators.proofs.Nesting.{Nest}
use Rattle.evo_tree.specs.Pieces.{opens_nesting}
use Rattle.evo_parse_expr.proofs.Nesting.{ReadsInner, nest_expr, nest_unary, nest_called}
use Rattle.evo_parse_stmt.proofs.Fits.{Fits, lift}
use Rattle.evo_parse_stmt.proofs.Follows.{AfterStmt, Fresh}
use Rattle.evo_parse_stmt.proofs.ReadsRule.{Statement, fits_block}
use Rattle.evo_parse_stmt.proofs.Productions.{tail_stmt}
use Rattle.evo_parse_stmt.proofs.Blocked.{blocked}

-- ---- expressions

infix_number : (p : Piece) → has_role role.Infix p ≡ true → role_number p.role ≡ 0
infix_number p is = (Decides-eqb (role_number p.role) 0).0 is

sign_fresh : (p : Piece) (a : Place × PrefixOperator) → sign p ≡ Some a → Fresh p
sign_fresh p a takes = record { opens = sign_opens p a takes; no_minus = λ between is. omega (arith, infix_number p between, sign_role p a takes) }

first_fresh : (p : Piece) → First p → Fresh p
first_fresh p (inl h) = record {
  opens = first_opens p (inl h);
  no_minus = λ between is. let bad = sym h ∙ ap opens_primary (same_terminal p.terminal t.Minus is) in cc;
}
first_fresh p (inr h) = record { opens = first_opens p (inr h); no_minus = λ between is. omega (arith, infix_number p between, h.1) }

fresh_unary_of : (d : ℕ) (I O : Rule Expr) → Begins Fresh (UnaryOf d I O)
fresh_unary_of d I O = begins_or Fresh (Nested d sign _) (Postfix d I O) (begins_nested d Fresh sign _ sign_fresh) (begins_as First Fresh (Postfix d I O) first_fresh (begins_post d I O))

fresh_unary : (d : ℕ) → Begins Fresh (Unary d)
unfolding Unary
fresh_unary zero = fresh_unary_of 0 Fail Fail
fresh_unary (suc d) = fresh_unary_of (suc d) (Levels (Unary d)) (Unary d)

fresh_expr : (d : ℕ) → Begins Fresh (IsExpr d)
fresh_expr d = begins_levels Fresh (Unary d) (fresh_unary d)

fits_expr : (d : ℕ) → Fits d (Stop 6) (IsExpr d) (IsExpr (suc d)) (expr d) (expr (suc d))
fits_expr d = record { law = record { right = right_expr d; deeper = expr_grammar.deeper d; nest = nest_expr d }; some = some_expr (suc d); here = λ held. some_expr d }

ready : (d : ℕ) → Ready (IsExpr d) (IsExpr (suc d)) (expr d)
ready d = record { right = right_expr d; some = some_expr d; begins = begins_expr d; named = named_expr d }

lifted : {A : Type 0} {S : Rule A} {p : Reader A} (d n : ℕ) → ReadsInner d n S p → Nest n (Unit {0}) opens_nesting S p
lifted d n nest = record { keeps = λ us x more fits is le. (tt, (nest.keeps us x more fits is le).1); deep = nest.deep }

fits_call : (d : ℕ) → Fits d (Stop 0) (IsCall d) (IsCall (suc d)) (call d) (call (suc d))
fits_call zero = record {
  law = record {
    right = right_called 0 Fail (IsExpr 0) Fail (Unary 0) refuse refuse (some_expr 0) (some_unary 0);
    deeper = deeper_called 0 refuse (expr 0) refuse (unary 0) tt tt;
    nest = nest_called 0 Fail (IsExpr 0) Fail (Unary 0) refuse refuse (some_expr 0) (some_unary 0) tt (λ n. tt);
  };
  here = λ held. absurd held;
  some = some_call 0 Fail (IsExpr 0) Fail (Unary 0) refuse refuse (some_expr 0) (some_unary 0);
}
fits_call (suc d) = record {
  law = record {
    right = right_called (suc d) (IsExpr d) (IsExpr (suc d)) (Unary d) (Unary (suc d)) (expr d) (unary d) (ready d) (right_unary d, some_unary d);
    deeper = deeper_called (suc d) (expr d) (expr (suc d)) (unary d) (unary (suc d)) (expr_grammar.deeper d) (deeper_unary d);
    nest = nest_called (suc d) (IsExpr d) (IsExpr (suc d)) (Unary d) (Unary (suc d)) (expr d) (unary d) (ready d) (right_unary d, some_unary d) (λ n. lifted d n (nest_expr d n)) (λ n. (lifted d n (nest_unary d n), some_unary d));
  };
  here = λ held. (fits_call d).some;
  some = some_call (suc d) (IsExpr d) (IsExpr (suc d)) (Unary d) (Unary (suc d)) (expr d) (unary d) (ready d) (right_unary d, some_unary d);
}

-- ---- statements

a_break : Piece
a_break = a_piece t.Break []

some_stmt : (inits : Bool) (d : ℕ) → IsStmt inits d (a_break ∷ []) (s.Break a_place)
unfolding IsStmt a_break
some_stmt inits zero = inr (inr (inr (inr (inr (inl (a_break, a_place, [], refl, mark_takes t.Break, (refl, refl)))))))
some_stmt inits (suc d) = inr (inr (inr (inr (inr (inl (a_break, a_place, [], refl, mark_takes t.Break, (refl, refl)))))))

some_later : (inits : Bool) (d : ℕ) → SomeOf (Later (IsStmt inits d))
unfolding is_later a_break
some_later inits d = (a_break ∷ [], s.Break a_place, (a_break, [], refl, refl, some_stmt inits d))

own_blocked : (d : ℕ) (k : Terminal) → (number_of k ≡ number_of t.SelfValue) ⊎ (number_of k ≡ number_of t.Super) → (u v w : Piece) (us : List Piece) →
    is_terminal k u ≡ true → is_terminal t.Dot v ≡ true → is_terminal t.Init w ≡ true → expr d (u ∷ (v ∷ (w ∷ us))) ≡ Err (Grammar (suc (length us)))
own_blocked d k (inl own) u v w us is = blocked d u v w us (inl (number_is t.SelfValue u (is_number k u is ∙ own)))
own_blocked d k (inr own) u v w us is = blocked d u v w us (inr (number_is t.Super u (is_number k u is ∙ own)))

lift_statement : (inits : Bool) (d : ℕ) → Statement d (IsStmt inits d) (IsStmt inits (suc d)) (stmt inits d) (stmt inits (suc d)) → Statement (suc d) (IsStmt inits d) (IsStmt inits (suc d)) (stmt inits d) (stmt inits (suc d))
lift_statement inits d laws = record {
  tail = record { fits = lift (a_break ∷ [], s.Break a_place, some_stmt inits d) laws.tail.fits; begins = laws.tail.begins };
  later = laws.later;
  later_here = λ held. some_later inits d;
}

pub laws : (inits : Bool) (d : ℕ) → Statement d (IsStmt inits d) (IsStmt inits (suc d)) (stmt inits d) (stmt inits (suc d))
unfolding IsStmt stmt
laws inits zero = record {
  tail = tail_stmt inits 0 (IsExpr 0) (IsExpr 1) (expr 0) (expr 1) (IsCall 0) (IsCall 1) (call 0) (call 1) Fail (IsStmt inits 0) refuse (stmt inits 0)
      (fits_expr 0) (fresh_expr 1) (fits_call 0) (a_break ∷ [], s.Break a_place, some_stmt inits 0) (own_blocked 0);
  later = some_later inits 1;
  later_here = λ held. some_later inits 0;
}
laws inits (suc d) = record {
  tail = tail_stmt inits (suc d) (IsExpr (suc d)) (IsExpr (suc (suc d))) (expr (suc d)) (expr (suc (suc d))) (IsCall (suc d)) (IsCall (suc (suc d))) (call (suc d)) (call (suc (suc d)))
      (IsStmt inits d) (IsStmt inits (suc d)) (stmt inits d) (stmt inits (suc d)) (fits_expr (suc d)) (fresh_expr (suc (suc d))) (fits_call (suc d)) (lift_statement inits d (laws inits d)) (own_blocked (suc d));
  later = some_later inits (suc (suc d));
  later_here = λ held. some_later inits (suc d);
}

pub stmt_grammar : (inits : Bool) → GrammarOf AfterStmt (IsStmt inits) (stmt inits)
stmt_grammar inits = record { right = λ d. (laws inits d).tail.fits.law.right; deeper = λ d. (laws inits d).tail.fits.law.deeper }

pub fits_blocks : (inits : Bool) (d : ℕ) → Fits d Anything (IsBlock inits d) (IsBlock inits (suc d)) (block inits d) (block inits (suc d))
fits_blocks inits zero = fits_block 0 Fail (IsStmt inits 0) refuse (stmt inits 0) (a_break ∷ [], s.Break a_place, some_stmt inits 0)
fits_blocks inits (suc d) = fits_block (suc d) (IsStmt inits d) (IsStmt inits (suc d)) (stmt inits d) (stmt inits (suc d)) (lift_statement inits d (laws inits d))

pub block_grammar : (inits : Bool) → GrammarOf Anything (IsBlock inits) (block inits)
block_grammar inits = record { right = λ d. (fits_blocks inits d).law.right; deeper = λ d. (fits_blocks inits d).law.deeper }

-- ---- which tokens open a nesting

pub nest_stmt : (inits : Bool) (d n : ℕ) → ReadsInner d n (IsStmt inits d) (stmt inits d)
nest_stmt inits d = (laws inits d).tail.fits.law.nest

pub nest_block : (inits : Bool) (d n : ℕ) → ReadsInner d n (IsBlock inits d) (block inits d)
nest_block inits d = (fits_blocks inits d).law.nest
