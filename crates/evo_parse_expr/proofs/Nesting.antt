-- Which tokens open a nesting, through the readers of expressions.
use Rattle.std.proofs.Common.{◌≡◌, ℕ, zero, suc, ◌-◌, ◌<◌, ◌^◌, true, false, List, [], ◌∷◌, Option, Some, None, refl, arith, inr}
use Rattle.evo_base.specs.declared.place.Place.{Place}
use Rattle.evo_combinators.specs.Rule.{Empty, Fail, TokenThen, Or, Then, Many, SomeOf}
use Rattle.evo_combinators.specs.Reader.{◌>>=◌, pure, refuse, one}
use Rattle.evo_combinators.specs.Guard.{starts_two}
use Rattle.evo_combinators.specs.Laws.{ReadsRule}
use Rattle.evo_combinators.proofs.Laws.{right_map, to_map}
use Rattle.evo_combinators.proofs.Nesting.{Nest, nest_pure, nest_refuse, nest_then, nest_map, nest_alt, nest_quiet, nest_bar, nest_choose, nest_led, nest_many, nest_by}
use Rattle.evo_combinators.proofs.Sequences.{some_only, some_then}
use Rattle.evo_tree.specs.declared.name.Identifier.{Identifier}
use Rattle.evo_tree.specs.declared.expression.InfixOperator.{InfixOperator}
use Rattle.evo_tree.specs.declared.expression.PrefixOperator.{PrefixOperator}
use Rattle.evo_tree.specs.declared.expression.Expr.{Expr}
use Rattle.evo_tree.specs.declared.expression.Expr.TheVariants as e
use Rattle.evo_tree.specs.declared.terminal.Terminal.TheVariants as t
use Rattle.evo_tree.specs.Pieces.{Piece, is_terminal, is_identifier, mark, identifier, integer, string, negative, sign, call, opens_nesting}
use Rattle.evo_tree.specs.Expressions.{Rule, Nested, infix_by, multiplying, adding, comparing, conjoining, disjoining, chain, members, one_operand, Chain, Pair, Levels, Argument, ListedArguments, ArgumentsTail, Arguments, Call, Member, GroupTail, SuperTail, Magnitude, Primary, Links, Postfix, UnaryOf, Unary, IsExpr}
use Rattle.evo_parse_expr.specs.Read.{Reader, opens, chain_of, pair_of, levels, labelled, argument, listed_arguments, closed_arguments, rest_of_arguments, arguments, called, member, rest_of_group, rest_of_super, magnitude, named, implicit, later_primary, primary, links, post, unary_of, unary, expr}
use Rattle.evo_parse_expr.proofs.Tests.{identifier_number, integer_number, string_number, quiet_number, quiet_mark, negative_quiet, multiplication_quiet, addition_quiet, comparison_quiet, conjunction_quiet, disjunction_quiet, parenthesis_opens, call_opens, sign_opens_nesting, Stop, rank, multiplication_rank, addition_rank, comparison_rank, conjunction_rank, disjunction_rank}
use Rattle.evo_parse_expr.proofs.ReadsRule.{Anything, Below, Ready, Inner, ready_expr, AfterArgument, AfterArguments, Further, Dotted, Turn, FromTrue, comma_no, comma_argument, seven_six, some_argument, some_rest, some_member, some_close, some_chain, some_pair, some_levels, some_unary, turn, ended, stops, ends, next, dot_stops, zero_one, dot_next, right_argument, right_further, right_listed, right_rest, right_arguments, right_called, right_member, right_primary, right_dotted, right_turns, right_chain, right_pair, right_unary}

-- something may be nested
abbrev pub May : ℕ → Type 0
May zero = ⊥
May (suc d) = Unit {0}

abbrev pub ReadsInner : {A : Type 0} → ℕ → ℕ → Rule A → Reader A → Type 0
ReadsInner d n S p = Nest n (May d) opens_nesting S p

-- below a nesting that may open
abbrev pub Under : {A : Type 0} → ℕ → ℕ → Rule A → Reader A → Type 0
Under zero n S p = Unit {0}
Under (suc d) n S p = Nest n (Unit {0}) opens_nesting S p × SomeOf S

pub nest_opens : {A B : Type 0} (d n : ℕ) (f : Piece → Option A) (S : A → Rule B) (R : Rule B) (q : A → Reader B) (r : Reader B) → ((p : Piece) (a : A) → f p ≡ Some a → opens_nesting p ≡ true) →
    ((a : A) → Under d (n - 1) (S a) (q a)) → ReadsInner d n R r → ReadsInner d n (Or (Nested d f S) R) (opens d f q r)
nest_opens zero n f S R q r opening under nest = nest_by ⊥ opens_nesting n R (Or Fail R) _ (λ us b s. inr s) (nest_bar ⊥ opens_nesting n f R r opening nest)
nest_opens (suc d) n f S R q r opening under nest = nest_alt (Unit {0}) opens_nesting n f S R q r (λ a. (under a).0) nest (λ p a takes is. (tt, (under a).1))

pub identifier_quiet : (p : Piece) (a : Identifier) → identifier p ≡ Some a → opens_nesting p ≡ true → ⊥
identifier_quiet p a takes = quiet_number 0 refl p (identifier_number p a takes)

comma_quiet : (p : Piece) (a : Place) → mark t.Comma p ≡ Some a → opens_nesting p ≡ true → ⊥
comma_quiet = quiet_mark t.Comma refl

shut_quiet : (p : Piece) (a : Place) → mark t.CloseParenthesis p ≡ Some a → opens_nesting p ≡ true → ⊥
shut_quiet = quiet_mark t.CloseParenthesis refl

dot_quiet : (p : Piece) (a : Place) → mark t.Dot p ≡ Some a → opens_nesting p ≡ true → ⊥
dot_quiet = quiet_mark t.Dot refl

-- ---- what stands in parentheses

module _ (d : ℕ) (I I' O O' : Rule Expr) (inner operand : Reader Expr) (ready : Ready I I' inner) (nest_inner : (n : ℕ) → Nest n (Unit {0}) opens_nesting I inner) where
  nest_argument : (n : ℕ) → Nest n (Unit {0}) opens_nesting (Argument d I O) (argument d inner operand)
  unfolding labelled
  nest_argument n = nest_choose (Unit {0}) opens_nesting n (starts_two is_identifier (is_terminal t.Colon)) _ _ _ _
      (nest_led (Unit {0}) opens_nesting n identifier _ _ identifier_quiet (λ w. nest_led (Unit {0}) opens_nesting n (mark t.Colon) _ _ (quiet_mark t.Colon refl)
      (λ _. nest_map (Unit {0}) opens_nesting n (Stop 6) I I' inner (λ x. (Some w, x)) (ready.right n) (nest_inner n))))
      (nest_map (Unit {0}) opens_nesting n (Stop 6) I I' inner (λ x. (None, x)) (ready.right n) (nest_inner n))

  nest_listed : (n : ℕ) → Nest n (Unit {0}) opens_nesting (ListedArguments d I O) (listed_arguments d inner operand)
  unfolding listed_arguments
  nest_listed n = nest_then (Unit {0}) opens_nesting n AfterArgument (Argument d I O) (Argument (suc d) I' O') _ (argument d inner operand) _ (right_argument d I I' O O' inner operand ready n) (nest_argument n)
      (λ a. nest_map (Unit {0}) opens_nesting n AfterArguments (Further d I O) (Further (suc d) I' O') _ (λ as'. a ∷ as') (right_further d I I' O O' inner operand ready n)
      (nest_many (Unit {0}) opens_nesting AfterArguments AfterArgument (mark t.Comma) (λ _. Argument d I O) (λ _. Argument (suc d) I' O') (λ _. argument d inner operand) (λ n _. right_argument d I I' O O' inner operand ready n)
      (λ _. some_argument d I O ready.some) (omega arith, refl) comma_no (λ x stop. (seven_six x stop.0, stop.1)) comma_argument comma_quiet (λ n _. nest_argument n) n))
      (λ held a. ([], a ∷ [], to_map (Further d I O) (λ as'. a ∷ as') [] [] refl))

  nest_close : {B : Type 0} (n : ℕ) (b : B) → Nest n (Unit {0}) opens_nesting (TokenThen (mark t.CloseParenthesis) (λ _. Empty b)) (one (mark t.CloseParenthesis) >>= (λ _. pure b))
  nest_close n b = nest_led (Unit {0}) opens_nesting n (mark t.CloseParenthesis) _ _ shut_quiet (λ _. nest_pure (Unit {0}) opens_nesting n (Empty b) b)

  nest_rest : (n : ℕ) → Nest n (Unit {0}) opens_nesting (ArgumentsTail d I O) (rest_of_arguments d inner operand)
  unfolding rest_of_arguments closed_arguments
  nest_rest n = nest_quiet (Unit {0}) opens_nesting n (mark t.CloseParenthesis) (λ _. Empty []) _ (λ _. pure []) _ shut_quiet (λ _. nest_pure (Unit {0}) opens_nesting (n - 1) (Empty []) [])
      (nest_then (Unit {0}) opens_nesting n AfterArguments (ListedArguments d I O) (ListedArguments (suc d) I' O') _ (listed_arguments d inner operand) _ (right_listed d I I' O O' inner operand ready n) (nest_listed n)
      (λ as'. nest_close n as') (λ held as'. some_close as'))

  nest_group : (p : Place) (n : ℕ) → Nest n (Unit {0}) opens_nesting (GroupTail d I O p) (rest_of_group d inner operand p)
  unfolding rest_of_group
  nest_group p n = nest_then (Unit {0}) opens_nesting n (Stop 6) I I' _ inner _ (ready.right n) (nest_inner n) (λ x. nest_close n (e.Parenthesised p x)) (λ held x. some_close (e.Parenthesised p x))

-- what stands in parentheses, where they may open
abbrev Inward : ℕ → Rule Expr → Reader Expr → Type 0
Inward zero I inner = Unit {0}
Inward (suc d) I inner = (n : ℕ) → Nest n (Unit {0}) opens_nesting I inner

under_by : {B : Type 0} (d n : ℕ) (I I' : Rule Expr) (R : Rule B) (inner : Reader Expr) (q : Reader B) → Inner d I I' inner → Inward d I inner →
    (Ready I I' inner → ((n : ℕ) → Nest n (Unit {0}) opens_nesting I inner) → Nest n (Unit {0}) opens_nesting R q × SomeOf R) → Under d n R q
under_by zero n I I' R inner q inside inward to = tt
under_by (suc d) n I I' R inner q inside inward to = to inside inward

-- ---- operands

module _ (d : ℕ) (I I' O O' : Rule Expr) (inner operand : Reader Expr) (inside : Inner d I I' inner) (signed : Below d (Stop 1) O O' operand)
    (inward : Inward d I inner) (onward : (n : ℕ) → Under d n O operand) where
  nest_arguments : (n : ℕ) → ReadsInner d n (Arguments d I O) (arguments d inner operand)
  unfolding arguments
  nest_arguments n = nest_opens d n call (λ _. Then (ArgumentsTail d I O) (λ as'. Empty (Some as'))) (Empty None) _ (pure None) call_opens
      (λ p. under_by d (n - 1) I I' _ inner _ inside inward (λ ready nest. (
        nest_map (Unit {0}) opens_nesting (n - 1) Anything (ArgumentsTail d I O) (ArgumentsTail (suc d) I' O') (rest_of_arguments d inner operand) (λ as'. Some as') (right_rest d I I' O O' inner operand ready (n - 1)) (nest_rest d I I' O O' inner operand ready nest (n - 1)),
        some_then (ArgumentsTail d I O) _ (some_rest d I O) (λ as'. some_only (Some as')),
      )))
      (nest_pure (May d) opens_nesting n (Empty None) None)

  pub nest_called : (n : ℕ) → ReadsInner d n (Call d I O) (called d inner operand)
  unfolding called
  nest_called n = nest_opens d n call (λ _. ArgumentsTail d I O) Fail _ refuse call_opens
      (λ p. under_by d (n - 1) I I' _ inner _ inside inward (λ ready nest. (nest_rest d I I' O O' inner operand ready nest (n - 1), some_rest d I O)))
      (nest_refuse (May d) opens_nesting n Fail)

  nest_member : (n : ℕ) → ReadsInner d n (Member d I O) (member d inner operand)
  unfolding member
  nest_member n = nest_led (May d) opens_nesting n identifier _ _ identifier_quiet (λ w. nest_map (May d) opens_nesting n (Stop 0) (Arguments d I O) (Arguments (suc d) I' O') (arguments d inner operand) (λ as'. (w, as'))
      (right_arguments d I I' O O' inner operand inside signed n) (nest_arguments n))

  nest_super : (p : Place) (n : ℕ) → ReadsInner d n (SuperTail d I O p) (rest_of_super d inner operand p)
  unfolding rest_of_super
  nest_super p n = nest_led (May d) opens_nesting n (mark t.Dot) _ _ dot_quiet (λ _. nest_led (May d) opens_nesting n identifier _ _ identifier_quiet
      (λ w. nest_map (May d) opens_nesting n (Stop 0) (Call d I O) (Call (suc d) I' O') (called d inner operand) (λ as'. e.Super p w as') (right_called d I I' O O' inner operand inside signed n) (nest_called n)))

  nest_alone : {A : Type 0} (g : A → Expr) (n : ℕ) (a : A) → ReadsInner d n (Empty (g a)) (pure (g a))
  nest_alone g n a = nest_pure (May d) opens_nesting n (Empty (g a)) (g a)

  nest_magnitude : (n : ℕ) (p : Place) → ReadsInner d n (Magnitude d I O p) (magnitude d inner operand p)
  unfolding magnitude
  nest_magnitude n p = nest_led (May d) opens_nesting n (integer (2 ^ 63)) _ _ (λ x a takes. quiet_number 2 refl x (integer_number (2 ^ 63) x a takes)) (λ v. nest_pure (May d) opens_nesting n (Empty (e.Negative p v.1)) (e.Negative p v.1))

  nest_named : (n : ℕ) (w : Identifier) → ReadsInner d n (Then (Arguments d I O) (λ as'. Empty (e.Name w as'))) (named d inner operand w)
  unfolding named
  nest_named n w = nest_map (May d) opens_nesting n (Stop 0) (Arguments d I O) (Arguments (suc d) I' O') (arguments d inner operand) (λ as'. e.Name w as') (right_arguments d I I' O O' inner operand inside signed n) (nest_arguments n)

  nest_implicit : (n : ℕ) (p : Place) → ReadsInner d n (Then (Member d I O) (λ m. Empty (e.ImplicitMember p m.0 m.1))) (implicit d inner operand p)
  unfolding implicit
  nest_implicit n p = nest_map (May d) opens_nesting n (Stop 0) (Member d I O) (Member (suc d) I' O') (member d inner operand) (λ m. e.ImplicitMember p m.0 m.1) (right_member d I I' O O' inner operand inside signed n) (nest_member n)

  nest_later : (n : ℕ) → ReadsInner d n (FromTrue d I I' O O' inner operand inside signed d I O) (later_primary d inner operand)
  unfolding later_primary
  nest_later n =
      nest_quiet (May d) opens_nesting n (mark t.True) _ _ _ _ (quiet_mark t.True refl) (nest_alone (λ p. e.Boolean p true) (n - 1))
      (nest_quiet (May d) opens_nesting n (mark t.False) _ _ _ _ (quiet_mark t.False refl) (nest_alone (λ p. e.Boolean p false) (n - 1))
      (nest_quiet (May d) opens_nesting n negative _ _ _ _ negative_quiet (nest_magnitude (n - 1))
      (nest_opens d n (mark t.OpenParenthesis) (GroupTail d I O) _ (rest_of_group d inner operand) _ parenthesis_opens
      (λ p. under_by d (n - 1) I I' _ inner _ inside inward (λ ready nest. (nest_group d I I' O O' inner operand ready nest p (n - 1), some_then I _ ready.some (λ x. some_close (e.Parenthesised p x)))))
      (nest_quiet (May d) opens_nesting n (mark t.Dot) _ Fail _ refuse dot_quiet (nest_implicit (n - 1)) (nest_refuse (May d) opens_nesting n Fail)))))

  nest_primary : (n : ℕ) → ReadsInner d n (Primary d I O) (primary d inner operand)
  unfolding primary
  nest_primary n =
      nest_quiet (May d) opens_nesting n identifier _ _ _ _ identifier_quiet (nest_named (n - 1))
      (nest_quiet (May d) opens_nesting n (integer (2 ^ 63 - 1)) _ _ _ _ (λ x a takes. quiet_number 2 refl x (integer_number (2 ^ 63 - 1) x a takes)) (nest_alone (λ (v : Place × ℕ). e.Integer v.0 v.1) (n - 1))
      (nest_quiet (May d) opens_nesting n string _ _ _ _ (λ x a takes. quiet_number 3 refl x (string_number x a takes)) (nest_alone (λ (v : Place × List ℕ). e.String v.0 v.1) (n - 1))
      (nest_quiet (May d) opens_nesting n (mark t.SelfValue) _ _ _ _ (quiet_mark t.SelfValue refl) (nest_alone (λ p. e.SelfValue p) (n - 1))
      (nest_quiet (May d) opens_nesting n (mark t.SelfType) _ _ _ _ (quiet_mark t.SelfType refl) (nest_alone (λ p. e.SelfType p) (n - 1))
      (nest_quiet (May d) opens_nesting n (mark t.Super) _ _ _ _ (quiet_mark t.Super refl) (λ p. nest_super p (n - 1)) (nest_later n))))))

  nest_post : (n : ℕ) → ReadsInner d n (Postfix d I O) (post d inner operand)
  unfolding post links
  nest_post n = nest_then (May d) opens_nesting n (Stop 0) (Primary d I O) (Primary (suc d) I' O') (Links d I O) (primary d inner operand) _ (right_primary d I I' O O' inner operand inside signed n) (nest_primary n)
      (λ x. nest_map (May d) opens_nesting n (Stop 1) (Dotted d I I' O O' inner operand inside signed d I O) (Dotted d I I' O O' inner operand inside signed (suc d) I' O') _ (members x) (right_dotted d I I' O O' inner operand inside signed n)
      (nest_many (May d) opens_nesting (Stop 1) (Stop 0) (mark t.Dot) (λ _. Member d I O) (λ _. Member (suc d) I' O') (λ _. member d inner operand) (λ n _. right_member d I I' O O' inner operand inside signed n) (λ _. some_member d I O) (omega arith)
      (dot_stops d I I' O O' inner operand inside signed) (zero_one d I I' O O' inner operand inside signed) (dot_next d I I' O O' inner operand inside signed) dot_quiet (λ n _. nest_member n) n))
      (λ held x. ([], members x [], to_map (Many (mark t.Dot) (λ _. Member d I O)) (members x) [] [] refl))

  nest_unary_of : (n : ℕ) → ReadsInner d n (UnaryOf d I O) (unary_of d inner operand)
  unfolding unary_of
  nest_unary_of n = nest_opens d n sign (λ s. Then O (λ x. Empty (e.Prefix s.0 s.1 x))) (Postfix d I O) _ (post d inner operand) sign_opens_nesting
      (λ s. signs d s (n - 1) signed (onward (n - 1))) (nest_post n)
    where
      signs : (f : ℕ) (s : Place × PrefixOperator) (n : ℕ) → Below f (Stop 1) O O' operand → Under f n O operand → Under f n (Then O (λ x. Empty (e.Prefix s.0 s.1 x))) (operand >>= (λ x. pure (e.Prefix s.0 s.1 x)))
      signs zero s n below under = tt
      signs (suc f) s n below under = (
        nest_map (Unit {0}) opens_nesting n (Stop 1) O O' operand (λ x. e.Prefix s.0 s.1 x) (below.0 n) under.0,
        some_then O (λ x. Empty (e.Prefix s.0 s.1 x)) under.1 (λ x. some_only (e.Prefix s.0 s.1 x)),
      )

-- ---- levels

module _ (d h : ℕ) (low : h < 6) (f : Piece → Option InfixOperator) (at : (p : Piece) (a : InfixOperator) → f p ≡ Some a → rank p ≡ suc h) (quiet : (p : Piece) (a : InfixOperator) → f p ≡ Some a → opens_nesting p ≡ true → ⊥)
    (S S' : Rule Expr) (p : Reader Expr) (right : (n : ℕ) → ReadsRule n (Stop h) S S' p) (some : SomeOf S) (nest : (n : ℕ) → ReadsInner d n S p) where
  nest_chain : (n : ℕ) → ReadsInner d n (Chain f S) (chain_of f p)
  unfolding chain_of
  nest_chain n = nest_then (May d) opens_nesting n (Stop h) S S' _ p _ (right n) (nest n)
      (λ x. nest_map (May d) opens_nesting n (Stop (suc h)) (Many f (Turn h low f at S S' p right some S)) (Many f (Turn h low f at S S' p right some S')) _ (chain x) (right_turns h low f at S S' p right some n)
      (nest_many (May d) opens_nesting (Stop (suc h)) (Stop h) f (Turn h low f at S S' p right some S) (Turn h low f at S S' p right some S') _ (λ n o. right_map n (Stop h) S S' p (λ y. (o, y)) (right n)) (turn h low f at S S' p right some)
      (ended h low f at S S' p right some) (stops h low f at S S' p right some) (ends h low f at S S' p right some) (next h low f at S S' p right some) quiet
      (λ n o. nest_map (May d) opens_nesting n (Stop h) S S' p (λ y. (o, y)) (right n) (nest n)) n))
      (λ held x. ([], chain x [], to_map (Many f (λ o. Then S (λ y. Empty (o, y)))) (chain x) [] [] refl))

  nest_pair : (n : ℕ) → ReadsInner d n (Pair f S) (pair_of f p)
  unfolding pair_of
  nest_pair n = nest_then (May d) opens_nesting n (Stop h) S S' _ p _ (right n) (nest n)
      (λ x. nest_quiet (May d) opens_nesting n f (λ o. Then S (λ y. Empty (chain x (one_operand o y)))) (Empty x) _ _ quiet
      (λ o. nest_map (May d) opens_nesting (n - 1) (Stop h) S S' p (λ y. chain x (one_operand o y)) (right (n - 1)) (nest (n - 1))) (nest_pure (May d) opens_nesting n (Empty x) x))
      (λ held x. ([], x, inr (refl, refl)))

nest_levels : (d : ℕ) (S S' : Rule Expr) (p : Reader Expr) → ((n : ℕ) → ReadsRule n (Stop 1) S S' p) → SomeOf S → ((n : ℕ) → ReadsInner d n S p) → (n : ℕ) → ReadsInner d n (Levels S) (levels p)
nest_levels d S S' p right some nest =
    let s1 = some_chain (infix_by multiplying) S some in
    let s2 = some_chain (infix_by adding) _ s1 in
    let s3 = some_pair (infix_by comparing) _ s2 in
    let s4 = some_chain (infix_by conjoining) _ s3 in
    let r1 = right_chain 1 (omega arith) (infix_by multiplying) multiplication_rank S S' p right some in
    let r2 = right_chain 2 (omega arith) (infix_by adding) addition_rank _ _ _ r1 s1 in
    let r3 = right_pair 3 (omega arith) (infix_by comparing) comparison_rank _ _ _ r2 s2 in
    let r4 = right_chain 4 (omega arith) (infix_by conjoining) conjunction_rank _ _ _ r3 s3 in
    nest_chain d 5 (omega arith) (infix_by disjoining) disjunction_rank disjunction_quiet _ _ _ r4 s4
    (nest_chain d 4 (omega arith) (infix_by conjoining) conjunction_rank conjunction_quiet _ _ _ r3 s3
    (nest_pair d 3 (omega arith) (infix_by comparing) comparison_rank comparison_quiet _ _ _ r2 s2
    (nest_chain d 2 (omega arith) (infix_by adding) addition_rank addition_quiet _ _ _ r1 s1
    (nest_chain d 1 (omega arith) (infix_by multiplying) multiplication_rank multiplication_quiet S S' p right some nest))))

-- ---- by how much nesting is open

pub nest_unary : (d n : ℕ) → ReadsInner d n (Unary d) (unary d)
unfolding Unary unary
nest_unary zero = nest_unary_of 0 Fail (Levels (Unary 0)) Fail (Unary 0) refuse refuse (some_levels (Unary 0) (some_unary 0)) (some_unary 0) tt (λ n. tt)
nest_unary (suc d) = nest_unary_of (suc d) (Levels (Unary d)) (Levels (Unary (suc d))) (Unary d) (Unary (suc d)) (levels (unary d)) (unary d) (ready_expr d) (right_unary d, some_unary d)
    (λ n. lifted d n (nest_levels d (Unary d) (Unary (suc d)) (unary d) (right_unary d) (some_unary d) (nest_unary d) n)) (λ n. (lifted d n (nest_unary d n), some_unary d))
  where
    lifted : {A : Type 0} {S : Rule A} {p : Reader A} (d n : ℕ) → ReadsInner d n S p → Nest n (Unit {0}) opens_nesting S p
    lifted d n nest = record { keeps = λ us x more fits is le. (tt, (nest.keeps us x more fits is le).1); deep = nest.deep }

pub nest_expr : (d n : ℕ) → ReadsInner d n (IsExpr d) (expr d)
nest_expr d = nest_levels d (Unary d) (Unary (suc d)) (unary d) (right_unary d) (some_unary d) (nest_unary d)
