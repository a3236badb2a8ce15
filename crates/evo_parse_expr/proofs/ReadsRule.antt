-- The readers of types and expressions read the grammar's rules.
use Rattle.std.proofs.Common.{◌≡◌, ℕ, zero, suc, ◌+◌, ◌-◌, ◌<◌, ◌^◌, true, false, List, [], ◌∷◌, ◌++◌, Option, Some, None, refl, sym, ap, subst, arith, inl, inr, append-nil}
use Rattle.evo_base.specs.declared.place.Place.{Place}
use Rattle.evo_lex.specs.Front.{when}
use Rattle.evo_combinators.specs.Rule.{Empty, Fail, TokenThen, One, Or, Then, Many, SomeOf}
use Rattle.evo_combinators.specs.Reader.{◌>>=◌, pure, refuse, alt, one, bar, many}
use Rattle.evo_combinators.specs.Laws.{first, Skips, ReadsRule, Begins, of_first}
use Rattle.evo_combinators.proofs.Laws.{right_pure, right_nothing, right_then, right_alt, right_alt_by, right_bar, right_same, right_stop, right_many, right_map, right_one, of_map, to_map, many_first, begins_then, begins_led, begins_or, begins_nothing, begins_as, begins_skips, stop_skips}
use Rattle.evo_combinators.proofs.Sequences.{right_led, right_led_by, some_only, some_led, some_then}
use Rattle.evo_combinators.proofs.Labels.{right_label}
use Rattle.evo_tree.specs.declared.name.Identifier.{Identifier}
use Rattle.evo_tree.specs.declared.expression.InfixOperator.{InfixOperator}
use Rattle.evo_tree.specs.declared.expression.PrefixOperator.{PrefixOperator}
use Rattle.evo_tree.specs.declared.expression.Expr.{Expr}
use Rattle.evo_tree.specs.declared.expression.Expr.TheVariants as e
use Rattle.evo_tree.specs.declared.terminal.Terminal.{Terminal}
use Rattle.evo_tree.specs.declared.terminal.Terminal.TheVariants as t
use Rattle.evo_tree.specs.Terminals.{number_of}
use Rattle.evo_tree.specs.Pieces.{Piece, is_terminal, is_identifier, mark, identifier, integer, string, negative, sign, call}
use Rattle.evo_tree.specs.Types.{type_head, plain_name, type_name, IsType}
use Rattle.evo_tree.specs.Expressions.{Rule, Nested, infix_by, multiplying, adding, comparing, conjoining, disjoining, chain, members, one_operand, Chain, Pair, Levels, Argument, ListedArguments, ArgumentsTail, Arguments, Call, Member, GroupTail, SuperTail, Magnitude, Primary, Links, Postfix, UnaryOf, Unary, IsExpr}
use Rattle.evo_parse_expr.specs.Read.{Reader, opens, type_of, chain_of, pair_of, levels, labelled, argument, listed_arguments, closed_arguments, rest_of_arguments, arguments, called, member, rest_of_group, rest_of_super, magnitude, named, implicit, later_primary, primary, links, post, unary_of, unary, expr}
use Rattle.evo_parse_expr.proofs.Tests.{mark_is, mark_number, mark_takes, identifier_is, identifier_takes, identifier_number, integer_number, string_number, negative_number, call_rank, dot_rank, comma_rank, call_takes, an_integer, some_integer, closing_rank, colon_rank, multiplication_rank, addition_rank, comparison_rank, conjunction_rank, disjunction_rank, rank, Stop, a_piece, piece_is, some_identifier, not_terminal, Opens, First, first_opens, first_unsigned, sign_opens, opens_not, first_mark, first_identifier, first_integer, first_string, first_negative}

-- anything may follow
abbrev pub Anything : Option Piece → Type 0
Anything x = Unit {0}

pub some_behind : {B : Type 0} (k : Terminal) (S : Place → Rule B) → ((p : Place) → SomeOf (S p)) → SomeOf (TokenThen (mark k) S)
some_behind k S some = let (p, takes) = mark_takes k (a_piece k) (piece_is k) in some_led (mark k) S (a_piece k) p takes (some p)

pub some_named : {B : Type 0} (S : Identifier → Rule B) → ((n : Identifier) → SomeOf (S n)) → SomeOf (TokenThen identifier S)
some_named S some = let (n, takes) = some_identifier in some_led identifier S (a_piece t.Identifier) n takes (some n)

-- ---- by how much nesting may open

-- reads with one nesting less, or none
abbrev pub Below : {A : Type 0} → ℕ → (Option Piece → Type 0) → Rule A → Rule A → Reader A → Type 0
Below zero Stop S S' p = SomeOf S'
Below (suc d) Stop S S' p = ((n : ℕ) → ReadsRule n Stop S S' p) × SomeOf S

pub below_by : {A B : Type 0} (d : ℕ) (Stop Stop' : Option Piece → Type 0) (S S' : Rule A) (R R' : Rule B) (p : Reader A) (q : Reader B) →
    (((n : ℕ) → ReadsRule n Stop S S' p) → SomeOf S → (n : ℕ) → ReadsRule n Stop' R R' q) → (SomeOf S → SomeOf R) → (SomeOf S' → SomeOf R') →
    Below d Stop S S' p → Below d Stop' R R' q
below_by zero Stop Stop' S S' R R' p q right some some' b = some' b
below_by (suc d) Stop Stop' S S' R R' p q right some some' b = (right b.0 b.1, some b.1)

pub right_opens : {A B : Type 0} (d n : ℕ) (Stop : Option Piece → Type 0) (f : Piece → Option A) (S S' : A → Rule B) (R R' : Rule B) (q : A → Reader B) (r : Reader B) →
    ((a : A) → Below d Stop (S a) (S' a) (q a)) → ReadsRule n Stop R R' r →
    ((us rest : List Piece) (b : B) → R us b → Stop (first rest) → Skips f (us ++ rest)) →
    ReadsRule n Stop (Or (Nested d f S) R) (Or (TokenThen f S') R') (opens d f q r)
right_opens zero n Stop f S S' R R' q r below right apart =
    right_same n Stop R (Or (TokenThen f S') R') (Or Fail R) (Or (TokenThen f S') R') (bar f r) (λ us b s. inr s) (λ us b s. elim s [ inl none ↦ absurd none | inr r ↦ r ]) (λ us b s. s)
    (right_bar n Stop f S' R R' r right below apart)
right_opens (suc d) n Stop f S S' R R' q r below right apart =
    right_alt n Stop f S S' R R' q r (λ a. (below a).0 (n - 1)) right (λ a. (below a).1) apart

pub begins_nested : {A B : Type 0} (d : ℕ) (P : Piece → Type 0) (f : Piece → Option A) (S : A → Rule B) → ((p : Piece) (a : A) → f p ≡ Some a → P p) → Begins P (Nested d f S)
begins_nested zero P f S to = begins_nothing P
begins_nested (suc d) P f S to = begins_led P f S to

-- ---- alternatives in the order of their terminals

-- begins with terminals of higher numbers
abbrev pub Above : {A : Type 0} → ℕ → Rule A → Type 0
Above k R = Begins (λ p. k < number_of p.terminal) R

pub above_led : {A B : Type 0} (k j : ℕ) → k < j → (f : Piece → Option A) → ((p : Piece) (a : A) → f p ≡ Some a → number_of p.terminal ≡ j) → (S : A → Rule B) → (R : Rule B) → Above j R → Above k (Or (TokenThen f S) R)
above_led k j less f at S R above =
    begins_or (λ p. k < number_of p.terminal) (TokenThen f S) R (begins_led (λ p. k < number_of p.terminal) f S (λ p a takes. omega (arith, at p a takes)))
    (begins_as (λ p. j < number_of p.terminal) (λ p. k < number_of p.terminal) R (λ p h. omega arith) above)

pub above_nested : {A B : Type 0} (d k j : ℕ) → k < j → (f : Piece → Option A) → ((p : Piece) (a : A) → f p ≡ Some a → number_of p.terminal ≡ j) → (S : A → Rule B) → (R : Rule B) → Above j R → Above k (Or (Nested d f S) R)
above_nested d k j less f at S R above =
    begins_or (λ p. k < number_of p.terminal) (Nested d f S) R (begins_nested d (λ p. k < number_of p.terminal) f S (λ p a takes. omega (arith, at p a takes)))
    (begins_as (λ p. j < number_of p.terminal) (λ p. k < number_of p.terminal) R (λ p h. omega arith) above)

above_skips : {A B : Type 0} (j : ℕ) (f : Piece → Option A) → ((p : Piece) (a : A) → f p ≡ Some a → number_of p.terminal ≡ j) → (R : Rule B) → Above j R →
    (us rest : List Piece) (b : B) → R us b → Skips f (us ++ rest)
above_skips j f at R above us rest b s = begins_skips (λ p. j < number_of p.terminal) f R above (λ p a h takes. omega (arith, h, at p a takes)) us rest b s

-- one more alternative, whose terminal comes before those of the others
pub right_or : {A B : Type 0} (Stop : Option Piece → Type 0) (j : ℕ) (f : Piece → Option A) → ((p : Piece) (a : A) → f p ≡ Some a → number_of p.terminal ≡ j) →
    (S S' : A → Rule B) (R R' : Rule B) (q : A → Reader B) (r : Reader B) → ((n : ℕ) (a : A) → ReadsRule n Stop (S a) (S' a) (q a)) → ((a : A) → SomeOf (S' a)) →
    ((n : ℕ) → ReadsRule n Stop R R' r) → Above j R → (n : ℕ) → ReadsRule n Stop (Or (TokenThen f S) R) (Or (TokenThen f S') R') (alt f q r)
right_or Stop j f at S S' R R' q r right some other above n =
    right_alt_by n Stop f S S' R R' q r (λ a. right (n - 1) a) (other n) some (λ us rest b s stop. above_skips j f at R above us rest b s)

-- ---- types

-- no dot
abbrev pub NoDot : Option Piece → Type 0
NoDot x = of_first (is_terminal t.Dot) x ≡ false

pub dot_no : (p : Piece) (a : Place) → NoDot (Some p) → mark t.Dot p ≡ Some a → ⊥
dot_no p a stop takes = let is = mark_is t.Dot p a takes in cc

abbrev pub Names : Rule (List (List ℕ))
Names = Many (mark t.Dot) (λ _. One plain_name)

pub some_plain : SomeOf (One plain_name)
unfolding plain_name
some_plain = let (p, n, takes) = plain in (p ∷ [], n, (p, n, [], refl, takes, (refl, refl)))
  where
    plain : (p : Piece) × (n : List ℕ) × (plain_name p ≡ Some n)
    plain = (a_piece t.Identifier, (a_piece t.Identifier).text, let (n, takes) = some_identifier in ap (λ b. when b (a_piece t.Identifier).text) (identifier_is (a_piece t.Identifier) n takes))

pub right_names : (n : ℕ) → ReadsRule n NoDot Names Names (many (mark t.Dot) (λ _. one plain_name))
right_names = right_many NoDot Anything (mark t.Dot) (λ _. One plain_name) (λ _. One plain_name) (λ _. one plain_name) (λ n _. right_one n Anything tt plain_name) (λ _. some_plain) refl
    dot_no (λ x stop. tt) (λ p a takes. tt)

pub right_type : (n : ℕ) → ReadsRule n NoDot IsType IsType type_of
unfolding type_of
right_type n =
    right_then n Anything NoDot (One type_head) (One type_head) (λ h. Then Names (λ names. Empty (type_name h names))) (λ h. Then Names (λ names. Empty (type_name h names))) (one type_head) _
    (right_one n Anything tt type_head) (λ h. right_map n NoDot Names Names _ (type_name h) (right_names n)) (λ h vs rest b s stop. tt)
    (λ h. some_then Names (λ names. Empty (type_name h names)) ([], [], refl) (λ names. some_only (type_name h names))) refl

pub some_type : SomeOf IsType
unfolding type_head a_piece
some_type =
    let (n, takes) = some_identifier in
    let p = a_piece t.Identifier in
    let head : type_head p ≡ Some (p.place, p.text) = ap (λ b. when b (p.place, p.text)) (identifier_is p n takes) in
    some_then (One type_head) (λ h. Then Names (λ names. Empty (type_name h names))) (p ∷ [], (p.place, p.text), (p, (p.place, p.text), [], refl, head, (refl, refl)))
    (λ h. some_then Names (λ names. Empty (type_name h names)) ([], [], refl) (λ names. some_only (type_name h names)))

-- ---- levels of operators

module _ (h : ℕ) (low : h < 6) (f : Piece → Option InfixOperator) (at : (p : Piece) (a : InfixOperator) → f p ≡ Some a → rank p ≡ suc h)
    (S S' : Rule Expr) (p : Reader Expr) (right : (n : ℕ) → ReadsRule n (Stop h) S S' p) (some : SomeOf S) where
  abbrev pub Turn : Rule Expr → InfixOperator → Rule (InfixOperator × Expr)
  Turn R o = Then R (λ y. Empty (o, y))

  pub ended : Stop (suc h) None
  ended = omega arith

  pub stops : (x : Piece) (a : InfixOperator) → Stop (suc h) (Some x) → f x ≡ Some a → ⊥
  stops x a stop takes = omega (arith, at x a takes)

  pub ends : (x : Option Piece) → Stop (suc h) x → Stop h x
  ends x stop = omega arith

  pub next : (x : Piece) (a : InfixOperator) → f x ≡ Some a → Stop h (Some x)
  next x a takes = omega (arith, at x a takes)

  pub turn : (o : InfixOperator) → SomeOf (Turn S o)
  turn o = some_then S (λ y. Empty (o, y)) some (λ y. some_only (o, y))

  pub right_turns : (n : ℕ) → ReadsRule n (Stop (suc h)) (Many f (Turn S)) (Many f (Turn S')) (many f (λ o. p >>= (λ y. pure (o, y))))
  right_turns = right_many (Stop (suc h)) (Stop h) f (Turn S) (Turn S') _ (λ n o. right_map n (Stop h) S S' p (λ y. (o, y)) (right n)) turn ended stops ends next

  pub right_chain : (n : ℕ) → ReadsRule n (Stop (suc h)) (Chain f S) (Chain f S') (chain_of f p)
  unfolding chain_of
  right_chain n =
      right_then n (Stop h) (Stop (suc h)) S S' (λ x. Then (Many f (Turn S)) (λ os. Empty (chain x os))) (λ x. Then (Many f (Turn S')) (λ os. Empty (chain x os))) p _
      (right n)
      (λ x. right_map n (Stop (suc h)) (Many f (Turn S)) (Many f (Turn S')) _ (chain x) (right_turns n))
      (λ x vs rest b s stop. let (os, m, is) = of_map (Many f (Turn S)) (chain x) vs b s in many_first (Stop (suc h)) (Stop h) f (Turn S) ends next vs rest os m stop)
      (λ x. ([], chain x [], to_map (Many f (Turn S)) (chain x) [] [] refl)) ended

  abbrev pub OneMore : Rule Expr → Expr → Rule Expr
  OneMore R x = Or (TokenThen f (λ o. Then R (λ y. Empty (chain x (one_operand o y))))) (Empty x)

  one_more_first : (x : Expr) (vs rest : List Piece) (b : Expr) → OneMore S x vs b → Stop (suc h) (first rest) → Stop h (first (vs ++ rest))
  one_more_first x vs rest b (inl (u, a, ws, cut, takes, s)) stop = subst (λ y. Stop h (first (y ++ rest))) (sym cut) (next u a takes)
  one_more_first x vs rest b (inr (none, is)) stop = subst (λ y. Stop h (first (y ++ rest))) (sym none) (ends (first rest) stop)

  pub right_pair : (n : ℕ) → ReadsRule n (Stop (suc h)) (Pair f S) (Pair f S') (pair_of f p)
  unfolding pair_of
  right_pair n =
      right_then n (Stop h) (Stop (suc h)) S S' (OneMore S) (OneMore S') p _ (right n)
      (λ x. right_alt n (Stop (suc h)) f (λ o. Then S (λ y. Empty (chain x (one_operand o y)))) (λ o. Then S' (λ y. Empty (chain x (one_operand o y)))) (Empty x) (Empty x) _ _
      (λ o. right_stop (n - 1) (Stop h) (Stop (suc h)) _ _ _ ends ended (right_map (n - 1) (Stop h) S S' p (λ y. chain x (one_operand o y)) (right (n - 1))))
      (right_pure n (Stop (suc h)) ended x)
      (λ o. some_then S (λ y. Empty (chain x (one_operand o y))) some (λ y. some_only (chain x (one_operand o y))))
      (stop_skips (Stop (suc h)) f stops x))
      one_more_first (λ x. ([], x, inr (refl, refl))) ended

pub some_chain : (f : Piece → Option InfixOperator) (S : Rule Expr) → SomeOf S → SomeOf (Chain f S)
some_chain f S some = some_then S _ some (λ x. ([], chain x [], to_map (Many f (λ o. Then S (λ y. Empty (o, y)))) (chain x) [] [] refl))

pub some_pair : (f : Piece → Option InfixOperator) (S : Rule Expr) → SomeOf S → SomeOf (Pair f S)
some_pair f S some = some_then S _ some (λ x. ([], x, inr (refl, refl)))

pub some_levels : (S : Rule Expr) → SomeOf S → SomeOf (Levels S)
some_levels S some = some_chain (infix_by disjoining) _ (some_chain (infix_by conjoining) _ (some_pair (infix_by comparing) _ (some_chain (infix_by adding) _ (some_chain (infix_by multiplying) S some))))

module _ (S S' : Rule Expr) (p : Reader Expr) (right : (n : ℕ) → ReadsRule n (Stop 1) S S' p) (some : SomeOf S) where
  pub right_levels : (n : ℕ) → ReadsRule n (Stop 6) (Levels S) (Levels S') (levels p)
  right_levels =
      let s1 = some_chain (infix_by multiplying) S some in
      let s2 = some_chain (infix_by adding) _ s1 in
      let s3 = some_pair (infix_by comparing) _ s2 in
      let s4 = some_chain (infix_by conjoining) _ s3 in
      right_chain 5 (omega arith) (infix_by disjoining) disjunction_rank _ _ _
      (right_chain 4 (omega arith) (infix_by conjoining) conjunction_rank _ _ _
      (right_pair 3 (omega arith) (infix_by comparing) comparison_rank _ _ _
      (right_chain 2 (omega arith) (infix_by adding) addition_rank _ _ _
      (right_chain 1 (omega arith) (infix_by multiplying) multiplication_rank S S' p right some) s1) s2) s3) s4

pub begins_levels : (P : Piece → Type 0) (S : Rule Expr) → Begins P S → Begins P (Levels S)
begins_levels P S b = begins_then P _ _ (begins_then P _ _ (begins_then P _ _ (begins_then P _ _ (begins_then P S _ b))))

-- an operand is an expression of each level
alone_chain : (f : Piece → Option InfixOperator) (S : Rule Expr) (us : List Piece) (x : Expr) → S us x → Chain f S us x
alone_chain f S us x s = (x, us, [], sym (append-nil us), s, to_map (Many f (λ o. Then S (λ y. Empty (o, y)))) (chain x) [] [] refl)

alone_pair : (f : Piece → Option InfixOperator) (S : Rule Expr) (us : List Piece) (x : Expr) → S us x → Pair f S us x
alone_pair f S us x s = (x, us, [], sym (append-nil us), s, inr (refl, refl))

pub alone_levels : (S : Rule Expr) (us : List Piece) (x : Expr) → S us x → Levels S us x
alone_levels S us x s =
    alone_chain (infix_by disjoining) _ us x (alone_chain (infix_by conjoining) _ us x (alone_pair (infix_by comparing) _ us x (alone_chain (infix_by adding) _ us x (alone_chain (infix_by multiplying) S us x s))))

-- ---- what stands in parentheses

-- expressions in parentheses: their reader, what they begin with, and that a name alone is one
pub record Ready (I I' : Rule Expr) (inner : Reader Expr) : Type 0 where
  pub right : (n : ℕ) → ReadsRule n (Stop 6) I I' inner
  pub some : SomeOf I
  pub begins : Begins Opens I
  pub named : (p : Piece) → is_identifier p ≡ true → (x : Expr) × I (p ∷ []) x

-- where no nesting may open there are none
abbrev pub Inner : ℕ → Rule Expr → Rule Expr → Reader Expr → Type 0
Inner zero I I' inner = SomeOf I'
Inner (suc d) I I' inner = Ready I I' inner

inner_by : {B : Type 0} (d : ℕ) (Stop' : Option Piece → Type 0) (I I' : Rule Expr) (R R' : Rule B) (inner : Reader Expr) (q : Reader B) →
    (Ready I I' inner → (n : ℕ) → ReadsRule n Stop' R R' q) → (SomeOf I → SomeOf R) → (SomeOf I' → SomeOf R') → Inner d I I' inner → Below d Stop' R R' q
inner_by zero Stop' I I' R R' inner q right some some' b = some' b
inner_by (suc d) Stop' I I' R R' inner q right some some' b = (right b, some b.some)

-- no mark behind a label, and nothing that an expression goes on with
abbrev pub AfterArgument : Option Piece → Type 0
AfterArgument x = Stop 6 x × (of_first (is_terminal t.Colon) x ≡ false)

-- no further argument either
abbrev pub AfterArguments : Option Piece → Type 0
AfterArguments x = Stop 7 x × (of_first (is_terminal t.Colon) x ≡ false)

abbrev pub Arg : Type 0
Arg = Option Identifier × Expr

pub comma_argument : (p : Piece) (a : Place) → mark t.Comma p ≡ Some a → AfterArgument (Some p)
comma_argument p a takes = (omega (arith, comma_rank p a takes), not_terminal t.Colon p (λ same. omega (arith, mark_number t.Comma p a takes)))

pub comma_no : (p : Piece) (a : Place) → AfterArguments (Some p) → mark t.Comma p ≡ Some a → ⊥
comma_no p a stop takes = omega (arith, stop.0, comma_rank p a takes)

pub seven_six : (x : Option Piece) → Stop 7 x → Stop 6 x
seven_six x stop = omega arith

-- a closing parenthesis goes on with no expression and no list of arguments
closing_arguments : (p : Piece) (a : Place) → mark t.CloseParenthesis p ≡ Some a → AfterArguments (Some p)
closing_arguments p a takes = (omega (arith, closing_rank p a takes), not_terminal t.Colon p (λ same. omega (arith, mark_number t.CloseParenthesis p a takes)))

-- what a rule that begins with this terminal may follow
led_follows : {A B : Type 0} (Stop' : Option Piece → Type 0) (f : Piece → Option A) (S : A → Rule B) → ((p : Piece) (a : A) → f p ≡ Some a → Stop' (Some p)) →
    (vs rest : List Piece) (b : B) → TokenThen f S vs b → Stop' (first (vs ++ rest))
led_follows Stop' f S at vs rest b (p, a, ws, cut, takes, s) = subst (λ y. Stop' (first (y ++ rest))) (sym cut) (at p a takes)

-- a list with its closing parenthesis
pub close : {B : Type 0} (n : ℕ) (b : B) → ReadsRule n Anything (TokenThen (mark t.CloseParenthesis) (λ _. Empty b)) (TokenThen (mark t.CloseParenthesis) (λ _. Empty b)) (one (mark t.CloseParenthesis) >>= (λ _. pure b))
close n b = right_led (mark t.CloseParenthesis) n Anything (λ _. Empty b) (λ _. Empty b) (λ _. pure b) tt (λ _. right_pure n Anything tt b) (λ _. some_only b)

pub some_close : {B : Type 0} (b : B) → SomeOf (TokenThen (mark t.CloseParenthesis) (λ _. Empty b))
some_close b = some_behind t.CloseParenthesis (λ _. Empty b) (λ _. some_only b)

module _ (d : ℕ) (I O : Rule Expr) where
  abbrev pub Further : Rule (List Arg)
  Further = Many (mark t.Comma) (λ _. Argument d I O)

  pub some_argument : SomeOf I → SomeOf (Argument d I O)
  some_argument (us, x, s) = (us, (None, x), inr (x, us, [], sym (append-nil us), s, (refl, refl)))

  pub some_rest : SomeOf (ArgumentsTail d I O)
  some_rest = let (us, as', s) = some_behind {B = List Arg} t.CloseParenthesis (λ _. Empty []) (λ _. some_only []) in (us, as', inl s)

  pub some_arguments : SomeOf (Arguments d I O)
  some_arguments = ([], None, inr (refl, refl))

  pub some_member : SomeOf (Member d I O)
  some_member = some_named (λ n. Then (Arguments d I O) (λ as'. Empty (n, as'))) (λ n. some_then (Arguments d I O) _ some_arguments (λ as'. some_only (n, as')))

module _ (d : ℕ) (I I' O O' : Rule Expr) (inner operand : Reader Expr) (ready : Ready I I' inner) where
  pub full : (x : Expr) → I [] x → ⊥
  full x s = let (p, vs, cut, h) = ready.begins [] x s in cc

  colon_stops : (p : Piece) → is_terminal t.Colon p ≡ true → Stop 6 (Some p)
  colon_stops p is = omega (arith, colon_rank p is)

  pub right_argument : (n : ℕ) → ReadsRule n AfterArgument (Argument d I O) (Argument (suc d) I' O') (argument d inner operand)
  unfolding labelled
  right_argument = right_label (Stop 6) I I' inner identifier (mark t.Colon) is_identifier (is_terminal t.Colon) (λ n x. (Some n, x)) (λ x. (None, x))
      ready.right ready.some full identifier_is identifier_takes (mark_is t.Colon) (mark_takes t.Colon) (a_piece t.Colon) (piece_is t.Colon) colon_stops ready.named

  pub right_further : (n : ℕ) → ReadsRule n AfterArguments (Further d I O) (Further (suc d) I' O') (many (mark t.Comma) (λ _. argument d inner operand))
  right_further = right_many AfterArguments AfterArgument (mark t.Comma) (λ _. Argument d I O) (λ _. Argument (suc d) I' O') (λ _. argument d inner operand) (λ n _. right_argument n) (λ _. some_argument d I O ready.some)
      (omega arith, refl) comma_no (λ x stop. (seven_six x stop.0, stop.1)) comma_argument

  pub right_listed : (n : ℕ) → ReadsRule n AfterArguments (ListedArguments d I O) (ListedArguments (suc d) I' O') (listed_arguments d inner operand)
  unfolding listed_arguments
  right_listed n =
      right_then n AfterArgument AfterArguments _ _ _ _ (argument d inner operand) _ (right_argument n)
      (λ a. right_map n AfterArguments (Further d I O) (Further (suc d) I' O') _ (λ as'. a ∷ as') (right_further n))
      (λ a vs rest b s stop. let (as', m, is) = of_map (Further d I O) (λ as'. a ∷ as') vs b s in
      many_first AfterArguments AfterArgument (mark t.Comma) (λ _. Argument d I O) (λ x stop. (seven_six x stop.0, stop.1)) comma_argument vs rest as' m stop)
      (λ a. ([], a ∷ [], to_map (Further d I O) (λ as'. a ∷ as') [] [] refl)) (omega arith, refl)

  pub right_closed : (n : ℕ) → ReadsRule n Anything (Then (ListedArguments d I O) (λ as'. TokenThen (mark t.CloseParenthesis) (λ _. Empty as'))) (Then (ListedArguments (suc d) I' O') (λ as'. TokenThen (mark t.CloseParenthesis) (λ _. Empty as'))) (closed_arguments d inner operand)
  unfolding closed_arguments
  right_closed n = right_then n AfterArguments Anything _ _ _ _ (listed_arguments d inner operand) _ (right_listed n) (λ as'. close n as')
      (λ as' vs rest b s stop. led_follows AfterArguments (mark t.CloseParenthesis) (λ _. Empty as') closing_arguments vs rest b s) some_close tt

  -- an argument begins with no closing parenthesis
  abbrev pub Shut : Piece → Type 0
  Shut p = (a : Place) → mark t.CloseParenthesis p ≡ Some a → ⊥

  begins_argument : Begins Shut (Argument d I O)
  begins_argument =
      begins_or Shut (TokenThen identifier _) (Then I _) (begins_led Shut identifier _ (λ p n takes a shut. omega (arith, identifier_number p n takes, mark_number t.CloseParenthesis p a shut)))
      (begins_then Shut I (λ x. Empty (None, x)) (begins_as Opens Shut I (λ p h a takes. opens_not t.CloseParenthesis refl p a h takes) ready.begins))

  pub right_rest : (n : ℕ) → ReadsRule n Anything (ArgumentsTail d I O) (ArgumentsTail (suc d) I' O') (rest_of_arguments d inner operand)
  unfolding rest_of_arguments
  right_rest n =
      right_alt n Anything (mark t.CloseParenthesis) (λ _. Empty []) (λ _. Empty []) _ _ _ (closed_arguments d inner operand) (λ _. right_pure (n - 1) Anything tt []) (right_closed n) (λ _. some_only [])
      (λ us rest b s stop. begins_skips Shut (mark t.CloseParenthesis) _ (begins_then Shut (ListedArguments d I O) (λ as'. TokenThen (mark t.CloseParenthesis) (λ _. Empty as')) (begins_then Shut (Argument d I O) _ begins_argument)) (λ p a h takes. h a takes) us rest b s)

  pub right_group : (p : Place) (n : ℕ) → ReadsRule n Anything (GroupTail d I O p) (GroupTail (suc d) I' O' p) (rest_of_group d inner operand p)
  unfolding rest_of_group
  right_group p n = right_then n (Stop 6) Anything I I' _ _ inner _ (ready.right n) (λ x. close n (e.Parenthesised p x))
      (λ x vs rest b s stop. seven_six (first (vs ++ rest)) (led_follows AfterArguments (mark t.CloseParenthesis) (λ _. Empty (e.Parenthesised p x)) closing_arguments vs rest b s).0) (λ x. some_close (e.Parenthesised p x)) tt

-- ---- operands

module _ (d : ℕ) (I I' O O' : Rule Expr) (inner operand : Reader Expr) (inside : Inner d I I' inner) (signed : Below d (Stop 1) O O' operand) where
  pub zero_stop : (x : Option Piece) → Stop 0 x → Anything x
  zero_stop x stop = tt

  calling : (p : Piece) (a : Place) → Stop 0 (Some p) → call p ≡ Some a → ⊥
  calling p a stop takes = omega (arith, call_rank p a takes)

  pub wide : {A : Type 0} (S S' : Rule A) (p : Reader A) → ((n : ℕ) → ReadsRule n Anything S S' p) → (n : ℕ) → ReadsRule n (Stop 0) S S' p
  wide S S' p right n = right_stop n Anything (Stop 0) S S' p zero_stop (omega arith) (right n)

  pub right_arguments : (n : ℕ) → ReadsRule n (Stop 0) (Arguments d I O) (Arguments (suc d) I' O') (arguments d inner operand)
  unfolding arguments
  right_arguments n =
      right_opens d n (Stop 0) call (λ _. Then (ArgumentsTail d I O) (λ as'. Empty (Some as'))) (λ _. Then (ArgumentsTail (suc d) I' O') (λ as'. Empty (Some as'))) (Empty None) (Empty None) _ (pure None)
      (λ p. inner_by d (Stop 0) I I' _ _ inner _
      (λ ready n. right_map n (Stop 0) (ArgumentsTail d I O) (ArgumentsTail (suc d) I' O') (rest_of_arguments d inner operand) (λ as'. Some as') (wide _ _ _ (right_rest d I I' O O' inner operand ready) n))
      (λ some. some_then (ArgumentsTail d I O) _ (some_rest d I O) (λ as'. some_only (Some as'))) (λ some. some_then (ArgumentsTail (suc d) I' O') _ (some_rest (suc d) I' O') (λ as'. some_only (Some as'))) inside)
      (right_pure n (Stop 0) (omega arith) None) (stop_skips (Stop 0) call calling None)

  pub right_called : (n : ℕ) → ReadsRule n (Stop 0) (Call d I O) (Call (suc d) I' O') (called d inner operand)
  unfolding called
  right_called n =
      right_opens d n (Stop 0) call (λ _. ArgumentsTail d I O) (λ _. ArgumentsTail (suc d) I' O') Fail Fail _ refuse
      (λ p. inner_by d (Stop 0) I I' _ _ inner _ (λ ready n. wide _ _ _ (right_rest d I I' O O' inner operand ready) n) (λ some. some_rest d I O) (λ some. some_rest (suc d) I' O') inside)
      (right_nothing n (Stop 0) (omega arith)) (λ us rest b s stop. absurd s)

  pub right_member : (n : ℕ) → ReadsRule n (Stop 0) (Member d I O) (Member (suc d) I' O') (member d inner operand)
  unfolding member
  right_member n = right_led identifier n (Stop 0) _ _ _ (omega arith) (λ w. right_map n (Stop 0) (Arguments d I O) (Arguments (suc d) I' O') (arguments d inner operand) (λ as'. (w, as')) (right_arguments n))
      (λ w. some_then (Arguments d I O) _ (some_arguments d I O) (λ as'. some_only (w, as')))

  -- ---- what stands alone

  pub some_call : SomeOf (Call (suc d) I' O')
  some_call = let (p, takes) = call_takes in let (us, as', s) = some_rest (suc d) I' O' in (a_piece t.OpenParenthesis ∷ us, as', inl (a_piece t.OpenParenthesis, p, us, refl, takes, s))

  pub some_super : (p : Place) → SomeOf (SuperTail (suc d) I' O' p)
  some_super p = some_behind t.Dot _ (λ _. some_named _ (λ n. some_then (Call (suc d) I' O') (λ as'. Empty (e.Super p n as')) some_call (λ as'. some_only (e.Super p n as'))))

  pub right_super : (p : Place) (n : ℕ) → ReadsRule n (Stop 0) (SuperTail d I O p) (SuperTail (suc d) I' O' p) (rest_of_super d inner operand p)
  unfolding rest_of_super
  right_super p n =
      right_led_by (mark t.Dot) n (Stop 0) _ _ _ (omega arith) (λ _. right_led_by identifier n (Stop 0) _ _ _ (omega arith)
      (λ w. right_map n (Stop 0) (Call d I O) (Call (suc d) I' O') (called d inner operand) (λ as'. e.Super p w as') (right_called n))
      (λ w. some_then (Call (suc d) I' O') (λ as'. Empty (e.Super p w as')) some_call (λ as'. some_only (e.Super p w as'))))
      (λ _. some_named _ (λ w. some_then (Call (suc d) I' O') (λ as'. Empty (e.Super p w as')) some_call (λ as'. some_only (e.Super p w as'))))

  alone : {A : Type 0} (g : A → Expr) (n : ℕ) (a : A) → ReadsRule n (Stop 0) (Empty (g a)) (Empty (g a)) (pure (g a))
  alone g n a = right_pure n (Stop 0) (omega arith) (g a)

  pub right_magnitude : (p : Place) (n : ℕ) → ReadsRule n (Stop 0) (Magnitude d I O p) (Magnitude (suc d) I' O' p) (magnitude d inner operand p)
  unfolding magnitude
  right_magnitude p n = right_led (integer (2 ^ 63)) n (Stop 0) _ _ _ (omega arith) (λ v. alone (λ (z : Place × ℕ). e.Negative p z.1) n v) (λ v. some_only (e.Negative p v.1))

  pub some_magnitude : (p : Place) → SomeOf (Magnitude (suc d) I' O' p)
  some_magnitude p = let (v, takes) = some_integer in some_led (integer (2 ^ 63)) (λ v. Empty (e.Negative p v.1)) an_integer v takes (some_only (e.Negative p v.1))

  pub right_named : (n : ℕ) (w : Identifier) → ReadsRule n (Stop 0) (Then (Arguments d I O) (λ as'. Empty (e.Name w as'))) (Then (Arguments (suc d) I' O') (λ as'. Empty (e.Name w as'))) (named d inner operand w)
  unfolding named
  right_named n w = right_map n (Stop 0) (Arguments d I O) (Arguments (suc d) I' O') (arguments d inner operand) (λ as'. e.Name w as') (right_arguments n)

  pub right_implicit : (n : ℕ) (p : Place) → ReadsRule n (Stop 0) (Then (Member d I O) (λ m. Empty (e.ImplicitMember p m.0 m.1))) (Then (Member (suc d) I' O') (λ m. Empty (e.ImplicitMember p m.0 m.1))) (implicit d inner operand p)
  unfolding implicit
  right_implicit n p = right_map n (Stop 0) (Member d I O) (Member (suc d) I' O') (member d inner operand) (λ m. e.ImplicitMember p m.0 m.1) (right_member n)

  -- the alternatives of an operand, the later ones first
  abbrev pub FromDot : ℕ → Rule Expr → Rule Expr → Rule Expr
  FromDot f R Q = Or (TokenThen (mark t.Dot) (λ p. Then (Member f R Q) (λ m. Empty (e.ImplicitMember p m.0 m.1)))) Fail

  abbrev pub FromParenthesis : ℕ → Rule Expr → Rule Expr → Rule Expr
  FromParenthesis f R Q = Or (Nested f (mark t.OpenParenthesis) (GroupTail f R Q)) (FromDot f R Q)

  abbrev pub FromTrue : ℕ → Rule Expr → Rule Expr → Rule Expr
  FromTrue f R Q = Or (TokenThen (mark t.True) (λ p. Empty (e.Boolean p true))) (Or (TokenThen (mark t.False) (λ p. Empty (e.Boolean p false))) (Or (TokenThen negative (Magnitude f R Q)) (FromParenthesis f R Q)))

  above_dot : (k : ℕ) → k < 73 → (f : ℕ) (R Q : Rule Expr) → Above k (FromDot f R Q)
  above_dot k less f R Q = above_led k 73 less (mark t.Dot) (mark_number t.Dot) _ Fail (begins_nothing (λ p. 73 < number_of p.terminal))

  above_parenthesis : (k : ℕ) → k < 66 → Above k (FromParenthesis d I O)
  above_parenthesis k less = above_nested d k 66 less (mark t.OpenParenthesis) (mark_number t.OpenParenthesis) _ _ (above_dot 66 (omega arith) d I O)

  above_negative : (k : ℕ) → k < 40 → Above k (Or (TokenThen negative (Magnitude d I O)) (FromParenthesis d I O))
  above_negative k less = above_led k 40 less negative negative_number _ _ (above_parenthesis 40 (omega arith))

  above_false : (k : ℕ) → k < 37 → Above k (Or (TokenThen (mark t.False) (λ p. Empty (e.Boolean p false))) (Or (TokenThen negative (Magnitude d I O)) (FromParenthesis d I O)))
  above_false k less = above_led k 37 less (mark t.False) (mark_number t.False) _ _ (above_negative 37 (omega arith))

  above_true : (k : ℕ) → k < 36 → Above k (FromTrue d I O)
  above_true k less = above_led k 36 less (mark t.True) (mark_number t.True) _ _ (above_false 36 (omega arith))

  pub right_dot : (n : ℕ) → ReadsRule n (Stop 0) (FromDot d I O) (FromDot (suc d) I' O') (alt (mark t.Dot) (implicit d inner operand) refuse)
  right_dot = right_or (Stop 0) 73 (mark t.Dot) (mark_number t.Dot) _ _ Fail Fail _ refuse right_implicit
      (λ p. some_then (Member (suc d) I' O') _ (some_member (suc d) I' O') (λ m. some_only (e.ImplicitMember p m.0 m.1))) (λ n. right_nothing n (Stop 0) (omega arith)) (begins_nothing (λ p. 73 < number_of p.terminal))

  pub right_parenthesis : (n : ℕ) → ReadsRule n (Stop 0) (FromParenthesis d I O) (Or (TokenThen (mark t.OpenParenthesis) (GroupTail (suc d) I' O')) (FromDot (suc d) I' O')) (opens d (mark t.OpenParenthesis) (rest_of_group d inner operand) (alt (mark t.Dot) (implicit d inner operand) refuse))
  right_parenthesis n =
      right_opens d n (Stop 0) (mark t.OpenParenthesis) (GroupTail d I O) (GroupTail (suc d) I' O') (FromDot d I O) (FromDot (suc d) I' O') (rest_of_group d inner operand) _
      (λ p. inner_by d (Stop 0) I I' _ _ inner _ (λ ready n. wide _ _ _ (right_group d I I' O O' inner operand ready p) n)
      (λ some. some_then I _ some (λ x. some_close (e.Parenthesised p x))) (λ some. some_then I' _ some (λ x. some_close (e.Parenthesised p x))) inside)
      (right_dot n) (λ us rest b s stop. above_skips 66 (mark t.OpenParenthesis) (mark_number t.OpenParenthesis) (FromDot d I O) (above_dot 66 (omega arith) d I O) us rest b s)

  pub right_later : (n : ℕ) → ReadsRule n (Stop 0) (FromTrue d I O) (FromTrue (suc d) I' O') (later_primary d inner operand)
  unfolding later_primary
  right_later =
      right_or (Stop 0) 36 (mark t.True) (mark_number t.True) _ _ _ _ _ _ (alone (λ p. e.Boolean p true)) (λ p. some_only (e.Boolean p true))
      (right_or (Stop 0) 37 (mark t.False) (mark_number t.False) _ _ _ _ _ _ (alone (λ p. e.Boolean p false)) (λ p. some_only (e.Boolean p false))
      (right_or (Stop 0) 40 negative negative_number _ _ _ _ _ _ (λ n p. right_magnitude p n) some_magnitude right_parenthesis (above_parenthesis 40 (omega arith)))
      (above_negative 37 (omega arith))) (above_false 36 (omega arith))

  abbrev pub FromSelf : ℕ → Rule Expr → Rule Expr → Rule Expr
  FromSelf f R Q = Or (TokenThen (mark t.SelfValue) (λ p. Empty (e.SelfValue p))) (Or (TokenThen (mark t.SelfType) (λ p. Empty (e.SelfType p))) (Or (TokenThen (mark t.Super) (SuperTail f R Q)) (FromTrue f R Q)))

  above_super : (k : ℕ) → k < 27 → Above k (Or (TokenThen (mark t.Super) (SuperTail d I O)) (FromTrue d I O))
  above_super k less = above_led k 27 less (mark t.Super) (mark_number t.Super) _ _ (above_true 27 (omega arith))

  above_type : (k : ℕ) → k < 26 → Above k (Or (TokenThen (mark t.SelfType) (λ p. Empty (e.SelfType p))) (Or (TokenThen (mark t.Super) (SuperTail d I O)) (FromTrue d I O)))
  above_type k less = above_led k 26 less (mark t.SelfType) (mark_number t.SelfType) _ _ (above_super 26 (omega arith))

  above_self : (k : ℕ) → k < 25 → Above k (FromSelf d I O)
  above_self k less = above_led k 25 less (mark t.SelfValue) (mark_number t.SelfValue) _ _ (above_type 25 (omega arith))

  above_string : (k : ℕ) → k < 3 → Above k (Or (TokenThen string (λ v. Empty (e.String v.0 v.1))) (FromSelf d I O))
  above_string k less = above_led k 3 less string string_number _ _ (above_self 3 (omega arith))

  above_integer : (k : ℕ) → k < 2 → Above k (Or (TokenThen (integer (2 ^ 63 - 1)) (λ v. Empty (e.Integer v.0 v.1))) (Or (TokenThen string (λ v. Empty (e.String v.0 v.1))) (FromSelf d I O)))
  above_integer k less = above_led k 2 less (integer (2 ^ 63 - 1)) (integer_number (2 ^ 63 - 1)) _ _ (above_string 2 (omega arith))

  pub right_primary : (n : ℕ) → ReadsRule n (Stop 0) (Primary d I O) (Primary (suc d) I' O') (primary d inner operand)
  unfolding primary
  right_primary =
      right_or (Stop 0) 0 identifier identifier_number _ _ _ _ _ _ right_named (λ w. some_then (Arguments (suc d) I' O') _ (some_arguments (suc d) I' O') (λ as'. some_only (e.Name w as')))
      (right_or (Stop 0) 2 (integer (2 ^ 63 - 1)) (integer_number (2 ^ 63 - 1)) _ _ _ _ _ _ (alone (λ (v : Place × ℕ). e.Integer v.0 v.1)) (λ v. some_only (e.Integer v.0 v.1))
      (right_or (Stop 0) 3 string string_number _ _ _ _ _ _ (alone (λ (v : Place × List ℕ). e.String v.0 v.1)) (λ v. some_only (e.String v.0 v.1))
      (right_or (Stop 0) 25 (mark t.SelfValue) (mark_number t.SelfValue) _ _ _ _ _ _ (alone (λ p. e.SelfValue p)) (λ p. some_only (e.SelfValue p))
      (right_or (Stop 0) 26 (mark t.SelfType) (mark_number t.SelfType) _ _ _ _ _ _ (alone (λ p. e.SelfType p)) (λ p. some_only (e.SelfType p))
      (right_or (Stop 0) 27 (mark t.Super) (mark_number t.Super) _ _ _ _ _ _ (λ n p. right_super p n) some_super right_later (above_true 27 (omega arith)))
      (above_super 26 (omega arith))) (above_type 25 (omega arith))) (above_self 3 (omega arith))) (above_string 2 (omega arith))) (above_integer 0 (omega arith))

  -- ---- members and signs

  pub zero_one : (x : Option Piece) → Stop 1 x → Stop 0 x
  zero_one x stop = omega arith

  pub dot_next : (p : Piece) (a : Place) → mark t.Dot p ≡ Some a → Stop 0 (Some p)
  dot_next p a takes = omega (arith, dot_rank p a takes)

  pub dot_stops : (p : Piece) (a : Place) → Stop 1 (Some p) → mark t.Dot p ≡ Some a → ⊥
  dot_stops p a stop takes = omega (arith, dot_rank p a takes)

  abbrev pub Dotted : ℕ → Rule Expr → Rule Expr → Rule (List (Identifier × Option (List Arg)))
  Dotted f R Q = Many (mark t.Dot) (λ _. Member f R Q)

  pub right_dotted : (n : ℕ) → ReadsRule n (Stop 1) (Dotted d I O) (Dotted (suc d) I' O') (many (mark t.Dot) (λ _. member d inner operand))
  right_dotted = right_many (Stop 1) (Stop 0) (mark t.Dot) (λ _. Member d I O) (λ _. Member (suc d) I' O') (λ _. member d inner operand) (λ n _. right_member n) (λ _. some_member d I O) (omega arith) dot_stops zero_one dot_next

  pub right_links : (x : Expr) (n : ℕ) → ReadsRule n (Stop 1) (Links d I O x) (Links (suc d) I' O' x) (links d inner operand x)
  unfolding links
  right_links x n =
      right_map n (Stop 1) (Dotted d I O) (Dotted (suc d) I' O') _ (members x) (right_dotted n)

  pub right_post : (n : ℕ) → ReadsRule n (Stop 1) (Postfix d I O) (Postfix (suc d) I' O') (post d inner operand)
  unfolding post
  right_post n =
      right_then n (Stop 0) (Stop 1) (Primary d I O) (Primary (suc d) I' O') (Links d I O) (Links (suc d) I' O') (primary d inner operand) _ (right_primary n) (λ x. right_links x n)
      (λ x vs rest b s stop. let (ms, m, is) = of_map (Dotted d I O) (members x) vs b s in many_first (Stop 1) (Stop 0) (mark t.Dot) (λ _. Member d I O) zero_one dot_next vs rest ms m stop)
      (λ x. ([], members x [], to_map (Dotted d I O) (members x) [] [] refl)) (omega arith)

-- what an operand begins with
module _ (d : ℕ) (I O : Rule Expr) where
  begins_primary : Begins First (Primary d I O)
  begins_primary =
      begins_or First (TokenThen identifier _) _ (begins_led First identifier _ first_identifier)
      (begins_or First (TokenThen (integer (2 ^ 63 - 1)) _) _ (begins_led First (integer (2 ^ 63 - 1)) _ (first_integer (2 ^ 63 - 1)))
      (begins_or First (TokenThen string _) _ (begins_led First string _ first_string)
      (begins_or First (TokenThen (mark t.SelfValue) _) _ (begins_led First (mark t.SelfValue) _ (first_mark t.SelfValue refl))
      (begins_or First (TokenThen (mark t.SelfType) _) _ (begins_led First (mark t.SelfType) _ (first_mark t.SelfType refl))
      (begins_or First (TokenThen (mark t.Super) _) _ (begins_led First (mark t.Super) _ (first_mark t.Super refl))
      (begins_or First (TokenThen (mark t.True) _) _ (begins_led First (mark t.True) _ (first_mark t.True refl))
      (begins_or First (TokenThen (mark t.False) _) _ (begins_led First (mark t.False) _ (first_mark t.False refl))
      (begins_or First (TokenThen negative _) _ (begins_led First negative _ first_negative)
      (begins_or First (Nested d (mark t.OpenParenthesis) _) _ (begins_nested d First (mark t.OpenParenthesis) _ (first_mark t.OpenParenthesis refl))
      (begins_or First (TokenThen (mark t.Dot) _) Fail (begins_led First (mark t.Dot) _ (first_mark t.Dot refl)) (begins_nothing First)))))))))))

  pub begins_post : Begins First (Postfix d I O)
  begins_post = begins_then First (Primary d I O) (Links d I O) begins_primary

  begins_unary_of : Begins Opens (UnaryOf d I O)
  begins_unary_of =
      begins_or Opens (Nested d sign (λ s. Then O (λ x. Empty (e.Prefix s.0 s.1 x)))) (Postfix d I O) (begins_nested d Opens sign (λ s. Then O (λ x. Empty (e.Prefix s.0 s.1 x))) sign_opens)
      (begins_as First Opens (Postfix d I O) first_opens begins_post)

  -- a name alone is an operand
  named_unary_of : (p : Piece) → is_identifier p ≡ true → (x : Expr) × UnaryOf d I O (p ∷ []) x
  named_unary_of p is =
      let (n, takes) = identifier_takes p is in
      (e.Name n None, inr (e.Name n None, p ∷ [], [], refl, inl (p, n, [], refl, takes, (None, [], [], refl, inr (refl, refl), (refl, refl))), to_map (Many (mark t.Dot) (λ _. Member d I O)) (members (e.Name n None)) [] [] refl))

  pub some_unary_of : SomeOf (UnaryOf d I O)
  some_unary_of = let (n, takes) = some_identifier in let (x, s) = named_unary_of (a_piece t.Identifier) (identifier_is (a_piece t.Identifier) n takes) in (a_piece t.Identifier ∷ [], x, s)

module _ (d : ℕ) (I I' O O' : Rule Expr) (inner operand : Reader Expr) (inside : Inner d I I' inner) (signed : Below d (Stop 1) O O' operand) where
  abbrev pub Sign : Rule Expr → Place × PrefixOperator → Rule Expr
  Sign Q s = Then Q (λ x. Empty (e.Prefix s.0 s.1 x))

  pub right_unary_of : (n : ℕ) → ReadsRule n (Stop 1) (UnaryOf d I O) (UnaryOf (suc d) I' O') (unary_of d inner operand)
  unfolding unary_of
  right_unary_of n =
      right_opens d n (Stop 1) sign (Sign O) (Sign O') (Postfix d I O) (Postfix (suc d) I' O') _ (post d inner operand)
      (λ s. below_by d (Stop 1) (Stop 1) O O' (Sign O s) (Sign O' s) operand _ (λ right some n. right_map n (Stop 1) O O' operand (λ x. e.Prefix s.0 s.1 x) (right n))
      (λ some. some_then O _ some (λ x. some_only (e.Prefix s.0 s.1 x))) (λ some. some_then O' _ some (λ x. some_only (e.Prefix s.0 s.1 x))) signed)
      (right_post d I I' O O' inner operand inside signed n)
      (λ us rest b s stop. begins_skips First sign (Postfix d I O) (begins_post d I O) (λ p a h takes. first_unsigned p a h takes) us rest b s)

-- ---- by how much nesting is open

pub some_unary : (d : ℕ) → SomeOf (Unary d)
unfolding Unary
some_unary zero = some_unary_of 0 Fail Fail
some_unary (suc d) = some_unary_of (suc d) (Levels (Unary d)) (Unary d)

begins_unary : (d : ℕ) → Begins Opens (Unary d)
unfolding Unary
begins_unary zero = begins_unary_of 0 Fail Fail
begins_unary (suc d) = begins_unary_of (suc d) (Levels (Unary d)) (Unary d)

named_unary : (d : ℕ) (p : Piece) → is_identifier p ≡ true → (x : Expr) × Unary d (p ∷ []) x
unfolding Unary
named_unary zero = named_unary_of 0 Fail Fail
named_unary (suc d) = named_unary_of (suc d) (Levels (Unary d)) (Unary d)

pub some_expr : (d : ℕ) → SomeOf (IsExpr d)
some_expr d = some_levels (Unary d) (some_unary d)

pub begins_expr : (d : ℕ) → Begins Opens (IsExpr d)
begins_expr d = begins_levels Opens (Unary d) (begins_unary d)

pub named_expr : (d : ℕ) (p : Piece) → is_identifier p ≡ true → (x : Expr) × IsExpr d (p ∷ []) x
named_expr d p is = let (x, s) = named_unary d p is in (x, alone_levels (Unary d) (p ∷ []) x s)

ready_by : (d : ℕ) → ((n : ℕ) → ReadsRule n (Stop 1) (Unary d) (Unary (suc d)) (unary d)) → Ready (Levels (Unary d)) (Levels (Unary (suc d))) (levels (unary d))
ready_by d right = record {
  right = right_levels (Unary d) (Unary (suc d)) (unary d) right (some_unary d);
  some = some_levels (Unary d) (some_unary d);
  begins = begins_levels Opens (Unary d) (begins_unary d);
  named = named_expr d;
}

pub right_unary : (d n : ℕ) → ReadsRule n (Stop 1) (Unary d) (Unary (suc d)) (unary d)
unfolding Unary unary
right_unary zero = right_unary_of 0 Fail (Levels (Unary 0)) Fail (Unary 0) refuse refuse (some_levels (Unary 0) (some_unary 0)) (some_unary 0)
right_unary (suc d) = right_unary_of (suc d) (Levels (Unary d)) (Levels (Unary (suc d))) (Unary d) (Unary (suc d)) (levels (unary d)) (unary d)
    (ready_by d (right_unary d))
    (right_unary d, some_unary d)

pub ready_expr : (d : ℕ) → Ready (Levels (Unary d)) (Levels (Unary (suc d))) (levels (unary d))
ready_expr d = ready_by d (right_unary d)

pub right_expr : (d n : ℕ) → ReadsRule n (Stop 6) (IsExpr d) (IsExpr (suc d)) (expr d)
right_expr d = right_levels (Unary d) (Unary (suc d)) (unary d) (right_unary d) (some_unary d)
