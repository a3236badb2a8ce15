-- What statements begin with, and what may follow them.
use Rattle.std.specs.Prelude.{◌≡◌, ℕ, ◌<◌, ◌==◌, ◌||◌, Bool, true, false, not, List, [], ◌∷◌, map, Option, Some, None, ◌⊎◌, refl}
use Rattle.std.proofs.Common.{sym, ◌∙◌, ap, subst, inl, inr, arith}
use Rattle.evo_base.specs.declared.place.Place.{Place}
use Rattle.evo_combinators.specs.Laws.{of_first}
use Rattle.evo_tree.specs.declared.expression.Expr.{Expr}
use Rattle.evo_tree.specs.declared.statement.AssignmentOperator.{AssignmentOperator}
use Rattle.evo_tree.specs.declared.terminal.Terminal.{Terminal}
use Rattle.evo_tree.specs.declared.terminal.Terminal.TheVariants as t
use Rattle.evo_tree.specs.declared.terminal.Role.TheVariants as role
use Rattle.evo_tree.specs.Terminals.{number_of}
use Rattle.evo_tree.specs.Pieces.{Piece, mark, has_role}
use Rattle.evo_tree.specs.Statements.{assigns_to, is_here, is_below, is_later}
use Rattle.evo_parse_expr.proofs.Tests.{rank_at, rank, infix_rank, if_between, Stop, same_terminal, opens_expr, Opens}
use Rattle.evo_parse_expr.proofs.Among.{among, apart, not_among, disjoint, within, widened, among_at}
use Rattle.evo_parse_expr.proofs.Tests.{mark_number, number_is}
use Rattle.evo_parse_stmt.proofs.Tests.{code, assigning_codes, assigns_codes}
use Rattle.evo_parse_stmt.proofs.Fits.{Leads}

-- ---- terminals

no : {A : Type 0} → false ≡ true → A
no e = absurd cc

abbrev pub expression_codes : List ℕ
expression_codes = map number_of (t.Identifier ∷ t.Integer ∷ t.String ∷ t.SelfValue ∷ t.SelfType ∷ t.Super ∷ t.True ∷ t.False ∷ t.Minus ∷ t.Not ∷ t.OpenParenthesis ∷ t.Dot ∷ [])

opens_among : (k : Terminal) → opens_expr k ≡ true → among expression_codes (number_of k) ≡ true
opens_among t.Identifier e = refl
opens_among t.Integer e = refl
opens_among t.String e = refl
opens_among t.SelfValue e = refl
opens_among t.SelfType e = refl
opens_among t.Super e = refl
opens_among t.True e = refl
opens_among t.False e = refl
opens_among t.Minus e = refl
opens_among t.Not e = refl
opens_among t.OpenParenthesis e = refl
opens_among t.Dot e = refl
opens_among k e = no e

between_any : (b : Bool) (n : ℕ) → 6 < n → 6 < if_between b n
between_any true n h = h
between_any false n h = omega arith

-- what binds to nothing before it on any line
quiet_any : (k : Terminal) (between below : Bool) → 6 < rank_at k true false → 6 < rank_at k between below
quiet_any t.OpenParenthesis between below h = absurd (omega arith)
quiet_any t.Dot between below h = absurd (omega arith)
quiet_any t.Comma between below h = omega arith
quiet_any k between below h = between_any between (infix_rank k) h

between_eight : (b : Bool) → 6 < if_between b 8
between_eight true = omega arith
between_eight false = omega arith

fresh_rank : (k : Terminal) (between below : Bool) → opens_expr k ≡ true → (between ≡ true → number_of k ≡ number_of t.Minus → ⊥) → below ≡ true → (number_of k ≡ number_of t.Dot → ⊥) → 6 < rank_at k between below
fresh_rank t.Identifier between below e minus is dot = between_eight between
fresh_rank t.Integer between below e minus is dot = between_eight between
fresh_rank t.String between below e minus is dot = between_eight between
fresh_rank t.SelfValue between below e minus is dot = between_eight between
fresh_rank t.SelfType between below e minus is dot = between_eight between
fresh_rank t.Super between below e minus is dot = between_eight between
fresh_rank t.True between below e minus is dot = between_eight between
fresh_rank t.False between below e minus is dot = between_eight between
fresh_rank t.Not between below e minus is dot = between_eight between
fresh_rank t.Minus true below e minus is dot = absurd (minus refl refl)
fresh_rank t.Minus false below e minus is dot = omega arith
fresh_rank t.OpenParenthesis between true e minus is dot = omega arith
fresh_rank t.OpenParenthesis between false e minus is dot = no is
fresh_rank t.Dot between below e minus is dot = absurd (dot refl)
fresh_rank k between below e minus is dot = no e

-- ---- what may follow

-- nothing that a statement goes on with
pub record After (p : Piece) : Type 0 where
  pub quiet : 6 < rank p
  pub no_else : code p ≡ number_of t.Else → ⊥
  pub no_operator : among assigning_codes (code p) ≡ true → ⊥
  pub no_value : Opens p → p.below ≡ true

abbrev pub AfterStmt : Option Piece → Type 0
AfterStmt None = Unit {0}
AfterStmt (Some p) = After p

abbrev pub closing : List ℕ
closing = map number_of (t.CloseBrace ∷ t.Case ∷ t.Default ∷ t.At ∷ [])

-- what may follow the last of some statements
abbrev pub Closes : Option Piece → Type 0
Closes None = Unit {0}
Closes (Some p) = among closing (code p) ≡ true

-- begins an expression, and is no operator between operands
pub record Fresh (p : Piece) : Type 0 where
  pub opens : Opens p
  pub no_minus : has_role role.Infix p ≡ true → code p ≡ number_of t.Minus → ⊥

abbrev pub leading : List ℕ
leading = map number_of (t.Let ∷ t.Var ∷ t.Underscore ∷ t.If ∷ t.While ∷ t.Return ∷ t.Break ∷ t.Continue ∷ t.Switch ∷ [])

-- begins a statement
abbrev pub Starts : Piece → Type 0
Starts = Leads Fresh leading

-- begins the first statement (true), or a further one with its separator
abbrev pub BeginsAt : Bool → Piece → Type 0
BeginsAt true p = Starts p
BeginsAt false p = (code p ≡ number_of t.Semicolon) ⊎ ((p.below ≡ true) × (code p ≡ number_of t.Dot → ⊥) × Starts p)

-- a terminal that nothing before it goes on with
pub after_at : (k : Terminal) (p : Piece) → code p ≡ number_of k → 6 < rank_at k true false → among (number_of t.Else ∷ assigning_codes) (number_of k) ≡ false → opens_expr k ≡ false → After p
after_at k p e quiet other shut =
    let same : p.terminal ≡ k = same_terminal p.terminal k e in
    record {
      quiet = subst (λ (w : Terminal). 6 < rank_at w (has_role role.Infix p) p.below) (sym same) (quiet_any k (has_role role.Infix p) p.below quiet);
      no_else = λ is. not_among (number_of t.Else ∷ []) (number_of k) (number_of t.Else) (one (sym e ∙ is)) (sym e ∙ is) (let bad = sym other ∙ ap (among (number_of t.Else ∷ assigning_codes)) (sym e ∙ is) in cc);
      no_operator = λ is. let bad = sym other ∙ behind (number_of k == number_of t.Else) (among assigning_codes (number_of k)) (ap (among assigning_codes) (sym e) ∙ is) in cc;
      no_value = λ h. let bad = sym shut ∙ ap opens_expr (sym same) ∙ h in absurd cc;
    }
  where
    one : number_of k ≡ number_of t.Else → among (number_of t.Else ∷ []) (number_of k) ≡ true
    one is = among_at (number_of t.Else ∷ []) (number_of k) (number_of t.Else) is refl

    behind : (a b : Bool) → b ≡ true → (a || b) ≡ true
    behind true b h = refl
    behind false b h = h

calm : Terminal → Bool
calm t.CloseBrace = true
calm t.Case = true
calm t.Default = true
calm t.At = true
calm t.Semicolon = true
calm t.Let = true
calm t.Var = true
calm t.Underscore = true
calm t.If = true
calm t.While = true
calm t.Return = true
calm t.Break = true
calm t.Continue = true
calm t.Switch = true
calm k = false

calm_codes : List ℕ
calm_codes = map number_of (t.CloseBrace ∷ t.Case ∷ t.Default ∷ t.At ∷ t.Semicolon ∷ t.Let ∷ t.Var ∷ t.Underscore ∷ t.If ∷ t.While ∷ t.Return ∷ t.Break ∷ t.Continue ∷ t.Switch ∷ [])

calm_is : (k : Terminal) → among calm_codes (number_of k) ≡ true → calm k ≡ true
unfolding calm calm_codes
calm_is t.CloseBrace e = refl
calm_is t.Case e = refl
calm_is t.Default e = refl
calm_is t.At e = refl
calm_is t.Semicolon e = refl
calm_is t.Let e = refl
calm_is t.Var e = refl
calm_is t.Underscore e = refl
calm_is t.If e = refl
calm_is t.While e = refl
calm_is t.Return e = refl
calm_is t.Break e = refl
calm_is t.Continue e = refl
calm_is t.Switch e = refl
calm_is k e = no e

calm_after : (k : Terminal) (p : Piece) → code p ≡ number_of k → calm k ≡ true → After p
unfolding calm
calm_after t.CloseBrace p e is = after_at t.CloseBrace p e (omega arith) refl refl
calm_after t.Case p e is = after_at t.Case p e (omega arith) refl refl
calm_after t.Default p e is = after_at t.Default p e (omega arith) refl refl
calm_after t.At p e is = after_at t.At p e (omega arith) refl refl
calm_after t.Semicolon p e is = after_at t.Semicolon p e (omega arith) refl refl
calm_after t.Let p e is = after_at t.Let p e (omega arith) refl refl
calm_after t.Var p e is = after_at t.Var p e (omega arith) refl refl
calm_after t.Underscore p e is = after_at t.Underscore p e (omega arith) refl refl
calm_after t.If p e is = after_at t.If p e (omega arith) refl refl
calm_after t.While p e is = after_at t.While p e (omega arith) refl refl
calm_after t.Return p e is = after_at t.Return p e (omega arith) refl refl
calm_after t.Break p e is = after_at t.Break p e (omega arith) refl refl
calm_after t.Continue p e is = after_at t.Continue p e (omega arith) refl refl
calm_after t.Switch p e is = after_at t.Switch p e (omega arith) refl refl
calm_after k p e is = no is

among_after : (ks : List ℕ) (p : Piece) → within ks calm_codes ≡ true → among ks (code p) ≡ true → After p
among_after ks p sub is = calm_after p.terminal p refl (calm_is p.terminal (widened ks calm_codes (code p) sub is))

pub fresh_after : (p : Piece) → Fresh p → p.below ≡ true → (code p ≡ number_of t.Dot → ⊥) → After p
fresh_after p fresh below dot =
    let opens = opens_among p.terminal fresh.opens in
    record {
      quiet = fresh_rank p.terminal (has_role role.Infix p) p.below fresh.opens fresh.no_minus below dot;
      no_else = λ is. not_among expression_codes (code p) (number_of t.Else) opens is refl;
      no_operator = λ is. apart assigning_codes expression_codes (code p) refl is opens;
      no_value = λ _. below;
    }

pub closes_after : (x : Option Piece) → Closes x → AfterStmt x
unfolding calm_codes
closes_after None h = tt
closes_after (Some p) h = among_after closing p refl h

-- what a further statement begins with may follow one
pub next_after : (p : Piece) → BeginsAt false p → AfterStmt (Some p)
unfolding calm_codes
next_after p (inl semicolon) = among_after (number_of t.Semicolon ∷ []) p refl (among_at (number_of t.Semicolon ∷ []) (code p) (number_of t.Semicolon) semicolon refl)
next_after p (inr (below, dot, inl lead)) = among_after leading p refl lead
next_after p (inr (below, dot, inr fresh)) = fresh_after p fresh below dot

starts_shut : (p : Piece) → among closing (code p) ≡ true → Starts p → ⊥
starts_shut p close (inl lead) = apart closing leading (code p) refl close lead
starts_shut p close (inr fresh) = apart closing expression_codes (code p) refl close (opens_among p.terminal fresh.opens)

pub closes_shut : (first : Bool) (p : Piece) → Closes (Some p) → BeginsAt first p → ⊥
closes_shut true p close starts = starts_shut p close starts
closes_shut false p close (inl semicolon) = not_among closing (code p) (number_of t.Semicolon) close semicolon refl
closes_shut false p close (inr (below, dot, starts)) = starts_shut p close starts

pub fresh_apart : (js : List ℕ) → disjoint js expression_codes ≡ true → (p : Piece) → Fresh p → among js (code p) ≡ true → ⊥
fresh_apart js far p fresh is = apart js expression_codes (code p) far is (opens_among p.terminal fresh.opens)

-- no statement begins with such a terminal
pub starts_not : (k : Terminal) → among leading (number_of k) ≡ false → among expression_codes (number_of k) ≡ false → (p : Piece) → Starts p → code p ≡ number_of k → ⊥
starts_not k no_lead no_expr p (inl lead) is = not_among leading (code p) (number_of k) lead is no_lead
starts_not k no_lead no_expr p (inr fresh) is = not_among expression_codes (code p) (number_of k) (opens_among p.terminal fresh.opens) is no_expr

pub later_no_dot : (p : Piece) → is_later p ≡ true → code p ≡ number_of t.Dot → ⊥
unfolding is_later
later_no_dot p is dot = let bad = sym is ∙ ap not (number_is t.Dot p dot) in cc

pub below_is : (p : Piece) → is_below p ≡ true → p.below ≡ true
unfolding is_below
below_is p is = is

pub here_is : (p : Piece) → is_here p ≡ true → p.below ≡ true → ⊥
unfolding is_here
here_is p is below = let bad = sym is ∙ ap not below in cc

pub fresh_mark : (k : Terminal) → opens_expr k ≡ true → (number_of k ≡ number_of t.Minus → ⊥) → (p : Piece) (a : Place) → mark k p ≡ Some a → Fresh p
fresh_mark k opens minus p a takes =
    let same = mark_number k p a takes in
    record { opens = ap opens_expr (same_terminal p.terminal k same) ∙ opens; no_minus = λ between is. minus (sym same ∙ is) }

pub after_six : (x : Option Piece) → AfterStmt x → Stop 6 x
after_six None h = omega arith
after_six (Some p) h = h.quiet

-- what a terminal that binds to nothing may follow
pub six_at : (k : Terminal) (p : Piece) → code p ≡ number_of k → 6 < rank_at k true false → Stop 6 (Some p)
six_at k p e quiet = subst (λ (w : Terminal). 6 < rank_at w (has_role role.Infix p) p.below) (sym (same_terminal p.terminal k e)) (quiet_any k (has_role role.Infix p) p.below quiet)

assigning_rank : (k : Terminal) → among assigning_codes (number_of k) ≡ true → 6 < rank_at k true false
assigning_rank t.Equal e = omega arith
assigning_rank t.PlusEqual e = omega arith
assigning_rank t.MinusEqual e = omega arith
assigning_rank t.StarEqual e = omega arith
assigning_rank t.SlashEqual e = omega arith
assigning_rank t.PercentEqual e = omega arith
assigning_rank k e = no e

pub operator_six : (y : Expr) (p : Piece) (o : AssignmentOperator) → assigns_to y p ≡ Some o → Stop 6 (Some p)
operator_six y p o e = six_at p.terminal p refl (assigning_rank p.terminal (assigns_codes y p o e))

-- ---- no token of some terminals

abbrev pub Without : List ℕ → Option Piece → Type 0
Without ks x = of_first (λ p. among ks (code p)) x ≡ false

pub without_less : (js ks : List ℕ) → within js ks ≡ true → (x : Option Piece) → Without ks x → Without js x
without_less js ks sub None h = refl
without_less js ks sub (Some p) h = go (among js (code p)) refl
  where
    go : (b : Bool) → among js (code p) ≡ b → b ≡ false
    go true is = let bad = sym h ∙ widened js ks (code p) sub is in absurd cc
    go false is = refl

pub without_at : (ks : List ℕ) (k : Terminal) (p : Piece) → code p ≡ number_of k → among ks (number_of k) ≡ false → Without ks (Some p)
without_at ks k p e isnt = ap (among ks) e ∙ isnt
