-- What the tests of tokens take, and how loosely a token binds to what stands before it.
use Rattle.std.proofs.Common.{◌≡◌, ℕ, zero, suc, ◌-◌, ◌<◌, ◌^◌, Bool, true, false, List, [], ◌∷◌, Option, Some, None, refl, sym, ◌∙◌, ap, arith, inl, inr, ◌⊎◌, get_or}
use Rattle.std.specs.Prelude.{◌||◌, ◌&&◌, ◌==◌, not, nat_le, is_some, codes, cond}
use Rattle.std.specs.Str.{bytes_eq, IsAscii, is_utf8}
use Rattle.std.proofs.lemmas.Bool.{or_left, or_right, or_cases}
use Rattle.std.proofs.lemmas.Bool.Decides.{Decides-eqb}
use Rattle.std.proofs.lemmas.Str.{IsUtf8-from_ascii, is_utf8-from_IsUtf8}
use Rattle.evo_base.specs.declared.place.Place.{Place}
use Rattle.evo_lex.specs.Front.{when, integer_value}
use Rattle.evo_lex.specs.Strings.{string_value}
use Rattle.evo_tree.specs.declared.name.Identifier.{Identifier}
use Rattle.evo_tree.specs.declared.expression.InfixOperator.{InfixOperator}
use Rattle.evo_tree.specs.declared.expression.PrefixOperator.{PrefixOperator}
use Rattle.evo_tree.specs.declared.terminal.Terminal.{Terminal}
use Rattle.evo_tree.specs.declared.terminal.Terminal.TheVariants as t
use Rattle.evo_tree.specs.declared.terminal.Role.TheVariants as role
use Rattle.evo_tree.specs.Terminals.{number_of}
use Rattle.evo_tree.specs.Pieces.{Piece, is_terminal, is_identifier, has_role, role_number, placed, sign_of, mark, identifier, word, is_word, integer, string, negative, sign, call, opens_nesting}
use Rattle.evo_tree.specs.Types.{plain_name}
use Rattle.evo_tree.specs.Expressions.{infix_by, multiplying, adding, comparing, conjoining, disjoining}

pub when_some : {A : Type 0} (b : Bool) (a x : A) → when b a ≡ Some x → (b ≡ true) × (a ≡ x)
when_some true a x e = (refl, cc)
when_some false a x e = absurd cc

-- what is nothing is no value
nothing : {A X : Type 0} {x : X} → None ≡ Some x → A
nothing e = absurd cc

pub and_both : (a b : Bool) → (a && b) ≡ true → (a ≡ true) × (b ≡ true)
and_both true b e = (refl, e)
and_both false b e = absurd cc

pub both_and : (a b : Bool) → a ≡ true → b ≡ true → (a && b) ≡ true
both_and true b e e' = e'
both_and false b e e' = absurd cc

pub or_either : (a b : Bool) → (a || b) ≡ true → (a ≡ true) ⊎ (b ≡ true)
or_either = or_cases

-- ---- terminals have numbers of their own

all_terminals : List Terminal
all_terminals = t.Identifier ∷ t.Underscore ∷ t.Integer ∷ t.String ∷ t.Import ∷ t.Struct ∷ t.Enum ∷ t.Class ∷ t.Protocol ∷ t.Extension ∷ t.Func ∷ t.Init ∷ t.Var ∷ t.Let ∷ t.Typealias ∷ t.Associatedtype ∷ t.Case ∷ t.Open ∷ t.Public ∷ t.Internal ∷ t.Private ∷ t.Final ∷ t.Static ∷ t.Mutating ∷ t.Override ∷ t.SelfValue ∷ t.SelfType ∷ t.Super ∷ t.Return ∷ t.If ∷ t.Else ∷ t.While ∷ t.Switch ∷ t.Default ∷ t.Break ∷ t.Continue ∷ t.True ∷ t.False ∷ t.Where ∷ t.Plus ∷ t.Minus ∷ t.Star ∷ t.Slash ∷ t.Percent ∷ t.WrappingPlus ∷ t.WrappingMinus ∷ t.WrappingStar ∷ t.EqualEqual ∷ t.NotEqual ∷ t.Less ∷ t.LessEqual ∷ t.Greater ∷ t.GreaterEqual ∷ t.Identical ∷ t.NotIdentical ∷ t.AndAnd ∷ t.OrOr ∷ t.Not ∷ t.And ∷ t.Equal ∷ t.PlusEqual ∷ t.MinusEqual ∷ t.StarEqual ∷ t.SlashEqual ∷ t.PercentEqual ∷ t.Arrow ∷ t.OpenParenthesis ∷ t.CloseParenthesis ∷ t.OpenBrace ∷ t.CloseBrace ∷ t.Comma ∷ t.Semicolon ∷ t.Colon ∷ t.Dot ∷ t.At ∷ t.Other ∷ []

numbered : ℕ → Terminal
numbered n = get_or all_terminals n t.Other

at_number : (k : Terminal) → numbered (number_of k) ≡ k
unfolding numbered all_terminals
at_number t.Identifier = refl
at_number t.Underscore = refl
at_number t.Integer = refl
at_number t.String = refl
at_number t.Import = refl
at_number t.Struct = refl
at_number t.Enum = refl
at_number t.Class = refl
at_number t.Protocol = refl
at_number t.Extension = refl
at_number t.Func = refl
at_number t.Init = refl
at_number t.Var = refl
at_number t.Let = refl
at_number t.Typealias = refl
at_number t.Associatedtype = refl
at_number t.Case = refl
at_number t.Open = refl
at_number t.Public = refl
at_number t.Internal = refl
at_number t.Private = refl
at_number t.Final = refl
at_number t.Static = refl
at_number t.Mutating = refl
at_number t.Override = refl
at_number t.SelfValue = refl
at_number t.SelfType = refl
at_number t.Super = refl
at_number t.Return = refl
at_number t.If = refl
at_number t.Else = refl
at_number t.While = refl
at_number t.Switch = refl
at_number t.Default = refl
at_number t.Break = refl
at_number t.Continue = refl
at_number t.True = refl
at_number t.False = refl
at_number t.Where = refl
at_number t.Plus = refl
at_number t.Minus = refl
at_number t.Star = refl
at_number t.Slash = refl
at_number t.Percent = refl
at_number t.WrappingPlus = refl
at_number t.WrappingMinus = refl
at_number t.WrappingStar = refl
at_number t.EqualEqual = refl
at_number t.NotEqual = refl
at_number t.Less = refl
at_number t.LessEqual = refl
at_number t.Greater = refl
at_number t.GreaterEqual = refl
at_number t.Identical = refl
at_number t.NotIdentical = refl
at_number t.AndAnd = refl
at_number t.OrOr = refl
at_number t.Not = refl
at_number t.And = refl
at_number t.Equal = refl
at_number t.PlusEqual = refl
at_number t.MinusEqual = refl
at_number t.StarEqual = refl
at_number t.SlashEqual = refl
at_number t.PercentEqual = refl
at_number t.Arrow = refl
at_number t.OpenParenthesis = refl
at_number t.CloseParenthesis = refl
at_number t.OpenBrace = refl
at_number t.CloseBrace = refl
at_number t.Comma = refl
at_number t.Semicolon = refl
at_number t.Colon = refl
at_number t.Dot = refl
at_number t.At = refl
at_number t.Other = refl

pub same_terminal : (k w : Terminal) → number_of k ≡ number_of w → k ≡ w
same_terminal k w e = sym (at_number k) ∙ ap numbered e ∙ at_number w

-- ---- what was taken

pub is_number : (k : Terminal) (p : Piece) → is_terminal k p ≡ true → number_of p.terminal ≡ number_of k
is_number k p e = (Decides-eqb (number_of p.terminal) (number_of k)).0 e

pub number_is : (k : Terminal) (p : Piece) → number_of p.terminal ≡ number_of k → is_terminal k p ≡ true
number_is k p e = (Decides-eqb (number_of p.terminal) (number_of k)).1 e

pub is_same : (k : Terminal) (p : Piece) → is_terminal k p ≡ true → p.terminal ≡ k
is_same k p e = same_terminal p.terminal k (is_number k p e)

pub mark_is : (k : Terminal) (p : Piece) (a : Place) → mark k p ≡ Some a → is_terminal k p ≡ true
unfolding mark
mark_is k p a e = (when_some (is_terminal k p) p.place a e).0

pub mark_number : (k : Terminal) (p : Piece) (a : Place) → mark k p ≡ Some a → number_of p.terminal ≡ number_of k
mark_number k p a e = is_number k p (mark_is k p a e)

-- a terminal that is there is taken
pub mark_takes : (k : Terminal) (p : Piece) → is_terminal k p ≡ true → (a : Place) × (mark k p ≡ Some a)
unfolding mark
mark_takes k p is = (p.place, ap (λ b. when b p.place) is)

pub identifier_is : (p : Piece) (a : Identifier) → identifier p ≡ Some a → is_identifier p ≡ true
unfolding identifier
identifier_is p a e = (when_some (is_identifier p) (record { place = p.place; text = p.text }) a e).0

pub identifier_takes : (p : Piece) → is_identifier p ≡ true → (a : Identifier) × (identifier p ≡ Some a)
unfolding identifier
identifier_takes p is = (_, ap (λ b. when b (record { place = p.place; text = p.text })) is)

pub is_identifier_number : (p : Piece) → is_identifier p ≡ true → number_of p.terminal ≡ 0
is_identifier_number p is = is_number t.Identifier p (and_both (is_terminal t.Identifier p) (is_utf8 p.text) is).0

pub identifier_number : (p : Piece) (a : Identifier) → identifier p ≡ Some a → number_of p.terminal ≡ 0
identifier_number p a e = is_identifier_number p (identifier_is p a e)

pub plain_name_number : (p : Piece) (a : List ℕ) → plain_name p ≡ Some a → number_of p.terminal ≡ 0
unfolding plain_name
plain_name_number p a e = is_identifier_number p (when_some (is_identifier p) p.text a e).0

pub word_number : (w : List ℕ) (p : Piece) (a : Place) → word w p ≡ Some a → number_of p.terminal ≡ 0
unfolding word
word_number w p a e = is_number t.Identifier p (and_both (is_terminal t.Identifier p) (bytes_eq p.text w) (when_some (is_word w p) p.place a e).0).0

pub integer_number : (most : ℕ) (p : Piece) (a : Place × ℕ) → integer most p ≡ Some a → number_of p.terminal ≡ 2
unfolding integer
integer_number most p a e =
    is_number t.Integer p (and_both (is_terminal t.Integer p) (nat_le (integer_value p.text) most) (when_some (is_terminal t.Integer p && nat_le (integer_value p.text) most) (p.place, integer_value p.text) a e).0).0

pub string_number : (p : Piece) (a : Place × List ℕ) → string p ≡ Some a → number_of p.terminal ≡ 3
unfolding string
string_number p a e =
    is_number t.String p (and_both (is_terminal t.String p) (is_utf8 (string_value p.text)) (when_some (is_terminal t.String p && is_utf8 (string_value p.text)) (p.place, string_value p.text) a e).0).0

pub negative_number : (p : Piece) (a : Place) → negative p ≡ Some a → number_of p.terminal ≡ 40
unfolding negative
negative_number p a e = is_number t.Minus p (and_both (is_terminal t.Minus p) (has_role role.Negative p) (when_some (is_terminal t.Minus p && has_role role.Negative p) p.place a e).0).0

pub negative_role : (p : Piece) (a : Place) → negative p ≡ Some a → role_number p.role ≡ 2
unfolding negative
negative_role p a e = (Decides-eqb (role_number p.role) 2).0 (and_both (is_terminal t.Minus p) (has_role role.Negative p) (when_some (is_terminal t.Minus p && has_role role.Negative p) p.place a e).0).1

pub call_number : (p : Piece) (a : Place) → call p ≡ Some a → number_of p.terminal ≡ 66
unfolding call
call_number p a e = is_number t.OpenParenthesis p (and_both (is_terminal t.OpenParenthesis p) (not p.below) (when_some (is_terminal t.OpenParenthesis p && not p.below) p.place a e).0).0

pub call_here : (p : Piece) (a : Place) → call p ≡ Some a → p.below ≡ false
unfolding call
call_here p a e = shown p.below (and_both (is_terminal t.OpenParenthesis p) (not p.below) (when_some (is_terminal t.OpenParenthesis p && not p.below) p.place a e).0).1
  where
    shown : (b : Bool) → not b ≡ true → b ≡ false
    shown true e = absurd cc
    shown false e = refl

pub sign_role : (p : Piece) (a : Place × PrefixOperator) → sign p ≡ Some a → role_number p.role ≡ 1
unfolding sign
sign_role p a e = (Decides-eqb (role_number p.role) 1).0 (held (has_role role.Prefix p) e)
  where
    held : (b : Bool) → cond b (placed p.place (sign_of p.terminal)) None ≡ Some a → b ≡ true
    held true e = refl
    held false e = absurd cc

-- ---- ranks

-- How loosely a terminal binds to what stands before it, as an operator between operands. 8 goes on with no list of expressions.
abbrev pub infix_rank : Terminal → ℕ
infix_rank t.Star = 2
infix_rank t.Slash = 2
infix_rank t.Percent = 2
infix_rank t.WrappingStar = 2
infix_rank t.Plus = 3
infix_rank t.Minus = 3
infix_rank t.WrappingPlus = 3
infix_rank t.WrappingMinus = 3
infix_rank t.EqualEqual = 4
infix_rank t.NotEqual = 4
infix_rank t.Less = 4
infix_rank t.LessEqual = 4
infix_rank t.Greater = 4
infix_rank t.GreaterEqual = 4
infix_rank t.Identical = 4
infix_rank t.NotIdentical = 4
infix_rank t.AndAnd = 5
infix_rank t.OrOr = 6
infix_rank k = 8

abbrev pub if_between : Bool → ℕ → ℕ
if_between true n = n
if_between false n = 8

-- 0 for the parenthesis of a call, 1 for a dot, 7 for a comma
abbrev pub rank_at : Terminal → Bool → Bool → ℕ
rank_at t.OpenParenthesis between true = 8
rank_at t.OpenParenthesis between false = 0
rank_at t.Dot between below = 1
rank_at t.Comma between below = 7
rank_at k between below = if_between between (infix_rank k)

abbrev pub rank : Piece → ℕ
rank p = rank_at p.terminal (has_role role.Infix p) p.below

abbrev pub rank_of : Option Piece → ℕ
rank_of None = 8
rank_of (Some p) = rank p

-- what may follow an expression of a level
abbrev pub Stop : ℕ → Option Piece → Type 0
Stop h x = h < rank_of x

pub call_rank : (p : Piece) (a : Place) → call p ≡ Some a → rank p ≡ 0
call_rank p a e =
    ap (λ k. rank_at k (has_role role.Infix p) p.below) (same_terminal p.terminal t.OpenParenthesis (call_number p a e)) ∙ ap (rank_at t.OpenParenthesis (has_role role.Infix p)) (call_here p a e)

pub mark_rank : (k : Terminal) (p : Piece) (a : Place) → mark k p ≡ Some a → rank p ≡ rank_at k (has_role role.Infix p) p.below
mark_rank k p a e = ap (λ w. rank_at w (has_role role.Infix p) p.below) (is_same k p (mark_is k p a e))

pub dot_rank : (p : Piece) (a : Place) → mark t.Dot p ≡ Some a → rank p ≡ 1
dot_rank p a e = mark_rank t.Dot p a e

pub comma_rank : (p : Piece) (a : Place) → mark t.Comma p ≡ Some a → rank p ≡ 7
comma_rank p a e = mark_rank t.Comma p a e

multiplying_rank : (k : Terminal) (a : InfixOperator) (below : Bool) → multiplying k ≡ Some a → rank_at k true below ≡ 2
multiplying_rank t.Star a below e = refl
multiplying_rank t.Slash a below e = refl
multiplying_rank t.Percent a below e = refl
multiplying_rank t.WrappingStar a below e = refl
multiplying_rank k a below e = nothing e

adding_rank : (k : Terminal) (a : InfixOperator) (below : Bool) → adding k ≡ Some a → rank_at k true below ≡ 3
adding_rank t.Plus a below e = refl
adding_rank t.Minus a below e = refl
adding_rank t.WrappingPlus a below e = refl
adding_rank t.WrappingMinus a below e = refl
adding_rank k a below e = nothing e

comparing_rank : (k : Terminal) (a : InfixOperator) (below : Bool) → comparing k ≡ Some a → rank_at k true below ≡ 4
comparing_rank t.EqualEqual a below e = refl
comparing_rank t.NotEqual a below e = refl
comparing_rank t.Less a below e = refl
comparing_rank t.LessEqual a below e = refl
comparing_rank t.Greater a below e = refl
comparing_rank t.GreaterEqual a below e = refl
comparing_rank t.Identical a below e = refl
comparing_rank t.NotIdentical a below e = refl
comparing_rank k a below e = nothing e

conjoining_rank : (k : Terminal) (a : InfixOperator) (below : Bool) → conjoining k ≡ Some a → rank_at k true below ≡ 5
conjoining_rank t.AndAnd a below e = refl
conjoining_rank k a below e = nothing e

disjoining_rank : (k : Terminal) (a : InfixOperator) (below : Bool) → disjoining k ≡ Some a → rank_at k true below ≡ 6
disjoining_rank t.OrOr a below e = refl
disjoining_rank k a below e = nothing e

-- an operator of a level has the level's rank
level_rank : (f : Terminal → Option InfixOperator) (h : ℕ) → ((k : Terminal) (a : InfixOperator) (below : Bool) → f k ≡ Some a → rank_at k true below ≡ h) →
    (p : Piece) (a : InfixOperator) → infix_by f p ≡ Some a → rank p ≡ h
unfolding infix_by
level_rank f h at p a e = go (has_role role.Infix p) refl e
  where
    go : (b : Bool) → has_role role.Infix p ≡ b → cond b (f p.terminal) None ≡ Some a → rank p ≡ h
    go true is e = ap (λ b. rank_at p.terminal b p.below) is ∙ at p.terminal a p.below e
    go false is e = absurd cc

pub multiplication_rank : (p : Piece) (a : InfixOperator) → infix_by multiplying p ≡ Some a → rank p ≡ 2
multiplication_rank = level_rank multiplying 2 multiplying_rank

pub addition_rank : (p : Piece) (a : InfixOperator) → infix_by adding p ≡ Some a → rank p ≡ 3
addition_rank = level_rank adding 3 adding_rank

pub comparison_rank : (p : Piece) (a : InfixOperator) → infix_by comparing p ≡ Some a → rank p ≡ 4
comparison_rank = level_rank comparing 4 comparing_rank

pub conjunction_rank : (p : Piece) (a : InfixOperator) → infix_by conjoining p ≡ Some a → rank p ≡ 5
conjunction_rank = level_rank conjoining 5 conjoining_rank

pub disjunction_rank : (p : Piece) (a : InfixOperator) → infix_by disjoining p ≡ Some a → rank p ≡ 6
disjunction_rank = level_rank disjoining 6 disjoining_rank

-- ---- tokens that are taken

unfoldable pub a_piece : Terminal → Piece
a_piece k = record { terminal = k; role = role.Infix; below = false; place = record { line = 1; col = 1 }; text = codes "a" }

same_number : (n : ℕ) → (n == n) ≡ true
same_number n = (Decides-eqb n n).1 refl

pub piece_is : (k : Terminal) → is_terminal k (a_piece k) ≡ true
unfolding a_piece
piece_is k = same_number (number_of k)

a_ascii : IsAscii (codes "a")
a_ascii zero = omega arith
a_ascii (suc i) = omega arith

a_name : is_identifier (a_piece t.Identifier) ≡ true
unfolding a_piece
a_name = is_utf8-from_IsUtf8 (codes "a") (IsUtf8-from_ascii (codes "a") a_ascii)

pub some_identifier : (a : Identifier) × (identifier (a_piece t.Identifier) ≡ Some a)
some_identifier = identifier_takes (a_piece t.Identifier) a_name

pub not_terminal : (k : Terminal) (p : Piece) → (number_of p.terminal ≡ number_of k → ⊥) → is_terminal k p ≡ false
not_terminal k p differ = go (is_terminal k p) refl
  where
    go : (b : Bool) → is_terminal k p ≡ b → b ≡ false
    go true e = absurd (differ (is_number k p e))
    go false e = refl

between_eight : (b : Bool) → if_between b 8 ≡ 8
between_eight true = refl
between_eight false = refl

-- a terminal that never goes on with an expression
pub closing_rank : (p : Piece) (a : Place) → mark t.CloseParenthesis p ≡ Some a → rank p ≡ 8
closing_rank p a e = mark_rank t.CloseParenthesis p a e ∙ between_eight (has_role role.Infix p)

pub colon_rank : (p : Piece) → is_terminal t.Colon p ≡ true → rank p ≡ 8
colon_rank p is = ap (λ w. rank_at w (has_role role.Infix p) p.below) (is_same t.Colon p is) ∙ between_eight (has_role role.Infix p)

-- ---- what expressions begin with

-- what an operand without a sign begins with, but for the `-` of an integer
abbrev pub opens_primary : Terminal → Bool
opens_primary t.Identifier = true
opens_primary t.Integer = true
opens_primary t.String = true
opens_primary t.SelfValue = true
opens_primary t.SelfType = true
opens_primary t.Super = true
opens_primary t.True = true
opens_primary t.False = true
opens_primary t.OpenParenthesis = true
opens_primary t.Dot = true
opens_primary k = false

abbrev pub opens_expr : Terminal → Bool
opens_expr t.Minus = true
opens_expr t.Not = true
opens_expr k = opens_primary k

abbrev pub Opens : Piece → Type 0
Opens p = opens_expr p.terminal ≡ true

abbrev pub First : Piece → Type 0
First p = (opens_primary p.terminal ≡ true) ⊎ ((p.terminal ≡ t.Minus) × (role_number p.role ≡ 2))

primary_opens : (k : Terminal) → opens_primary k ≡ true → opens_expr k ≡ true
primary_opens t.Minus h = refl
primary_opens t.Not h = refl
primary_opens k h = h

pub first_opens : (p : Piece) → First p → Opens p
first_opens p (inl h) = primary_opens p.terminal h
first_opens p (inr h) = ap opens_expr h.0

sign_opens_at : (k : Terminal) (o : PrefixOperator) → sign_of k ≡ Some o → opens_expr k ≡ true
sign_opens_at t.Minus o e = refl
sign_opens_at t.Not o e = refl
sign_opens_at k o e = nothing e

sign_held : (p : Piece) (a : Place × PrefixOperator) → sign p ≡ Some a → sign_of p.terminal ≡ Some a.1
unfolding sign
sign_held p a e = go (has_role role.Prefix p) (sign_of p.terminal) e
  where
    go : (b : Bool) (o : Option PrefixOperator) → cond b (placed p.place o) None ≡ Some a → o ≡ Some a.1
    go true None e = absurd cc
    go true (Some x) e = let both : ◌≡◌ {A = Place × PrefixOperator} (p.place, x) a = cc in ap (λ (z : Place × PrefixOperator). Some z.1) both
    go false o e = absurd cc

pub sign_opens : (p : Piece) (a : Place × PrefixOperator) → sign p ≡ Some a → Opens p
sign_opens p a e = sign_opens_at p.terminal a.1 (sign_held p a e)

unsigned_at : (k : Terminal) (o : PrefixOperator) → opens_primary k ≡ true → sign_of k ≡ Some o → ⊥
unsigned_at t.Minus o h e = cc
unsigned_at t.Not o h e = cc
unsigned_at k o h e = nothing e

-- what begins an operand without a sign is no sign
pub first_unsigned : (p : Piece) (a : Place × PrefixOperator) → First p → sign p ≡ Some a → ⊥
first_unsigned p a (inl h) e = unsigned_at p.terminal a.1 h (sign_held p a e)
first_unsigned p a (inr h) e = omega (arith, h.1, sign_role p a e)

-- no terminal with which no expression begins
pub opens_not : (k : Terminal) → opens_expr k ≡ false → (p : Piece) (a : Place) → Opens p → mark k p ≡ Some a → ⊥
opens_not k none p a h e = let same = ap opens_expr (is_same k p (mark_is k p a e)) in cc

pub first_mark : (k : Terminal) → opens_primary k ≡ true → (p : Piece) (a : Place) → mark k p ≡ Some a → First p
first_mark k h p a e = inl (ap opens_primary (is_same k p (mark_is k p a e)) ∙ h)

first_number : (k : Terminal) → opens_primary k ≡ true → (p : Piece) → number_of p.terminal ≡ number_of k → First p
first_number k h p e = inl (ap opens_primary (same_terminal p.terminal k e) ∙ h)

pub first_identifier : (p : Piece) (a : Identifier) → identifier p ≡ Some a → First p
first_identifier p a e = first_number t.Identifier refl p (identifier_number p a e)

pub first_integer : (most : ℕ) (p : Piece) (a : Place × ℕ) → integer most p ≡ Some a → First p
first_integer most p a e = first_number t.Integer refl p (integer_number most p a e)

pub first_string : (p : Piece) (a : Place × List ℕ) → string p ≡ Some a → First p
first_string p a e = first_number t.String refl p (string_number p a e)

pub first_negative : (p : Piece) (a : Place) → negative p ≡ Some a → First p
first_negative p a e = inr (same_terminal p.terminal t.Minus (negative_number p a e), negative_role p a e)

pub call_takes : (a : Place) × (call (a_piece t.OpenParenthesis) ≡ Some a)
unfolding call a_piece
call_takes = (_, refl)

unfoldable pub an_integer : Piece
an_integer = record { terminal = t.Integer; role = role.Infix; below = false; place = record { line = 1; col = 1 }; text = codes "0" }

pub some_integer : (v : Place × ℕ) × (integer (2 ^ 63) an_integer ≡ Some v)
unfolding integer an_integer
some_integer = (_, refl)

-- ---- what opens a nesting

sign_numbers : (k : Terminal) (o : PrefixOperator) → sign_of k ≡ Some o → (number_of k ≡ 40) ⊎ (number_of k ≡ 57)
sign_numbers t.Minus o e = inl refl
sign_numbers t.Not o e = inr refl
sign_numbers k o e = nothing e

is_some_some : {A : Type 0} (o : Option A) → is_some o ≡ true → (a : A) × (o ≡ Some a)
is_some_some (Some a) e = (a, refl)
is_some_some None e = absurd cc

-- the parenthesis, the brace, or a sign, which has a role of its own
pub opening_is : (p : Piece) → opens_nesting p ≡ true → (number_of p.terminal ≡ 66) ⊎ ((number_of p.terminal ≡ 68) ⊎ ((role_number p.role ≡ 1) × ((number_of p.terminal ≡ 40) ⊎ (number_of p.terminal ≡ 57))))
opening_is p is = elim (or_cases (is_terminal t.OpenParenthesis p || is_terminal t.OpenBrace p) (is_some (sign p)) is) [
  | inl bracket ↦ elim (or_cases (is_terminal t.OpenParenthesis p) (is_terminal t.OpenBrace p) bracket) [
    | inl h ↦ inl (is_number t.OpenParenthesis p h)
    | inr h ↦ inr (inl (is_number t.OpenBrace p h))
  ]
  | inr h ↦ let (a, e) = is_some_some (sign p) h in inr (inr (sign_role p a e, sign_numbers p.terminal a.1 (sign_held p a e)))
]

-- the number of no parenthesis, brace or sign
abbrev pub is_quiet : ℕ → Bool
is_quiet n = not (n == 66 || n == 68 || n == 40 || n == 57)

-- a token of another terminal opens nothing
pub quiet_number : (j : ℕ) → is_quiet j ≡ true → (p : Piece) → number_of p.terminal ≡ j → opens_nesting p ≡ true → ⊥
quiet_number j quiet p at is = elim (opening_is p is) [
  | inl h ↦ let other = ap is_quiet (sym at ∙ h) in cc
  | inr rest ↦ elim rest [
    | inl h ↦ let other = ap is_quiet (sym at ∙ h) in cc
    | inr h ↦ elim h.1 [ inl g ↦ let other = ap is_quiet (sym at ∙ g) in cc | inr g ↦ let other = ap is_quiet (sym at ∙ g) in cc ]
  ]
]

pub quiet_mark : (k : Terminal) → is_quiet (number_of k) ≡ true → (p : Piece) (a : Place) → mark k p ≡ Some a → opens_nesting p ≡ true → ⊥
quiet_mark k quiet p x takes is = quiet_number (number_of k) quiet p (mark_number k p x takes) is

-- an operator between operands opens nothing
infix_quiet : (h : ℕ) → h < 7 → 0 < h → (f : Terminal → Option InfixOperator) → ((p : Piece) (a : InfixOperator) → infix_by f p ≡ Some a → rank p ≡ h) → (p : Piece) (a : InfixOperator) → infix_by f p ≡ Some a → opens_nesting p ≡ true → ⊥
unfolding infix_by
infix_quiet h low high f at p a e is = elim (opening_is p is) [
  | inl g ↦ parenthesis p.below refl (same_terminal p.terminal t.OpenParenthesis g)
  | inr rest ↦ elim rest [
    | inl g ↦ let brace = ap (λ w. rank_at w (has_role role.Infix p) p.below) (same_terminal p.terminal t.OpenBrace g) in omega (arith, at p a e, brace, between_eight (has_role role.Infix p))
    | inr g ↦ omega (arith, g.0, (Decides-eqb (role_number p.role) 0).0 (held (has_role role.Infix p) e))
  ]
]
  where
    held : (b : Bool) → cond b (f p.terminal) None ≡ Some a → b ≡ true
    held true e = refl
    held false e = absurd cc

    parenthesis : (b : Bool) → p.below ≡ b → p.terminal ≡ t.OpenParenthesis → ⊥
    parenthesis true below same = omega (arith, at p a e, ap (λ w. rank_at w (has_role role.Infix p) p.below) same ∙ ap (rank_at t.OpenParenthesis (has_role role.Infix p)) below)
    parenthesis false below same = omega (arith, at p a e, ap (λ w. rank_at w (has_role role.Infix p) p.below) same ∙ ap (rank_at t.OpenParenthesis (has_role role.Infix p)) below)

pub multiplication_quiet : (p : Piece) (a : InfixOperator) → infix_by multiplying p ≡ Some a → opens_nesting p ≡ true → ⊥
multiplication_quiet = infix_quiet 2 (omega arith) (omega arith) multiplying multiplication_rank

pub addition_quiet : (p : Piece) (a : InfixOperator) → infix_by adding p ≡ Some a → opens_nesting p ≡ true → ⊥
addition_quiet = infix_quiet 3 (omega arith) (omega arith) adding addition_rank

pub comparison_quiet : (p : Piece) (a : InfixOperator) → infix_by comparing p ≡ Some a → opens_nesting p ≡ true → ⊥
comparison_quiet = infix_quiet 4 (omega arith) (omega arith) comparing comparison_rank

pub conjunction_quiet : (p : Piece) (a : InfixOperator) → infix_by conjoining p ≡ Some a → opens_nesting p ≡ true → ⊥
conjunction_quiet = infix_quiet 5 (omega arith) (omega arith) conjoining conjunction_rank

pub disjunction_quiet : (p : Piece) (a : InfixOperator) → infix_by disjoining p ≡ Some a → opens_nesting p ≡ true → ⊥
disjunction_quiet = infix_quiet 6 (omega arith) (omega arith) disjoining disjunction_rank

pub negative_quiet : (p : Piece) (a : Place) → negative p ≡ Some a → opens_nesting p ≡ true → ⊥
negative_quiet p a e is = elim (opening_is p is) [
  | inl g ↦ omega (arith, g, negative_number p a e)
  | inr rest ↦ elim rest [
    | inl g ↦ omega (arith, g, negative_number p a e)
    | inr g ↦ omega (arith, g.0, negative_role p a e)
  ]
]

pub parenthesis_opens : (p : Piece) (a : Place) → mark t.OpenParenthesis p ≡ Some a → opens_nesting p ≡ true
parenthesis_opens p a e = or_left (is_terminal t.OpenParenthesis p || is_terminal t.OpenBrace p) (is_some (sign p)) (or_left (is_terminal t.OpenParenthesis p) (is_terminal t.OpenBrace p) (mark_is t.OpenParenthesis p a e))

pub call_opens : (p : Piece) (a : Place) → call p ≡ Some a → opens_nesting p ≡ true
call_opens p a e = or_left (is_terminal t.OpenParenthesis p || is_terminal t.OpenBrace p) (is_some (sign p)) (or_left (is_terminal t.OpenParenthesis p) (is_terminal t.OpenBrace p) (number_is t.OpenParenthesis p (call_number p a e)))

pub sign_opens_nesting : (p : Piece) (a : Place × PrefixOperator) → sign p ≡ Some a → opens_nesting p ≡ true
sign_opens_nesting p a e = or_right (is_terminal t.OpenParenthesis p || is_terminal t.OpenBrace p) (is_some (sign p)) (ap (λ (o : Option (Place × PrefixOperator)). is_some o) e)
