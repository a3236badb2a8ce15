-- Small texts are spelled by their trees, and a text that is no expression is spelled by none.
use Rattle.std.proofs.Common.{◌≡◌, ℕ, zero, suc, ◌+◌, Bool, true, false, List, [], ◌∷◌, ◌++◌, length, codes, Some, None, Ok, Err, refl, sym, ◌∙◌, ap, subst, arith, append-nil}
use Rattle.std.specs.Str.{is_utf8, chars}
use lib.Utf8.{encode}
use Rattle.evo_base.specs.declared.place.Place.{Place}
use Rattle.evo_base.specs.declared.token.TokenKind.{TokenKind}
use Rattle.evo_base.specs.declared.token.TokenKind.TheVariants as kind
use Rattle.evo_base.specs.declared.token.Token.{Token}
use Rattle.evo_lex.specs.Strings.{string_value}
use Rattle.evo_combinators.specs.Reader.{Outcome, lead, many}
use Rattle.evo_combinators.specs.Guard.{starts, starts_two}
use Rattle.evo_tree.specs.declared.name.Identifier.{Identifier}
use Rattle.evo_tree.specs.declared.expression.PrefixOperator.TheVariants as prefix
use Rattle.evo_tree.specs.declared.expression.InfixOperator.TheVariants as op
use Rattle.evo_tree.specs.declared.expression.Expr.{Expr}
use Rattle.evo_tree.specs.declared.expression.Expr.TheVariants as e
use Rattle.evo_tree.specs.Terminals.{keyword_terminal, operator_terminal}
use Rattle.evo_tree.specs.Pieces.{Piece, pieces, mark, identifier, integer, string, negative, sign, call}
use Rattle.evo_tree.specs.Expressions.{infix_by, IsExpr}
use Rattle.evo_parse_expr.specs.Read.{chain_of, pair_of, labelled, listed_arguments, closed_arguments, rest_of_arguments, arguments, called, member, rest_of_group, rest_of_super, magnitude, named, implicit, later_primary, primary, links, post, unary_of, unary, expr}
use Rattle.evo_parse_expr.proofs.ReadsRule.{right_expr}

-- what is read to the end is spelled
spelled : (d : ℕ) (us : List Piece) (x : Expr) → ◌≡◌ {A = Outcome Piece Expr} (expr d us) (Ok (x, [])) → IsExpr d us x
spelled d us x is =
    let (vs, cut, s, again) = (right_expr d (length us)).sound us [] x (omega arith) is in
    subst (λ ws. IsExpr d ws x) (sym (cut ∙ append-nil vs)) s

-- nothing is left
abbrev at_end : List Piece → Bool
at_end [] = true
at_end (p ∷ ps) = false

abbrev reads_all : Outcome Piece Expr → Bool
reads_all (Ok x) = at_end x.1
reads_all (Err f) = false

-- what is not read to the end is not spelled
unspelled : (d : ℕ) (us : List Piece) → reads_all (expr d us) ≡ false → (x : Expr) → IsExpr d us x → ⊥
unspelled d us stops x s =
    let right = right_expr d (length (us ++ [])) in
    let is : expr d us ≡ Ok (x, []) = ap (expr d) (sym (append-nil us)) ∙ right.complete us [] x (omega arith) s right.ended in
    let both : true ≡ false = sym (ap reads_all is) ∙ stops in absurd (cc)

-- ---- texts of one line

abbrev at : ℕ → Place
at start = record { line = 1; col = start + 1 }

abbrev token : TokenKind → ℕ → ℕ → Token
token k start len = record { kind = k; place = at start; start = start; len = len }

abbrev name : ℕ → List ℕ → Identifier
name start text = record { place = at start; text = text }

abbrev a_call_pieces : List Piece
a_call_pieces = pieces (codes "f(x: 1, 2)")
    (token kind.Identifier 0 1 ∷ token kind.OpenParenthesis 1 1 ∷ token kind.Identifier 2 1 ∷ token kind.Colon 3 1 ∷ token kind.Integer 5 1 ∷ token kind.Comma 6 1 ∷ token kind.Integer 8 1
    ∷ token kind.CloseParenthesis 9 1 ∷ [])

abbrev a_call_tree : Expr
a_call_tree = e.Name (name 0 (codes "f")) (Some ((Some (name 2 (codes "x")), e.Integer (at 5) 1) ∷ (None, e.Integer (at 8) 2) ∷ []))

-- f(x: 1, 2)
pub a_call : IsExpr 64 a_call_pieces a_call_tree
unfolding lead many starts starts_two is_utf8 chars encode string_value keyword_terminal operator_terminal mark identifier integer string negative sign call infix_by chain_of pair_of labelled listed_arguments closed_arguments rest_of_arguments arguments called member rest_of_group rest_of_super magnitude named implicit later_primary primary links post unary_of unary
a_call = spelled 64 a_call_pieces a_call_tree refl

abbrev levels_of_operators_pieces : List Piece
levels_of_operators_pieces = pieces (codes "-a + 1 * 2 == b")
    (token kind.Operator 0 1 ∷ token kind.Identifier 1 1 ∷ token kind.Operator 3 1 ∷ token kind.Integer 5 1 ∷ token kind.Operator 7 1 ∷ token kind.Integer 9 1 ∷ token kind.Operator 11 2
    ∷ token kind.Identifier 14 1 ∷ [])

abbrev levels_of_operators_tree : Expr
levels_of_operators_tree = e.Chain (e.Chain (e.Prefix (at 0) prefix.Minus (e.Name (name 1 (codes "a")) None)) ((op.Add, e.Chain (e.Integer (at 5) 1) ((op.Multiply, e.Integer (at 9) 2) ∷ [])) ∷ []))
    ((op.Equal, e.Name (name 14 (codes "b")) None) ∷ [])

-- -a + 1 * 2 == b
pub levels_of_operators : IsExpr 64 levels_of_operators_pieces levels_of_operators_tree
unfolding lead many starts starts_two is_utf8 chars encode string_value keyword_terminal operator_terminal mark identifier integer string negative sign call infix_by chain_of pair_of labelled listed_arguments closed_arguments rest_of_arguments arguments called member rest_of_group rest_of_super magnitude named implicit later_primary primary links post unary_of unary
levels_of_operators = spelled 64 levels_of_operators_pieces levels_of_operators_tree refl

abbrev a_member_of_a_group_pieces : List Piece
a_member_of_a_group_pieces = pieces (codes "(a || b).c()")
    (token kind.OpenParenthesis 0 1 ∷ token kind.Identifier 1 1 ∷ token kind.Operator 3 2 ∷ token kind.Identifier 6 1 ∷ token kind.CloseParenthesis 7 1 ∷ token kind.Dot 8 1
    ∷ token kind.Identifier 9 1 ∷ token kind.OpenParenthesis 10 1 ∷ token kind.CloseParenthesis 11 1 ∷ [])

abbrev a_member_of_a_group_tree : Expr
a_member_of_a_group_tree = e.Members (e.Parenthesised (at 0) (e.Chain (e.Name (name 1 (codes "a")) None) ((op.Or, e.Name (name 6 (codes "b")) None) ∷ []))) ((name 9 (codes "c"), Some []) ∷ [])

-- (a || b).c()
pub a_member_of_a_group : IsExpr 64 a_member_of_a_group_pieces a_member_of_a_group_tree
unfolding lead many starts starts_two is_utf8 chars encode string_value keyword_terminal operator_terminal mark identifier integer string negative sign call infix_by chain_of pair_of labelled listed_arguments closed_arguments rest_of_arguments arguments called member rest_of_group rest_of_super magnitude named implicit later_primary primary links post unary_of unary
a_member_of_a_group = spelled 64 a_member_of_a_group_pieces a_member_of_a_group_tree refl

abbrev no_comparison_of_comparisons_pieces : List Piece
no_comparison_of_comparisons_pieces = pieces (codes "a == b == c")
    (token kind.Identifier 0 1 ∷ token kind.Operator 2 2 ∷ token kind.Identifier 5 1 ∷ token kind.Operator 7 2 ∷ token kind.Identifier 10 1 ∷ [])

no_comparison_of_comparisons_stops : (d : ℕ) → reads_all (expr d no_comparison_of_comparisons_pieces) ≡ false
unfolding lead many starts starts_two is_utf8 chars encode string_value keyword_terminal operator_terminal mark identifier integer string negative sign call infix_by chain_of pair_of labelled listed_arguments closed_arguments rest_of_arguments arguments called member rest_of_group rest_of_super magnitude named implicit later_primary primary links post unary_of unary
no_comparison_of_comparisons_stops zero = refl
no_comparison_of_comparisons_stops (suc d) = refl

-- a == b == c
pub no_comparison_of_comparisons : (d : ℕ) (x : Expr) → IsExpr d no_comparison_of_comparisons_pieces x → ⊥
no_comparison_of_comparisons d = unspelled d no_comparison_of_comparisons_pieces (no_comparison_of_comparisons_stops d)

abbrev every_form_pieces : List Piece
every_form_pieces = pieces (codes "super.f(.x, -1, \"s\", self, Self, true, !false)")
    (token kind.Keyword 0 5 ∷ token kind.Dot 5 1 ∷ token kind.Identifier 6 1 ∷ token kind.OpenParenthesis 7 1 ∷ token kind.Dot 8 1 ∷ token kind.Identifier 9 1 ∷ token kind.Comma 10 1
    ∷ token kind.Operator 12 1 ∷ token kind.Integer 13 1 ∷ token kind.Comma 14 1 ∷ token kind.String 16 3 ∷ token kind.Comma 19 1 ∷ token kind.Keyword 21 4 ∷ token kind.Comma 25 1
    ∷ token kind.Keyword 27 4 ∷ token kind.Comma 31 1 ∷ token kind.Keyword 33 4 ∷ token kind.Comma 37 1 ∷ token kind.Operator 39 1 ∷ token kind.Keyword 40 5
    ∷ token kind.CloseParenthesis 45 1 ∷ [])

abbrev every_form_tree : Expr
every_form_tree = e.Super (at 0) (name 6 (codes "f")) ((None, e.ImplicitMember (at 8) (name 9 (codes "x")) None) ∷ (None, e.Negative (at 12) 1) ∷ (None, e.String (at 16) (codes "s"))
    ∷ (None, e.SelfValue (at 21)) ∷ (None, e.SelfType (at 27)) ∷ (None, e.Boolean (at 33) true) ∷ (None, e.Prefix (at 39) prefix.Not (e.Boolean (at 40) false)) ∷ [])

-- super.f(.x, -1, "s", self, Self, true, !false)
pub every_form : IsExpr 64 every_form_pieces every_form_tree
unfolding lead many starts starts_two is_utf8 chars encode string_value keyword_terminal operator_terminal mark identifier integer string negative sign call infix_by chain_of pair_of labelled listed_arguments closed_arguments rest_of_arguments arguments called member rest_of_group rest_of_super magnitude named implicit later_primary primary links post unary_of unary
every_form = spelled 64 every_form_pieces every_form_tree refl
