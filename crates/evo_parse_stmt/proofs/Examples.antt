-- Small texts are spelled by their statements.
use Rattle.std.proofs.Common.{◌≡◌, ℕ, ◌+◌, Bool, true, false, List, [], ◌∷◌, length, codes, Some, None, Ok, refl, sym, ◌∙◌, subst, arith, append-nil}
use Rattle.std.specs.Str.{is_utf8, chars}
use lib.Utf8.{encode}
use denote.Hole.Carrier.{out}
use Rattle.evo_base.specs.declared.place.Place.{Place}
use Rattle.evo_base.specs.declared.token.TokenKind.{TokenKind}
use Rattle.evo_base.specs.declared.token.TokenKind.TheVariants as kind
use Rattle.evo_base.specs.declared.token.Token.{Token}
use Rattle.evo_lex.specs.Strings.{string_value}
use Rattle.evo_combinators.specs.Reader.{Outcome, lead, many}
use Rattle.evo_combinators.specs.Guard.{ahead, starts, starts_two}
use Rattle.evo_combinators.specs.Three.{starts_three}
use Rattle.evo_combinators.specs.Attempt.{tries}
use Rattle.evo_tree.specs.declared.name.Identifier.{Identifier}
use Rattle.evo_tree.specs.declared.expression.Expr.{out-Expr}
use Rattle.evo_tree.specs.declared.expression.Expr.TheVariants as e
use Rattle.evo_tree.specs.declared.statement.Introducer.TheVariants as introducer
use Rattle.evo_tree.specs.declared.statement.AssignmentOperator.TheVariants as assignment
use Rattle.evo_tree.specs.declared.statement.Pattern.TheVariants as pattern
use Rattle.evo_tree.specs.declared.statement.ClauseLabel.TheVariants as label
use Rattle.evo_tree.specs.declared.statement.Stmt.{Stmt}
use Rattle.evo_tree.specs.declared.statement.Stmt.TheVariants as s
use Rattle.evo_tree.specs.Terminals.{keyword_terminal, operator_terminal}
use Rattle.evo_tree.specs.Pieces.{Piece, pieces, mark, identifier, word, integer, string, negative, sign, call}
use Rattle.evo_tree.specs.Types.{type_head, plain_name}
use Rattle.evo_tree.specs.Expressions.{infix_by}
use Rattle.evo_tree.specs.Statements as grammar
use Rattle.evo_tree.specs.Statements.{block, clause, binding, IsStmt}
use Rattle.evo_parse_expr.specs.Read as expression
use Rattle.evo_parse_stmt.specs.Read as read
use Rattle.evo_parse_stmt.specs.Read.{stmt}
use Rattle.evo_parse_stmt.proofs.Family.{stmt_grammar}

-- what is read to the end is spelled
spelled : (inits : Bool) (d : ℕ) (us : List Piece) (x : Stmt) → ◌≡◌ {A = Outcome Piece Stmt} (stmt inits d us) (Ok (x, [])) → IsStmt inits d us x
spelled inits d us x is =
    let (vs, cut, s, again) = ((stmt_grammar inits).right d (length us)).sound us [] x (omega arith) is in
    subst (λ ws. IsStmt inits d ws x) (sym (cut ∙ append-nil vs)) s

-- ---- texts of one line

abbrev at : ℕ → Place
at start = record { line = 1; col = start + 1 }

abbrev token : TokenKind → ℕ → ℕ → Token
token k start len = record { kind = k; place = at start; start = start; len = len }

abbrev name : ℕ → List ℕ → Identifier
name start text = record { place = at start; text = text }

abbrev a_choice_pieces : List Piece
a_choice_pieces = pieces (codes "if a { return 1 } else { return 2 }")
    (token kind.Keyword 0 2 ∷ token kind.Identifier 3 1 ∷ token kind.OpenBrace 5 1 ∷ token kind.Keyword 7 6 ∷ token kind.Integer 14 1 ∷ token kind.CloseBrace 16 1 ∷ token kind.Keyword 18 4
    ∷ token kind.OpenBrace 23 1 ∷ token kind.Keyword 25 6 ∷ token kind.Integer 32 1 ∷ token kind.CloseBrace 34 1 ∷ [])

abbrev a_choice_tree : Stmt
a_choice_tree = s.If (at 0) ((Some (e.Name (name 3 (codes "a")) None), block (at 5) (s.Return (at 7) (Some (e.Integer (at 14) 1)) ∷ []) (at 16))
    ∷ (None, block (at 23) (s.Return (at 25) (Some (e.Integer (at 32) 2)) ∷ []) (at 34)) ∷ [])

-- if a { return 1 } else { return 2 }
pub a_choice : IsStmt false 64 a_choice_pieces a_choice_tree
unfolding lead many ahead starts starts_two starts_three tries is_utf8 chars encode string_value keyword_terminal operator_terminal mark identifier word integer string negative sign call infix_by type_head plain_name out-Expr out grammar.introduces grammar.attached_minus grammar.assigns grammar.is_here grammar.is_below grammar.is_later grammar.is_target grammar.assigns_to expression.chain_of expression.pair_of expression.labelled expression.listed_arguments expression.closed_arguments expression.rest_of_arguments expression.arguments expression.called expression.member expression.rest_of_group expression.rest_of_super expression.magnitude expression.named expression.implicit expression.later_primary expression.primary expression.links expression.post expression.unary_of expression.unary expression.type_of read.binder read.sub read.subs read.rest_of_payload read.payload read.path read.magnitude read.implicit read.typed read.pattern read.later read.further read.some_statements read.rest_of_block read.block_of read.patterns read.unknown read.label read.clause read.rest_of_clauses read.clauses_of read.annotation read.rest_of_local read.rest_of_discard read.branch read.behind_else read.rest_of_if read.rest_of_while read.value_here read.rest_of_return read.rest_of_switch read.self_init read.super_init read.rest_of_assignment read.action read.leaving read.stmt_of read.stmt
a_choice = spelled false 64 a_choice_pieces a_choice_tree refl

abbrev a_switch_pieces : List Piece
a_switch_pieces = pieces (codes "switch x { case .a(let y, k: _), 1: let z: T = y; _ = z; break }")
    (token kind.Keyword 0 6 ∷ token kind.Identifier 7 1 ∷ token kind.OpenBrace 9 1 ∷ token kind.Keyword 11 4 ∷ token kind.Dot 16 1 ∷ token kind.Identifier 17 1 ∷ token kind.OpenParenthesis 18 1
    ∷ token kind.Keyword 19 3 ∷ token kind.Identifier 23 1 ∷ token kind.Comma 24 1 ∷ token kind.Identifier 26 1 ∷ token kind.Colon 27 1 ∷ token kind.Underscore 29 1
    ∷ token kind.CloseParenthesis 30 1 ∷ token kind.Comma 31 1 ∷ token kind.Integer 33 1 ∷ token kind.Colon 34 1 ∷ token kind.Keyword 36 3 ∷ token kind.Identifier 40 1
    ∷ token kind.Colon 41 1 ∷ token kind.Identifier 43 1 ∷ token kind.Operator 45 1 ∷ token kind.Identifier 47 1 ∷ token kind.Semicolon 48 1 ∷ token kind.Underscore 50 1
    ∷ token kind.Operator 52 1 ∷ token kind.Identifier 54 1 ∷ token kind.Semicolon 55 1 ∷ token kind.Keyword 57 5 ∷ token kind.CloseBrace 63 1 ∷ [])

abbrev a_switch_tree : Stmt
a_switch_tree = s.Switch (at 0) (e.Name (name 7 (codes "x")) None) (clause (
  at 11,
  label.Case (pattern.Case (at 16) None (name 17 (codes "a")) (Some (binding None (Some (name 23 (codes "y"))) ∷ binding (Some (name 26 (codes "k"))) None ∷ []))
      ∷ pattern.Integer (at 33) 1 ∷ []),
)
    (s.Local (at 36) introducer.Let (name 40 (codes "z")) (Some (record { place = at 43; names = codes "T" ∷ [] })) (e.Name (name 47 (codes "y")) None)
    ∷ s.Discard (at 50) (e.Name (name 54 (codes "z")) None) ∷ s.Break (at 57) ∷ []) ∷ [])

-- switch x { case .a(let y, k: _), 1: let z: T = y; _ = z; break }
pub a_switch : IsStmt false 64 a_switch_pieces a_switch_tree
unfolding lead many ahead starts starts_two starts_three tries is_utf8 chars encode string_value keyword_terminal operator_terminal mark identifier word integer string negative sign call infix_by type_head plain_name out-Expr out grammar.introduces grammar.attached_minus grammar.assigns grammar.is_here grammar.is_below grammar.is_later grammar.is_target grammar.assigns_to expression.chain_of expression.pair_of expression.labelled expression.listed_arguments expression.closed_arguments expression.rest_of_arguments expression.arguments expression.called expression.member expression.rest_of_group expression.rest_of_super expression.magnitude expression.named expression.implicit expression.later_primary expression.primary expression.links expression.post expression.unary_of expression.unary expression.type_of read.binder read.sub read.subs read.rest_of_payload read.payload read.path read.magnitude read.implicit read.typed read.pattern read.later read.further read.some_statements read.rest_of_block read.block_of read.patterns read.unknown read.label read.clause read.rest_of_clauses read.clauses_of read.annotation read.rest_of_local read.rest_of_discard read.branch read.behind_else read.rest_of_if read.rest_of_while read.value_here read.rest_of_return read.rest_of_switch read.self_init read.super_init read.rest_of_assignment read.action read.leaving read.stmt_of read.stmt
a_switch = spelled false 64 a_switch_pieces a_switch_tree refl

abbrev an_assignment_pieces : List Piece
an_assignment_pieces = pieces (codes "x += 1")
    (token kind.Identifier 0 1 ∷ token kind.Operator 2 2 ∷ token kind.Integer 5 1 ∷ [])

abbrev an_assignment_tree : Stmt
an_assignment_tree = s.Assign (e.Name (name 0 (codes "x")) None) assignment.Add (e.Integer (at 5) 1)

-- x += 1
pub an_assignment : IsStmt false 64 an_assignment_pieces an_assignment_tree
unfolding lead many ahead starts starts_two starts_three tries is_utf8 chars encode string_value keyword_terminal operator_terminal mark identifier word integer string negative sign call infix_by type_head plain_name out-Expr out grammar.introduces grammar.attached_minus grammar.assigns grammar.is_here grammar.is_below grammar.is_later grammar.is_target grammar.assigns_to expression.chain_of expression.pair_of expression.labelled expression.listed_arguments expression.closed_arguments expression.rest_of_arguments expression.arguments expression.called expression.member expression.rest_of_group expression.rest_of_super expression.magnitude expression.named expression.implicit expression.later_primary expression.primary expression.links expression.post expression.unary_of expression.unary expression.type_of read.binder read.sub read.subs read.rest_of_payload read.payload read.path read.magnitude read.implicit read.typed read.pattern read.later read.further read.some_statements read.rest_of_block read.block_of read.patterns read.unknown read.label read.clause read.rest_of_clauses read.clauses_of read.annotation read.rest_of_local read.rest_of_discard read.branch read.behind_else read.rest_of_if read.rest_of_while read.value_here read.rest_of_return read.rest_of_switch read.self_init read.super_init read.rest_of_assignment read.action read.leaving read.stmt_of read.stmt
an_assignment = spelled false 64 an_assignment_pieces an_assignment_tree refl

abbrev an_initialisation_pieces : List Piece
an_initialisation_pieces = pieces (codes "self.init(x: 1)")
    (token kind.Keyword 0 4 ∷ token kind.Dot 4 1 ∷ token kind.Keyword 5 4 ∷ token kind.OpenParenthesis 9 1 ∷ token kind.Identifier 10 1 ∷ token kind.Colon 11 1 ∷ token kind.Integer 13 1
    ∷ token kind.CloseParenthesis 14 1 ∷ [])

abbrev an_initialisation_tree : Stmt
an_initialisation_tree = s.SelfInit (at 0) ((Some (name 10 (codes "x")), e.Integer (at 13) 1) ∷ [])

-- self.init(x: 1)
pub an_initialisation : IsStmt true 64 an_initialisation_pieces an_initialisation_tree
unfolding lead many ahead starts starts_two starts_three tries is_utf8 chars encode string_value keyword_terminal operator_terminal mark identifier word integer string negative sign call infix_by type_head plain_name out-Expr out grammar.introduces grammar.attached_minus grammar.assigns grammar.is_here grammar.is_below grammar.is_later grammar.is_target grammar.assigns_to expression.chain_of expression.pair_of expression.labelled expression.listed_arguments expression.closed_arguments expression.rest_of_arguments expression.arguments expression.called expression.member expression.rest_of_group expression.rest_of_super expression.magnitude expression.named expression.implicit expression.later_primary expression.primary expression.links expression.post expression.unary_of expression.unary expression.type_of read.binder read.sub read.subs read.rest_of_payload read.payload read.path read.magnitude read.implicit read.typed read.pattern read.later read.further read.some_statements read.rest_of_block read.block_of read.patterns read.unknown read.label read.clause read.rest_of_clauses read.clauses_of read.annotation read.rest_of_local read.rest_of_discard read.branch read.behind_else read.rest_of_if read.rest_of_while read.value_here read.rest_of_return read.rest_of_switch read.self_init read.super_init read.rest_of_assignment read.action read.leaving read.stmt_of read.stmt
an_initialisation = spelled true 64 an_initialisation_pieces an_initialisation_tree refl
