-- Tokens as the grammar sees them: each with its text, its place and the white space beside it.
use Rattle.std.specs.Prelude.{ℕ, zero, suc, ◌==◌, List, [], ◌∷◌, take, drop, Option, Some, None, Bool, true, false, not, is_some, ◌&&◌, ◌||◌, nat_le, if◌then◌else◌}
use Rattle.std.specs.Str.{bytes_eq, is_utf8}
use Rattle.evo_base.specs.declared.place.Place.{Place}
use Rattle.evo_base.specs.declared.token.TokenKind.TheVariants as kind
use Rattle.evo_base.specs.declared.token.TokenKind.{TokenKind}
use Rattle.evo_base.specs.declared.token.Token.{Token}
use Rattle.evo_combinators.specs.Laws.{first}
use Rattle.evo_lex.specs.Front.{when, integer_value}
use Rattle.evo_lex.specs.Strings.{string_value}
use Rattle.evo_lex.specs.Sides.{breaks_line, is_infix, is_prefix}
use Rattle.evo_tree.specs.declared.name.Identifier.{Identifier}
use Rattle.evo_tree.specs.declared.expression.PrefixOperator.{PrefixOperator}
use Rattle.evo_tree.specs.declared.expression.PrefixOperator.TheVariants as prefix
use Rattle.evo_tree.specs.declared.terminal.Terminal.{Terminal}
use Rattle.evo_tree.specs.declared.terminal.Terminal.TheVariants as t
use Rattle.evo_tree.specs.declared.terminal.Role.{Role}
use Rattle.evo_tree.specs.declared.terminal.Role.TheVariants as role
use Rattle.evo_tree.specs.Terminals.{terminal_of, number_of}

-- a token, and what the white space beside it makes of it
pub record Piece : Type 0 where
  pub terminal : Terminal
  pub role : Role
  -- it stands on a later line than the token before it
  pub below : Bool
  pub place : Place
  pub text : List ℕ

-- ---- the pieces of a text

abbrev pub text_of : List ℕ → Token → List ℕ
text_of text u = take u.len (drop u.start text)

abbrev pub is_integer_kind : TokenKind → Bool
is_integer_kind kind.Integer = true
is_integer_kind k = false

abbrev pub is_integer_token : Option Token → Bool
is_integer_token None = false
is_integer_token (Some u) = is_integer_kind u.kind

-- `-` is negative where it stands before an integer
abbrev pub prefix_role : Terminal → Bool → Role
prefix_role t.Minus true = role.Negative
prefix_role k integer = role.Prefix

abbrev pub role_of : Terminal → Option Token → Token → Option Token → Role
role_of k before u behind = if is_prefix before u behind then prefix_role k (is_integer_token behind)
    else if is_infix before u behind then role.Infix
    else role.Unattached

abbrev pub is_below : Option Token → Token → Bool
is_below None u = false
is_below (Some before) u = breaks_line before u

-- a token of a text, by those before and behind it
abbrev pub piece : List ℕ → Option Token → Token → Option Token → Piece
piece text before u behind = record {
  terminal = terminal_of u.kind (text_of text u);
  role = role_of (terminal_of u.kind (text_of text u)) before u behind;
  below = is_below before u;
  place = u.place;
  text = text_of text u;
}

-- the tokens of a text behind this one
abbrev pub pieces_from : List ℕ → Option Token → List Token → List Piece
pieces_from text before [] = []
pieces_from text before (u ∷ us) = piece text before u (first us) ∷ pieces_from text (Some u) us

abbrev pub pieces : List ℕ → List Token → List Piece
pieces text tokens = pieces_from text None tokens

-- the token before that of this number
abbrev pub token_before : ℕ → List Token → Option Token
token_before zero tokens = None
token_before (suc n) tokens = first (drop n tokens)

-- ---- tests of one piece

abbrev pub is_terminal : Terminal → Piece → Bool
is_terminal k p = number_of p.terminal == number_of k

-- takes this terminal, with its place
unfoldable pub mark : Terminal → Piece → Option Place
mark k p = when (is_terminal k p) p.place

-- an identifier; that of a text is always UTF-8
abbrev pub is_identifier : Piece → Bool
is_identifier p = is_terminal t.Identifier p && is_utf8 p.text

-- takes an identifier
unfoldable pub identifier : Piece → Option Identifier
identifier p = when (is_identifier p) (record { place = p.place; text = p.text })

-- an identifier of this very text
abbrev pub is_word : List ℕ → Piece → Bool
is_word w p = is_terminal t.Identifier p && bytes_eq p.text w

-- takes an identifier of this very text, which is a keyword in its place
unfoldable pub word : List ℕ → Piece → Option Place
word w p = when (is_word w p) p.place

-- takes an integer of at most this value
unfoldable pub integer : ℕ → Piece → Option (Place × ℕ)
integer most p = when (is_terminal t.Integer p && nat_le (integer_value p.text) most) (p.place, integer_value p.text)

-- takes a string, with its characters
unfoldable pub string : Piece → Option (Place × List ℕ)
string p = when (is_terminal t.String p && is_utf8 (string_value p.text)) (p.place, string_value p.text)

abbrev pub role_number : Role → ℕ
role_number role.Infix = 0
role_number role.Prefix = 1
role_number role.Negative = 2
role_number role.Unattached = 3

abbrev pub has_role : Role → Piece → Bool
has_role r p = role_number p.role == role_number r

-- takes `-` directly before an integer
unfoldable pub negative : Piece → Option Place
negative p = when (is_terminal t.Minus p && has_role role.Negative p) p.place

abbrev pub sign_of : Terminal → Option PrefixOperator
sign_of t.Minus = Some prefix.Minus
sign_of t.Not = Some prefix.Not
sign_of k = None

abbrev pub placed : {A : Type 0} → Place → Option A → Option (Place × A)
placed place None = None
placed place (Some a) = Some (place, a)

-- takes an operator before its operand
unfoldable pub sign : Piece → Option (Place × PrefixOperator)
sign p = if has_role role.Prefix p then placed p.place (sign_of p.terminal) else None

-- takes `(` on the line of the token before it
unfoldable pub call : Piece → Option Place
call p = when (is_terminal t.OpenParenthesis p && not p.below) p.place

-- opens a nesting: `(`, `{`, or an operator before its operand
abbrev pub opens_nesting : Piece → Bool
opens_nesting p = is_terminal t.OpenParenthesis p || is_terminal t.OpenBrace p || is_some (sign p)
