-- Tokens as they are written: each with the white space before it, and what the white space beside an operator makes of it.
use Rattle.std.specs.Prelude.{◌≡◌, ℕ, List, [], ◌∷◌, ◌++◌, length, Bool, true, false, not, ◌&&◌, ◌||◌, ◌==◌, slice_index, Some}
use Rattle.std.specs.Str.{IsUtf8, chars}
use Rattle.unicode_ident.specs.Ident.{is_xid_continue}
use Rattle.evo_base.specs.declared.token.TokenKind.{TokenKind}
use Rattle.evo_base.specs.declared.token.TokenKind.TheVariants as kind
use Rattle.evo_lex.specs.declared.front.Front.TheVariants as front
use Rattle.evo_lex.specs.Characters.{is_operator}
use Rattle.evo_lex.specs.Front.{front_of}
use Rattle.evo_lex.specs.Sides.{is_separator, is_opening, is_closing}
use Rattle.evo_tree.specs.declared.terminal.Role.{Role}
use Rattle.evo_tree.specs.declared.terminal.Role.TheVariants as role

pub record Written : Type 0 where
  -- the white space before it
  pub gap : List ℕ
  pub kind : TokenKind
  pub text : List ℕ
  -- of an operator that is tested for it; else `Unattached`
  pub role : Role

-- the text of written tokens
abbrev pub joined : List Written → List ℕ
joined [] = []
joined (w ∷ ws) = w.gap ++ (w.text ++ joined ws)

abbrev pub is_none : List ℕ → Bool
is_none [] = true
is_none (c ∷ cs) = false

-- a blank or a line feed
abbrev pub is_blank : ℕ → Bool
is_blank c = c == 32 || c == 10

abbrev pub is_gap : List ℕ → Bool
is_gap [] = true
is_gap (c ∷ cs) = is_blank c && is_gap cs

-- a line feed stands in it
abbrev pub breaks : List ℕ → Bool
breaks [] = false
breaks (c ∷ cs) = c == 10 || breaks cs

-- ---- neighbours

abbrev pub is_wordy : TokenKind → Bool
is_wordy kind.Identifier = true
is_wordy kind.Underscore = true
is_wordy kind.Keyword = true
is_wordy kind.Integer = true
is_wordy k = false

abbrev pub is_operator_kind : TokenKind → Bool
is_operator_kind kind.Operator = true
is_operator_kind k = false

abbrev pub is_string_kind : TokenKind → Bool
is_string_kind kind.String = true
is_string_kind k = false

abbrev pub is_integer_kind : TokenKind → Bool
is_integer_kind kind.Integer = true
is_integer_kind k = false

-- ( ) { } , ; : . @ #
abbrev pub is_mark : TokenKind → Bool
is_mark k = not (is_wordy k || is_operator_kind k || is_string_kind k)

-- a token of the one kind ends where one of the other begins
abbrev pub parts_from : TokenKind → TokenKind → Bool
parts_from kind.Identifier k = not (is_wordy k)
parts_from kind.Underscore k = not (is_wordy k)
parts_from kind.Keyword k = not (is_wordy k)
parts_from kind.Integer k = not (is_wordy k)
parts_from kind.Operator k = not (is_operator_kind k)
parts_from kind.String k = not (is_string_kind k)
parts_from k k' = true

-- a minus, and not `!`
abbrev pub is_minus : List ℕ → Bool
is_minus [] = false
is_minus (c ∷ []) = c == 45
is_minus (c ∷ d ∷ text) = false

-- what stands behind a token gives it its role
abbrev pub keeps_role : Role → List ℕ → Written → Bool
keeps_role role.Unattached text w = true
keeps_role role.Infix text w = not (is_none w.gap)
keeps_role role.Prefix text w = is_none w.gap && not (is_closing w.kind || is_separator w.kind) && not (is_minus text && is_integer_kind w.kind)
keeps_role role.Negative text w = is_none w.gap && is_minus text && is_integer_kind w.kind

-- what stands before a token gives it its role
abbrev pub gives_role : TokenKind → Written → Role → Bool
gives_role k w role.Unattached = true
gives_role k w role.Infix = not (is_none w.gap)
gives_role k w role.Prefix = not (is_none w.gap) || (is_opening k || is_separator k)
gives_role k w role.Negative = not (is_none w.gap) || (is_opening k || is_separator k)

-- the second token may stand behind the first
abbrev pub joins : Written → Written → Bool
joins v w = (not (is_none w.gap) || parts_from v.kind w.kind) && (keeps_role v.role v.text w && gives_role v.kind w w.role)

abbrev pub is_unattached : Role → Bool
is_unattached role.Unattached = true
is_unattached r = false

-- these may stand behind the token
abbrev pub leads : Written → List Written → Bool
leads v [] = is_unattached v.role
leads v (w ∷ ws) = joins v w

-- what does not belong to a token of this kind stands behind it
abbrev pub ends_before : TokenKind → List ℕ → Bool
ends_before kind.Identifier rest = not (is_xid_continue (slice_index rest 0))
ends_before kind.Underscore rest = not (is_xid_continue (slice_index rest 0))
ends_before kind.Keyword rest = not (is_xid_continue (slice_index rest 0))
ends_before kind.Integer rest = not (is_xid_continue (slice_index rest 0))
ends_before kind.Operator rest = not (is_operator (slice_index rest 0))
ends_before kind.String rest = not (slice_index rest 0 == 34)
ends_before k rest = true

-- the token's text is a token of its kind, whatever stands behind it that does not belong to it
pub record IsToken (w : Written) : Type 0 where
  pub utf8 : IsUtf8 w.text
  pub gap : is_gap w.gap ≡ true
  -- `rest` are the characters behind it
  pub front : (rest : List ℕ) → ends_before w.kind rest ≡ true → front_of (chars w.text ++ rest) ≡ Some (front.Token w.kind, length (chars w.text))

-- written tokens that are cut as they are written
abbrev pub Sound : List Written → Type 0
Sound [] = Unit {0}
Sound (w ∷ ws) = IsToken w × (leads w ws ≡ true) × Sound ws
