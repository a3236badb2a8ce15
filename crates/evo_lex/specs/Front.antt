-- What the front of a text is: white space or a token, and how many characters it has.
use Rattle.std.specs.Prelude.{ℕ, zero, suc, ◌+◌, ◌^◌, List, [], ◌∷◌, slice_index, take, drop, Option, Some, None, Bool, not, nat_lt, nat_le, ◌||◌, ◌&&◌, ◌==◌, codes, if◌then◌else◌}
use Rattle.std.specs.List.{list_any}
use Rattle.std.specs.Option.{option_map, option_and_then}
use Rattle.std.specs.Char.{is_ascii_digit}
use Rattle.std.specs.Str.{bytes_eq}
use Rattle.unicode_ident.specs.Ident.{is_xid_continue}
use Rattle.evo_base.specs.declared.token.TokenKind.{TokenKind}
use Rattle.evo_base.specs.declared.token.TokenKind.TheVariants as kind
use Rattle.evo_base.specs.Keywords.{is_keyword}
use Rattle.evo_lex.specs.Codes.{line_feed, quote, hash, apostrophe, open_parenthesis, close_parenthesis, star, comma, dot, slash, digit_zero, colon, semicolon, at_sign, backslash, letter_b, letter_n, letter_o, letter_r, letter_t, letter_u, letter_x, open_brace, close_brace}
use Rattle.evo_lex.specs.declared.class.Base.{Base}
use Rattle.evo_lex.specs.declared.class.Base.TheVariants as base
use Rattle.evo_lex.specs.declared.class.Class.{Class}
use Rattle.evo_lex.specs.declared.class.Class.TheVariants as class
use Rattle.evo_lex.specs.declared.front.Front.{Front}
use Rattle.evo_lex.specs.declared.front.Front.TheVariants as front
use Rattle.evo_lex.specs.Characters.{is_white, begins_identifier, is_operator, is_digit, run_of, value_of}

-- a value where a test is true, and nothing where it is false
abbrev pub when : {A : Type 0} → Bool → A → Option A
when b a = if b then Some a else None

-- the text begins with these two characters, of which none is 0
abbrev pub starts : ℕ → ℕ → List ℕ → Bool
starts a b text = slice_index text 0 == a && slice_index text 1 == b

-- `//` or `/*`
abbrev pub begins_comment : List ℕ → Bool
begins_comment text = starts slash slash text || starts slash star text

-- Where a comment ends in the text behind its opening, of which n characters are read, with so many further comments open: behind the `*/` that closes it.
abbrev pub comment_from : ℕ → ℕ → List ℕ → Option ℕ
comment_from n depth [] = None
comment_from n depth (c ∷ []) = None
comment_from n zero (c ∷ d ∷ text) = if c == star && d == slash then Some (n + 2)
    else if c == slash && d == star then comment_from (n + 2) 1 text
    else comment_from (n + 1) 0 (d ∷ text)
comment_from n (suc depth) (c ∷ d ∷ text) = if c == star && d == slash then comment_from (n + 2) depth text
    else if c == slash && d == star then comment_from (n + 2) (suc (suc depth)) text
    else comment_from (n + 1) (suc depth) (d ∷ text)

-- one white character, or one comment; a comment `//` ends before the line feed
unfoldable pub white_of : List ℕ → Option ℕ
white_of text = if is_white (slice_index text 0) then Some 1
    else if starts slash slash text then Some (2 + run_of class.OfLine (drop 2 text))
    else if starts slash star text then comment_from 2 0 (drop 2 text)
    else None

-- what an identifier that is a front is
unfoldable pub kind_of : List ℕ → TokenKind
kind_of word = if bytes_eq (codes "_") word then kind.Underscore else if is_keyword word then kind.Keyword else kind.Identifier

-- the base of an integer, by the letter behind its zero
abbrev pub base_of : List ℕ → Base
base_of text = if starts digit_zero letter_x text then base.Hexadecimal
    else if starts digit_zero letter_o text then base.Octal
    else if starts digit_zero letter_b text then base.Binary
    else base.Decimal

-- how many characters say the base
abbrev pub prefix_of : Base → ℕ
prefix_of base.Decimal = 0
prefix_of base.Hexadecimal = 2
prefix_of base.Octal = 2
prefix_of base.Binary = 2

-- a character, and those behind it that are of this class
abbrev pub run_behind : Class → List ℕ → ℕ
run_behind k text = 1 + run_of k (drop 1 text)

-- so many characters are the digits of an integer: one digit first, a value of at most 2^63, and nothing behind that an identifier goes on with
abbrev pub is_number : Base → ℕ → List ℕ → Bool
is_number b n text = is_digit b (slice_index text 0) && nat_le (value_of b (take n text)) (2 ^ 63) && not (is_xid_continue (slice_index text n))

-- the length of an integer of this base, by the digits behind what says the base
abbrev pub digits_of : Base → List ℕ → Option ℕ
digits_of b text = when (is_number b (run_behind (class.Spaced b) text) text) (prefix_of b + run_behind (class.Spaced b) text)

unfoldable pub integer_of : List ℕ → Option ℕ
integer_of text = digits_of (base_of text) (drop (prefix_of (base_of text)) text)

-- the value of an integer, by its text
abbrev pub integer_value : List ℕ → ℕ
integer_value text = value_of (base_of text) (drop (prefix_of (base_of text)) text)

-- one of 0 \ t n r " '
abbrev pub is_escape : ℕ → Bool
is_escape c = c == digit_zero || c == backslash || c == letter_t || c == letter_n || c == letter_r || c == quote || c == apostrophe

-- the value of a character
abbrev pub is_scalar : ℕ → Bool
is_scalar v = nat_lt v 0xD800 || (nat_lt 0xDFFF v && nat_lt v 0x110000)

-- so many characters are 1 to 8 hexadecimal digits of a character's value, and `}` stands behind them
abbrev pub is_scalar_text : ℕ → List ℕ → Bool
is_scalar_text n text = nat_lt 0 n && nat_le n 8 && slice_index text n == close_brace && is_scalar (value_of base.Hexadecimal (take n text))

-- the length of the escape that stands behind a backslash
unfoldable pub escape_of : List ℕ → Option ℕ
escape_of text = if is_escape (slice_index text 0) then Some 1
    else if starts letter_u open_brace text then when (is_scalar_text (run_of (class.Digits base.Hexadecimal) (drop 2 text)) (drop 2 text)) (run_of (class.Digits base.Hexadecimal) (drop 2 text) + 3)
    else None

-- Where a string ends, of which n characters are read, and so many further ones are of an escape: behind its `"`.
abbrev pub string_from : ℕ → ℕ → List ℕ → Option ℕ
string_from n skip [] = None
string_from n (suc skip) (c ∷ text) = string_from (n + 1) skip text
string_from n zero (c ∷ text) = if c == quote then Some (n + 1)
    else if c == line_feed then None
    else if c == backslash then option_and_then (λ k. string_from (n + 1) k text) (escape_of text)
    else string_from (n + 1) 0 text

-- a string, where the text does not begin with three `"`
unfoldable pub string_of : List ℕ → Option ℕ
string_of text = if slice_index text 1 == quote && slice_index text 2 == quote then None else string_from 1 0 (drop 1 text)

-- the longest run of operator characters before a comment
abbrev pub operator_run : List ℕ → ℕ
operator_run [] = 0
operator_run (c ∷ text) = if is_operator c && not (begins_comment (c ∷ text)) then 1 + operator_run text else 0

abbrev pub operators : List (List ℕ)
operators = codes "+" ∷ codes "-" ∷ codes "*" ∷ codes "/" ∷ codes "%" ∷ codes "&+" ∷ codes "&-" ∷ codes "&*"
    ∷ codes "==" ∷ codes "!=" ∷ codes "<" ∷ codes "<=" ∷ codes ">" ∷ codes ">=" ∷ codes "===" ∷ codes "!=="
    ∷ codes "&&" ∷ codes "||" ∷ codes "!" ∷ codes "&" ∷ codes "=" ∷ codes "+=" ∷ codes "-=" ∷ codes "*="
    ∷ codes "/=" ∷ codes "%=" ∷ codes "->" ∷ []

unfoldable pub is_operator_word : List ℕ → Bool
is_operator_word word = list_any (λ k. bytes_eq k word) operators

unfoldable pub operator_of : List ℕ → Option ℕ
operator_of text = when (is_operator_word (take (operator_run text) text)) (operator_run text)

-- the kinds of one character: ( ) { } , ; : . @ #
abbrev pub mark_of : ℕ → Option TokenKind
mark_of c = if c == open_parenthesis then Some kind.OpenParenthesis
    else if c == close_parenthesis then Some kind.CloseParenthesis
    else if c == open_brace then Some kind.OpenBrace
    else if c == close_brace then Some kind.CloseBrace
    else if c == comma then Some kind.Comma
    else if c == semicolon then Some kind.Semicolon
    else if c == colon then Some kind.Colon
    else if c == dot then Some kind.Dot
    else if c == at_sign then Some kind.At
    else if c == hash then Some kind.Hash
    else None

-- the token that is the front of a text, by its first character
unfoldable pub first_of : List ℕ → Option (TokenKind × ℕ)
first_of text = if begins_identifier (slice_index text 0) then Some (kind_of (take (run_behind class.Continuing text) text), run_behind class.Continuing text)
    else if is_ascii_digit (slice_index text 0) then option_map (λ n. (kind.Integer, n)) (integer_of text)
    else if slice_index text 0 == quote then option_map (λ n. (kind.String, n)) (string_of text)
    else if is_operator (slice_index text 0) then option_map (λ n. (kind.Operator, n)) (operator_of text)
    else option_map (λ k. (k, 1)) (mark_of (slice_index text 0))

-- white space, or else a token
abbrev pub white_or : Option ℕ → Option (TokenKind × ℕ) → Option (Front × ℕ)
white_or (Some n) token = Some (front.White, n)
white_or None token = option_map (λ t. (front.Token t.0, t.1)) token

unfoldable pub front_of : List ℕ → Option (Front × ℕ)
front_of [] = None
front_of (c ∷ text) = white_or (white_of (c ∷ text)) (first_of (c ∷ text))
