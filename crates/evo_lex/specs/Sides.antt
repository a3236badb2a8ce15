-- The white space beside a token, by the tokens before and behind it.
use Rattle.std.specs.Prelude.{◌+◌, Option, Some, None, Bool, true, false, not, nat_lt, ◌||◌, ◌&&◌, if◌then◌else◌}
use Rattle.evo_base.specs.declared.token.TokenKind.{TokenKind}
use Rattle.evo_base.specs.declared.token.TokenKind.TheVariants as kind
use Rattle.evo_base.specs.declared.token.Token.{Token}

-- a line feed stands between a token and the next
abbrev pub breaks_line : Token → Token → Bool
breaks_line t u = nat_lt t.place.line u.place.line

-- white space or a comment stands between a token and the next
abbrev pub is_apart : Token → Token → Bool
is_apart t u = nat_lt (t.start + t.len) u.start

-- , ; :
abbrev pub is_separator : TokenKind → Bool
is_separator kind.Comma = true
is_separator kind.Semicolon = true
is_separator kind.Colon = true
is_separator k = false

-- ( {
abbrev pub is_opening : TokenKind → Bool
is_opening kind.OpenParenthesis = true
is_opening kind.OpenBrace = true
is_opening k = false

-- ) }
abbrev pub is_closing : TokenKind → Bool
is_closing kind.CloseParenthesis = true
is_closing kind.CloseBrace = true
is_closing k = false

-- what counts as white space on the left of a token, by the token before it, if there is one
abbrev pub white_left : Option Token → Token → Bool
white_left None t = true
white_left (Some before) t = is_apart before t || is_opening before.kind || is_separator before.kind

-- what counts as white space on the right of a token, by the token behind it, if there is one
abbrev pub white_right : Token → Option Token → Bool
white_right t None = true
white_right t (Some behind) = is_apart t behind || is_closing behind.kind || is_separator behind.kind

-- an operator is infix with white space on both sides or on neither, and prefix with it on the left alone
abbrev pub is_infix : Option Token → Token → Option Token → Bool
is_infix before t behind = if white_left before t then white_right t behind else not (white_right t behind)

abbrev pub is_prefix : Option Token → Token → Option Token → Bool
is_prefix before t behind = white_left before t && not (white_right t behind)
