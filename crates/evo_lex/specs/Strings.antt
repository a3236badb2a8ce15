-- The characters of a string, by the bytes of its token.
use Rattle.std.specs.Prelude.{ℕ, zero, suc, ◌+◌, ◌-◌, List, [], ◌∷◌, ◌++◌, take, drop, length, slice_index, ◌==◌, if◌then◌else◌}
use Rattle.std.specs.Char.{encode_utf8}
use Rattle.evo_lex.specs.Codes.{tab, line_feed, carriage_return, digit_zero, backslash, letter_n, letter_r, letter_t, letter_u}
use Rattle.evo_lex.specs.declared.class.Base.TheVariants as base
use Rattle.evo_lex.specs.declared.class.Class.TheVariants as class
use Rattle.evo_lex.specs.Characters.{run_of, value_of}
use Rattle.evo_lex.specs.Front.{is_scalar}

-- how many hexadecimal digits stand behind `u{`
abbrev pub escape_digits : List ℕ → ℕ
escape_digits text = run_of (class.Digits base.Hexadecimal) (drop 2 text)

abbrev pub scalar_bytes : ℕ → List ℕ
scalar_bytes value = if is_scalar value then encode_utf8 value else []

-- the bytes of the character that an escape stands for, by what stands behind the backslash
unfoldable pub escaped : List ℕ → List ℕ
escaped text = if slice_index text 0 == digit_zero then 0 ∷ []
    else if slice_index text 0 == letter_t then tab ∷ []
    else if slice_index text 0 == letter_n then line_feed ∷ []
    else if slice_index text 0 == letter_r then carriage_return ∷ []
    else if slice_index text 0 == letter_u then scalar_bytes (value_of base.Hexadecimal (take (escape_digits text) (drop 2 text)))
    else take 1 text

-- how many bytes stand for it behind the backslash
unfoldable pub escape_size : List ℕ → ℕ
escape_size text = if slice_index text 0 == letter_u then escape_digits text + 3 else 1

-- the characters of the text between the quotes, behind so many bytes of an escape
abbrev pub unescaped : ℕ → List ℕ → List ℕ
unescaped skip [] = []
unescaped (suc skip) (c ∷ text) = unescaped skip text
unescaped zero (c ∷ text) = if c == backslash then escaped text ++ unescaped (escape_size text) text else c ∷ unescaped 0 text

unfoldable pub string_value : List ℕ → List ℕ
string_value text = unescaped 0 (take (length text - 2) (drop 1 text))
