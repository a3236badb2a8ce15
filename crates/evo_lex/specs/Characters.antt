-- Characters, by their codes, and the runs of them that tokens are made of.
use Rattle.std.specs.Prelude.{ℕ, ◌+◌, ◌*◌, List, [], ◌∷◌, Bool, not, nat_lt, ◌||◌, ◌==◌, if◌then◌else◌}
use Rattle.std.specs.List.{prefix_len}
use Rattle.std.specs.Char.{digit_value}
use Rattle.unicode_ident.specs.Ident.{is_xid_start, is_xid_continue}
use Rattle.evo_lex.specs.Codes.{tab, line_feed, carriage_return, space, exclamation, percent, ampersand, star, plus, minus, slash, less, equal, greater, underscore, bar}
use Rattle.evo_lex.specs.declared.class.Base.{Base}
use Rattle.evo_lex.specs.declared.class.Base.TheVariants as base
use Rattle.evo_lex.specs.declared.class.Class.{Class}
use Rattle.evo_lex.specs.declared.class.Class.TheVariants as class

-- a space, a tab, a line feed or a carriage return
abbrev pub is_white : ℕ → Bool
is_white c = c == space || c == tab || c == line_feed || c == carriage_return

-- what an identifier begins with
abbrev pub begins_identifier : ℕ → Bool
begins_identifier c = c == underscore || is_xid_start c

-- one of / = - + ! * % < > & |
abbrev pub is_operator : ℕ → Bool
is_operator c = c == slash || c == equal || c == minus || c == plus || c == exclamation || c == star || c == percent || c == less || c == greater || c == ampersand || c == bar

abbrev pub radix_of : Base → ℕ
radix_of base.Binary = 2
radix_of base.Octal = 8
radix_of base.Decimal = 10
radix_of base.Hexadecimal = 16

-- a digit of this base: a letter may be of either case
abbrev pub is_digit : Base → ℕ → Bool
is_digit b c = nat_lt (digit_value c) (radix_of b)

abbrev pub is_of : Class → ℕ → Bool
is_of class.Continuing c = is_xid_continue c
is_of (class.Digits b) c = is_digit b c
is_of (class.Spaced b) c = is_digit b c || c == underscore
is_of class.OfLine c = not (c == line_feed)

-- how many characters of the front are of this class
abbrev pub run_of : Class → List ℕ → ℕ
run_of k text = prefix_len (is_of k) text

-- the value of digits behind digits of this value: `_` changes nothing
abbrev pub with_digit : Base → ℕ → ℕ → ℕ
with_digit b v c = if c == underscore then v else v * radix_of b + digit_value c

abbrev pub value_from : Base → ℕ → List ℕ → ℕ
value_from b v [] = v
value_from b v (c ∷ cs) = value_from b (with_digit b v c) cs

abbrev pub value_of : Base → List ℕ → ℕ
value_of b digits = value_from b 0 digits
