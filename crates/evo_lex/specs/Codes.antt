-- The codes of the characters by which tokens are told.
use Rattle.std.specs.Prelude.{ℕ}

abbrev pub tab : ℕ
tab = 9

abbrev pub line_feed : ℕ
line_feed = 10

abbrev pub carriage_return : ℕ
carriage_return = 13

abbrev pub space : ℕ
space = 32

-- !
abbrev pub exclamation : ℕ
exclamation = 33

-- "
abbrev pub quote : ℕ
quote = 34

-- #
abbrev pub hash : ℕ
hash = 35

-- %
abbrev pub percent : ℕ
percent = 37

-- &
abbrev pub ampersand : ℕ
ampersand = 38

-- '
abbrev pub apostrophe : ℕ
apostrophe = 39

-- (
abbrev pub open_parenthesis : ℕ
open_parenthesis = 40

-- )
abbrev pub close_parenthesis : ℕ
close_parenthesis = 41

-- *
abbrev pub star : ℕ
star = 42

-- +
abbrev pub plus : ℕ
plus = 43

-- ,
abbrev pub comma : ℕ
comma = 44

-- -
abbrev pub minus : ℕ
minus = 45

-- .
abbrev pub dot : ℕ
dot = 46

-- /
abbrev pub slash : ℕ
slash = 47

-- 0
abbrev pub digit_zero : ℕ
digit_zero = 48

-- :
abbrev pub colon : ℕ
colon = 58

-- ;
abbrev pub semicolon : ℕ
semicolon = 59

-- <
abbrev pub less : ℕ
less = 60

-- =
abbrev pub equal : ℕ
equal = 61

-- >
abbrev pub greater : ℕ
greater = 62

-- @
abbrev pub at_sign : ℕ
at_sign = 64

-- \
abbrev pub backslash : ℕ
backslash = 92

-- _
abbrev pub underscore : ℕ
underscore = 95

abbrev pub letter_b : ℕ
letter_b = 98

abbrev pub letter_n : ℕ
letter_n = 110

abbrev pub letter_o : ℕ
letter_o = 111

abbrev pub letter_r : ℕ
letter_r = 114

abbrev pub letter_t : ℕ
letter_t = 116

abbrev pub letter_u : ℕ
letter_u = 117

abbrev pub letter_x : ℕ
letter_x = 120

-- {
abbrev pub open_brace : ℕ
open_brace = 123

-- |
abbrev pub bar : ℕ
bar = 124

-- }
abbrev pub close_brace : ℕ
close_brace = 125
