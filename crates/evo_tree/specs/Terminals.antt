-- The terminal symbols of the grammar, by the kind and the text of a token.
use Rattle.std.specs.Prelude.{ℕ, List, [], ◌∷◌, codes, ◌==◌, if◌then◌else◌}
use Rattle.std.specs.Str.{bytes_eq}
use Rattle.evo_base.specs.declared.token.TokenKind.{TokenKind}
use Rattle.evo_base.specs.declared.token.TokenKind.TheVariants as kind
use Rattle.evo_tree.specs.declared.terminal.Terminal.{Terminal}
use Rattle.evo_tree.specs.declared.terminal.Terminal.TheVariants as t

-- the keywords
abbrev pub keyword_terminals : List (List ℕ × Terminal)
keyword_terminals = (codes "import", t.Import)
    ∷ (codes "struct", t.Struct)
    ∷ (codes "enum", t.Enum)
    ∷ (codes "class", t.Class)
    ∷ (codes "protocol", t.Protocol)
    ∷ (codes "extension", t.Extension)
    ∷ (codes "func", t.Func)
    ∷ (codes "init", t.Init)
    ∷ (codes "var", t.Var)
    ∷ (codes "let", t.Let)
    ∷ (codes "typealias", t.Typealias)
    ∷ (codes "associatedtype", t.Associatedtype)
    ∷ (codes "case", t.Case)
    ∷ (codes "open", t.Open)
    ∷ (codes "public", t.Public)
    ∷ (codes "internal", t.Internal)
    ∷ (codes "private", t.Private)
    ∷ (codes "final", t.Final)
    ∷ (codes "static", t.Static)
    ∷ (codes "mutating", t.Mutating)
    ∷ (codes "override", t.Override)
    ∷ (codes "self", t.SelfValue)
    ∷ (codes "Self", t.SelfType)
    ∷ (codes "super", t.Super)
    ∷ (codes "return", t.Return)
    ∷ (codes "if", t.If)
    ∷ (codes "else", t.Else)
    ∷ (codes "while", t.While)
    ∷ (codes "switch", t.Switch)
    ∷ (codes "default", t.Default)
    ∷ (codes "break", t.Break)
    ∷ (codes "continue", t.Continue)
    ∷ (codes "true", t.True)
    ∷ (codes "false", t.False)
    ∷ (codes "where", t.Where) ∷ []

-- the operators
abbrev pub operator_terminals : List (List ℕ × Terminal)
operator_terminals = (codes "+", t.Plus)
    ∷ (codes "-", t.Minus)
    ∷ (codes "*", t.Star)
    ∷ (codes "/", t.Slash)
    ∷ (codes "%", t.Percent)
    ∷ (codes "&+", t.WrappingPlus)
    ∷ (codes "&-", t.WrappingMinus)
    ∷ (codes "&*", t.WrappingStar)
    ∷ (codes "==", t.EqualEqual)
    ∷ (codes "!=", t.NotEqual)
    ∷ (codes "<", t.Less)
    ∷ (codes "<=", t.LessEqual)
    ∷ (codes ">", t.Greater)
    ∷ (codes ">=", t.GreaterEqual)
    ∷ (codes "===", t.Identical)
    ∷ (codes "!==", t.NotIdentical)
    ∷ (codes "&&", t.AndAnd)
    ∷ (codes "||", t.OrOr)
    ∷ (codes "!", t.Not)
    ∷ (codes "&", t.And)
    ∷ (codes "=", t.Equal)
    ∷ (codes "+=", t.PlusEqual)
    ∷ (codes "-=", t.MinusEqual)
    ∷ (codes "*=", t.StarEqual)
    ∷ (codes "/=", t.SlashEqual)
    ∷ (codes "%=", t.PercentEqual)
    ∷ (codes "->", t.Arrow) ∷ []

-- the terminal of a text in a table
abbrev pub terminal_in : List (List ℕ × Terminal) → List ℕ → Terminal
terminal_in [] text = t.Other
terminal_in (row ∷ rows) text = if bytes_eq row.0 text then row.1 else terminal_in rows text

unfoldable pub keyword_terminal : List ℕ → Terminal
keyword_terminal text = terminal_in keyword_terminals text

unfoldable pub operator_terminal : List ℕ → Terminal
operator_terminal text = terminal_in operator_terminals text

abbrev pub terminal_of : TokenKind → List ℕ → Terminal
terminal_of kind.Identifier text = t.Identifier
terminal_of kind.Underscore text = t.Underscore
terminal_of kind.Keyword text = keyword_terminal text
terminal_of kind.Integer text = t.Integer
terminal_of kind.String text = t.String
terminal_of kind.Operator text = operator_terminal text
terminal_of kind.OpenParenthesis text = t.OpenParenthesis
terminal_of kind.CloseParenthesis text = t.CloseParenthesis
terminal_of kind.OpenBrace text = t.OpenBrace
terminal_of kind.CloseBrace text = t.CloseBrace
terminal_of kind.Comma text = t.Comma
terminal_of kind.Semicolon text = t.Semicolon
terminal_of kind.Colon text = t.Colon
terminal_of kind.Dot text = t.Dot
terminal_of kind.At text = t.At
terminal_of kind.Hash text = t.Other

-- a number for each terminal
abbrev pub number_of : Terminal → ℕ
number_of t.Identifier = 0
number_of t.Underscore = 1
number_of t.Integer = 2
number_of t.String = 3
number_of t.Import = 4
number_of t.Struct = 5
number_of t.Enum = 6
number_of t.Class = 7
number_of t.Protocol = 8
number_of t.Extension = 9
number_of t.Func = 10
number_of t.Init = 11
number_of t.Var = 12
number_of t.Let = 13
number_of t.Typealias = 14
number_of t.Associatedtype = 15
number_of t.Case = 16
number_of t.Open = 17
number_of t.Public = 18
number_of t.Internal = 19
number_of t.Private = 20
number_of t.Final = 21
number_of t.Static = 22
number_of t.Mutating = 23
number_of t.Override = 24
number_of t.SelfValue = 25
number_of t.SelfType = 26
number_of t.Super = 27
number_of t.Return = 28
number_of t.If = 29
number_of t.Else = 30
number_of t.While = 31
number_of t.Switch = 32
number_of t.Default = 33
number_of t.Break = 34
number_of t.Continue = 35
number_of t.True = 36
number_of t.False = 37
number_of t.Where = 38
number_of t.Plus = 39
number_of t.Minus = 40
number_of t.Star = 41
number_of t.Slash = 42
number_of t.Percent = 43
number_of t.WrappingPlus = 44
number_of t.WrappingMinus = 45
number_of t.WrappingStar = 46
number_of t.EqualEqual = 47
number_of t.NotEqual = 48
number_of t.Less = 49
number_of t.LessEqual = 50
number_of t.Greater = 51
number_of t.GreaterEqual = 52
number_of t.Identical = 53
number_of t.NotIdentical = 54
number_of t.AndAnd = 55
number_of t.OrOr = 56
number_of t.Not = 57
number_of t.And = 58
number_of t.Equal = 59
number_of t.PlusEqual = 60
number_of t.MinusEqual = 61
number_of t.StarEqual = 62
number_of t.SlashEqual = 63
number_of t.PercentEqual = 64
number_of t.Arrow = 65
number_of t.OpenParenthesis = 66
number_of t.CloseParenthesis = 67
number_of t.OpenBrace = 68
number_of t.CloseBrace = 69
number_of t.Comma = 70
number_of t.Semicolon = 71
number_of t.Colon = 72
number_of t.Dot = 73
number_of t.At = 74
number_of t.Other = 75
