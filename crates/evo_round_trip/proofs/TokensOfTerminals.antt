-- What the printer writes for each terminal that has one text.
use Rattle.std.proofs.Common.{◌≡◌, ℕ, Bool, true, false, List, [], codes, refl}
use Rattle.evo_base.specs.declared.token.TokenKind.{TokenKind}
use Rattle.evo_base.specs.declared.token.TokenKind.TheVariants as kind
use Rattle.evo_tree.specs.declared.terminal.Role.{Role}
use Rattle.evo_tree.specs.declared.terminal.Terminal.{Terminal}
use Rattle.evo_tree.specs.declared.terminal.Terminal.TheVariants as t
use Rattle.evo_tree.specs.Terminals.{terminal_of, keyword_terminal, operator_terminal}
use Rattle.evo_round_trip.proofs.Written.{Written}

-- the text of a keyword, an operator or a mark
abbrev pub spelling : Terminal → List ℕ
spelling t.Underscore = codes "_"
spelling t.Import = codes "import"
spelling t.Struct = codes "struct"
spelling t.Enum = codes "enum"
spelling t.Class = codes "class"
spelling t.Protocol = codes "protocol"
spelling t.Extension = codes "extension"
spelling t.Func = codes "func"
spelling t.Init = codes "init"
spelling t.Var = codes "var"
spelling t.Let = codes "let"
spelling t.Typealias = codes "typealias"
spelling t.Associatedtype = codes "associatedtype"
spelling t.Case = codes "case"
spelling t.Open = codes "open"
spelling t.Public = codes "public"
spelling t.Internal = codes "internal"
spelling t.Private = codes "private"
spelling t.Final = codes "final"
spelling t.Static = codes "static"
spelling t.Mutating = codes "mutating"
spelling t.Override = codes "override"
spelling t.SelfValue = codes "self"
spelling t.SelfType = codes "Self"
spelling t.Super = codes "super"
spelling t.Return = codes "return"
spelling t.If = codes "if"
spelling t.Else = codes "else"
spelling t.While = codes "while"
spelling t.Switch = codes "switch"
spelling t.Default = codes "default"
spelling t.Break = codes "break"
spelling t.Continue = codes "continue"
spelling t.True = codes "true"
spelling t.False = codes "false"
spelling t.Where = codes "where"
spelling t.Plus = codes "+"
spelling t.Minus = codes "-"
spelling t.Star = codes "*"
spelling t.Slash = codes "/"
spelling t.Percent = codes "%"
spelling t.WrappingPlus = codes "&+"
spelling t.WrappingMinus = codes "&-"
spelling t.WrappingStar = codes "&*"
spelling t.EqualEqual = codes "=="
spelling t.NotEqual = codes "!="
spelling t.Less = codes "<"
spelling t.LessEqual = codes "<="
spelling t.Greater = codes ">"
spelling t.GreaterEqual = codes ">="
spelling t.Identical = codes "==="
spelling t.NotIdentical = codes "!=="
spelling t.AndAnd = codes "&&"
spelling t.OrOr = codes "||"
spelling t.Not = codes "!"
spelling t.And = codes "&"
spelling t.Equal = codes "="
spelling t.PlusEqual = codes "+="
spelling t.MinusEqual = codes "-="
spelling t.StarEqual = codes "*="
spelling t.SlashEqual = codes "/="
spelling t.PercentEqual = codes "%="
spelling t.Arrow = codes "->"
spelling t.OpenParenthesis = codes "("
spelling t.CloseParenthesis = codes ")"
spelling t.OpenBrace = codes "{"
spelling t.CloseBrace = codes "}"
spelling t.Comma = codes ","
spelling t.Semicolon = codes ";"
spelling t.Colon = codes ":"
spelling t.Dot = codes "."
spelling t.At = codes "@"
spelling k = []

-- the kind of a token of this terminal
abbrev pub kind_for : Terminal → TokenKind
kind_for t.Underscore = kind.Underscore
kind_for t.Plus = kind.Operator
kind_for t.Minus = kind.Operator
kind_for t.Star = kind.Operator
kind_for t.Slash = kind.Operator
kind_for t.Percent = kind.Operator
kind_for t.WrappingPlus = kind.Operator
kind_for t.WrappingMinus = kind.Operator
kind_for t.WrappingStar = kind.Operator
kind_for t.EqualEqual = kind.Operator
kind_for t.NotEqual = kind.Operator
kind_for t.Less = kind.Operator
kind_for t.LessEqual = kind.Operator
kind_for t.Greater = kind.Operator
kind_for t.GreaterEqual = kind.Operator
kind_for t.Identical = kind.Operator
kind_for t.NotIdentical = kind.Operator
kind_for t.AndAnd = kind.Operator
kind_for t.OrOr = kind.Operator
kind_for t.Not = kind.Operator
kind_for t.And = kind.Operator
kind_for t.Equal = kind.Operator
kind_for t.PlusEqual = kind.Operator
kind_for t.MinusEqual = kind.Operator
kind_for t.StarEqual = kind.Operator
kind_for t.SlashEqual = kind.Operator
kind_for t.PercentEqual = kind.Operator
kind_for t.Arrow = kind.Operator
kind_for t.OpenParenthesis = kind.OpenParenthesis
kind_for t.CloseParenthesis = kind.CloseParenthesis
kind_for t.OpenBrace = kind.OpenBrace
kind_for t.CloseBrace = kind.CloseBrace
kind_for t.Comma = kind.Comma
kind_for t.Semicolon = kind.Semicolon
kind_for t.Colon = kind.Colon
kind_for t.Dot = kind.Dot
kind_for t.At = kind.At
kind_for t.Identifier = kind.Identifier
kind_for t.Integer = kind.Integer
kind_for t.String = kind.String
kind_for t.Other = kind.Hash
kind_for k = kind.Keyword

-- the terminal has one text
abbrev pub has_spelling : Terminal → Bool
has_spelling t.Identifier = false
has_spelling t.Integer = false
has_spelling t.String = false
has_spelling t.Other = false
has_spelling k = true

-- the token that such a terminal is written as
abbrev pub spelled : List ℕ → Terminal → Role → Written
spelled gap k r = record { gap = gap; kind = kind_for k; text = spelling k; role = r }

-- such a text is that of a token of this terminal
pub spelled_is : (k : Terminal) → has_spelling k ≡ true → terminal_of (kind_for k) (spelling k) ≡ k
unfolding keyword_terminal operator_terminal
spelled_is t.Identifier is = absurd (cc)
spelled_is t.Integer is = absurd (cc)
spelled_is t.String is = absurd (cc)
spelled_is t.Other is = absurd (cc)
spelled_is t.Underscore is = refl
spelled_is t.Import is = refl
spelled_is t.Struct is = refl
spelled_is t.Enum is = refl
spelled_is t.Class is = refl
spelled_is t.Protocol is = refl
spelled_is t.Extension is = refl
spelled_is t.Func is = refl
spelled_is t.Init is = refl
spelled_is t.Var is = refl
spelled_is t.Let is = refl
spelled_is t.Typealias is = refl
spelled_is t.Associatedtype is = refl
spelled_is t.Case is = refl
spelled_is t.Open is = refl
spelled_is t.Public is = refl
spelled_is t.Internal is = refl
spelled_is t.Private is = refl
spelled_is t.Final is = refl
spelled_is t.Static is = refl
spelled_is t.Mutating is = refl
spelled_is t.Override is = refl
spelled_is t.SelfValue is = refl
spelled_is t.SelfType is = refl
spelled_is t.Super is = refl
spelled_is t.Return is = refl
spelled_is t.If is = refl
spelled_is t.Else is = refl
spelled_is t.While is = refl
spelled_is t.Switch is = refl
spelled_is t.Default is = refl
spelled_is t.Break is = refl
spelled_is t.Continue is = refl
spelled_is t.True is = refl
spelled_is t.False is = refl
spelled_is t.Where is = refl
spelled_is t.Plus is = refl
spelled_is t.Minus is = refl
spelled_is t.Star is = refl
spelled_is t.Slash is = refl
spelled_is t.Percent is = refl
spelled_is t.WrappingPlus is = refl
spelled_is t.WrappingMinus is = refl
spelled_is t.WrappingStar is = refl
spelled_is t.EqualEqual is = refl
spelled_is t.NotEqual is = refl
spelled_is t.Less is = refl
spelled_is t.LessEqual is = refl
spelled_is t.Greater is = refl
spelled_is t.GreaterEqual is = refl
spelled_is t.Identical is = refl
spelled_is t.NotIdentical is = refl
spelled_is t.AndAnd is = refl
spelled_is t.OrOr is = refl
spelled_is t.Not is = refl
spelled_is t.And is = refl
spelled_is t.Equal is = refl
spelled_is t.PlusEqual is = refl
spelled_is t.MinusEqual is = refl
spelled_is t.StarEqual is = refl
spelled_is t.SlashEqual is = refl
spelled_is t.PercentEqual is = refl
spelled_is t.Arrow is = refl
spelled_is t.OpenParenthesis is = refl
spelled_is t.CloseParenthesis is = refl
spelled_is t.OpenBrace is = refl
spelled_is t.CloseBrace is = refl
spelled_is t.Comma is = refl
spelled_is t.Semicolon is = refl
spelled_is t.Colon is = refl
spelled_is t.Dot is = refl
spelled_is t.At is = refl
