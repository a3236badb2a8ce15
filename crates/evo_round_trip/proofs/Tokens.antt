-- The text of each terminal that has one is one token, and words that are keywords in their places are names.
use Rattle.std.proofs.Common.{◌≡◌, ℕ, true, List, codes, refl}
use Rattle.evo_base.specs.declared.token.TokenKind.TheVariants as kind
use Rattle.evo_base.specs.Keywords.{is_keyword}
use Rattle.evo_lex.specs.Front.{kind_of, is_operator_word}
use Rattle.evo_tree.specs.declared.terminal.Role.{Role}
use Rattle.evo_tree.specs.declared.terminal.Terminal.{Terminal}
use Rattle.evo_tree.specs.declared.terminal.Terminal.TheVariants as t
use Rattle.evo_round_trip.proofs.Written.{IsToken, is_gap}
use Rattle.evo_round_trip.proofs.Matching.{IsName}
use Rattle.evo_round_trip.proofs.TokensOfWords.{plain_name, keyword_word, underscore_word}
use Rattle.evo_round_trip.proofs.TokensOfSigns.{operator_word, mark_word}
pub use Rattle.evo_round_trip.proofs.TokensOfTerminals.{spelling, kind_for, has_spelling, spelled, spelled_is}

-- each of these texts is one token
pub spelled_is_token : (k : Terminal) → has_spelling k ≡ true → (gap : List ℕ) → is_gap gap ≡ true → (r : Role) → IsToken (spelled gap k r)
unfolding kind_of is_keyword is_operator_word
spelled_is_token t.Underscore is = underscore_word (codes "_") refl refl
spelled_is_token t.Import is = keyword_word (codes "import") refl refl
spelled_is_token t.Struct is = keyword_word (codes "struct") refl refl
spelled_is_token t.Enum is = keyword_word (codes "enum") refl refl
spelled_is_token t.Class is = keyword_word (codes "class") refl refl
spelled_is_token t.Protocol is = keyword_word (codes "protocol") refl refl
spelled_is_token t.Extension is = keyword_word (codes "extension") refl refl
spelled_is_token t.Func is = keyword_word (codes "func") refl refl
spelled_is_token t.Init is = keyword_word (codes "init") refl refl
spelled_is_token t.Var is = keyword_word (codes "var") refl refl
spelled_is_token t.Let is = keyword_word (codes "let") refl refl
spelled_is_token t.Typealias is = keyword_word (codes "typealias") refl refl
spelled_is_token t.Associatedtype is = keyword_word (codes "associatedtype") refl refl
spelled_is_token t.Case is = keyword_word (codes "case") refl refl
spelled_is_token t.Open is = keyword_word (codes "open") refl refl
spelled_is_token t.Public is = keyword_word (codes "public") refl refl
spelled_is_token t.Internal is = keyword_word (codes "internal") refl refl
spelled_is_token t.Private is = keyword_word (codes "private") refl refl
spelled_is_token t.Final is = keyword_word (codes "final") refl refl
spelled_is_token t.Static is = keyword_word (codes "static") refl refl
spelled_is_token t.Mutating is = keyword_word (codes "mutating") refl refl
spelled_is_token t.Override is = keyword_word (codes "override") refl refl
spelled_is_token t.SelfValue is = keyword_word (codes "self") refl refl
spelled_is_token t.SelfType is = keyword_word (codes "Self") refl refl
spelled_is_token t.Super is = keyword_word (codes "super") refl refl
spelled_is_token t.Return is = keyword_word (codes "return") refl refl
spelled_is_token t.If is = keyword_word (codes "if") refl refl
spelled_is_token t.Else is = keyword_word (codes "else") refl refl
spelled_is_token t.While is = keyword_word (codes "while") refl refl
spelled_is_token t.Switch is = keyword_word (codes "switch") refl refl
spelled_is_token t.Default is = keyword_word (codes "default") refl refl
spelled_is_token t.Break is = keyword_word (codes "break") refl refl
spelled_is_token t.Continue is = keyword_word (codes "continue") refl refl
spelled_is_token t.True is = keyword_word (codes "true") refl refl
spelled_is_token t.False is = keyword_word (codes "false") refl refl
spelled_is_token t.Where is = keyword_word (codes "where") refl refl
spelled_is_token t.Plus is = operator_word (codes "+") refl refl
spelled_is_token t.Minus is = operator_word (codes "-") refl refl
spelled_is_token t.Star is = operator_word (codes "*") refl refl
spelled_is_token t.Slash is = operator_word (codes "/") refl refl
spelled_is_token t.Percent is = operator_word (codes "%") refl refl
spelled_is_token t.WrappingPlus is = operator_word (codes "&+") refl refl
spelled_is_token t.WrappingMinus is = operator_word (codes "&-") refl refl
spelled_is_token t.WrappingStar is = operator_word (codes "&*") refl refl
spelled_is_token t.EqualEqual is = operator_word (codes "==") refl refl
spelled_is_token t.NotEqual is = operator_word (codes "!=") refl refl
spelled_is_token t.Less is = operator_word (codes "<") refl refl
spelled_is_token t.LessEqual is = operator_word (codes "<=") refl refl
spelled_is_token t.Greater is = operator_word (codes ">") refl refl
spelled_is_token t.GreaterEqual is = operator_word (codes ">=") refl refl
spelled_is_token t.Identical is = operator_word (codes "===") refl refl
spelled_is_token t.NotIdentical is = operator_word (codes "!==") refl refl
spelled_is_token t.AndAnd is = operator_word (codes "&&") refl refl
spelled_is_token t.OrOr is = operator_word (codes "||") refl refl
spelled_is_token t.Not is = operator_word (codes "!") refl refl
spelled_is_token t.And is = operator_word (codes "&") refl refl
spelled_is_token t.Equal is = operator_word (codes "=") refl refl
spelled_is_token t.PlusEqual is = operator_word (codes "+=") refl refl
spelled_is_token t.MinusEqual is = operator_word (codes "-=") refl refl
spelled_is_token t.StarEqual is = operator_word (codes "*=") refl refl
spelled_is_token t.SlashEqual is = operator_word (codes "/=") refl refl
spelled_is_token t.PercentEqual is = operator_word (codes "%=") refl refl
spelled_is_token t.Arrow is = operator_word (codes "->") refl refl
spelled_is_token t.OpenParenthesis is = mark_word 40 kind.OpenParenthesis refl refl
spelled_is_token t.CloseParenthesis is = mark_word 41 kind.CloseParenthesis refl refl
spelled_is_token t.OpenBrace is = mark_word 123 kind.OpenBrace refl refl
spelled_is_token t.CloseBrace is = mark_word 125 kind.CloseBrace refl refl
spelled_is_token t.Comma is = mark_word 44 kind.Comma refl refl
spelled_is_token t.Semicolon is = mark_word 59 kind.Semicolon refl refl
spelled_is_token t.Colon is = mark_word 58 kind.Colon refl refl
spelled_is_token t.Dot is = mark_word 46 kind.Dot refl refl
spelled_is_token t.At is = mark_word 64 kind.At refl refl
spelled_is_token t.Identifier is = absurd (cc)
spelled_is_token t.Integer is = absurd (cc)
spelled_is_token t.String is = absurd (cc)
spelled_is_token t.Other is = absurd (cc)

-- ---- words that are names, though they are keywords in their places

pub get_is_name : IsName (codes "get")
unfolding kind_of is_keyword
get_is_name = plain_name (codes "get") refl refl

pub set_is_name : IsName (codes "set")
unfolding kind_of is_keyword
set_is_name = plain_name (codes "set") refl refl

pub unknown_is_name : IsName (codes "unknown")
unfolding kind_of is_keyword
unknown_is_name = plain_name (codes "unknown") refl refl

pub available_is_name : IsName (codes "available")
unfolding kind_of is_keyword
available_is_name = plain_name (codes "available") refl refl

pub frozen_is_name : IsName (codes "frozen")
unfolding kind_of is_keyword
frozen_is_name = plain_name (codes "frozen") refl refl

pub inlinable_is_name : IsName (codes "inlinable")
unfolding kind_of is_keyword
inlinable_is_name = plain_name (codes "inlinable") refl refl

pub usable_from_inline_is_name : IsName (codes "usableFromInline")
unfolding kind_of is_keyword
usable_from_inline_is_name = plain_name (codes "usableFromInline") refl refl

pub deprecated_is_name : IsName (codes "deprecated")
unfolding kind_of is_keyword
deprecated_is_name = plain_name (codes "deprecated") refl refl

pub unavailable_is_name : IsName (codes "unavailable")
unfolding kind_of is_keyword
unavailable_is_name = plain_name (codes "unavailable") refl refl

pub mac_os_is_name : IsName (codes "macOS")
unfolding kind_of is_keyword
mac_os_is_name = plain_name (codes "macOS") refl refl
