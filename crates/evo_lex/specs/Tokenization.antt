-- A text cut into tokens and white space, and the first fault of one that is not.
use Rattle.std.specs.Prelude.{◌≡◌, ℕ, ◌+◌, ◌-◌, List, [], ◌∷◌, take, drop, Some, None, ◌==◌, if◌then◌else◌}
use Rattle.std.specs.Char.{len_utf8}
use Rattle.std.specs.Str.{IsUtf8, chars}
use Rattle.std.specs.Str.Lossy.{utf8_valid_len}
use Rattle.evo_base.specs.declared.place.Place.{Place}
use Rattle.evo_base.specs.declared.fault_kind.FaultKind.{FaultKind}
use Rattle.evo_base.specs.declared.fault_kind.FaultKind.TheVariants as fault
use Rattle.evo_base.specs.declared.token.TokenKind.{TokenKind}
use Rattle.evo_base.specs.declared.token.Token.{Token}
use Rattle.evo_lex.specs.Codes.{line_feed}
use Rattle.evo_lex.specs.declared.spot.Position.{Position}
use Rattle.evo_lex.specs.declared.front.Front.{Front}
use Rattle.evo_lex.specs.declared.front.Front.TheVariants as front
use Rattle.evo_lex.specs.Front.{front_of}

-- where a text begins
abbrev pub origin : Position
origin = record { place = record { line = 1; col = 1 }; at = 0 }

-- the place behind a character: a line ends at a line feed
abbrev pub after_char : ℕ → Place → Place
after_char c place = if c == line_feed then record { line = place.line + 1; col = 1 } else record { line = place.line; col = place.col + 1 }

-- the spot behind a character
abbrev pub behind : ℕ → Position → Position
behind c s = record { place = after_char c s.place; at = s.at + len_utf8 c }

-- the spot behind some characters
abbrev pub beyond : List ℕ → Position → Position
beyond [] s = s
beyond (c ∷ cs) s = beyond cs (behind c s)

-- the token between two spots
abbrev pub token_between : TokenKind → Position → Position → Token
token_between k s e = record { kind = k; place = s.place; start = s.at; len = e.at - s.at }

-- the token between two spots, and none for white space
abbrev pub tokens_of : Front → Position → Position → List Token
tokens_of front.White s e = []
tokens_of (front.Token k) s e = token_between k s e ∷ []

-- What stands from a spot on is these tokens, with white space anywhere between them.
pub data CutFrom : Position → List ℕ → List Token → Type 0 where
  ended : {s : Position} → CutFrom s [] []
  white : {s : Position} {n : ℕ} {text : List ℕ} {tokens : List Token} → front_of text ≡ Some (front.White, n) → CutFrom (beyond (take n text) s) (drop n text) tokens → CutFrom s text tokens
  token : {s : Position} {n : ℕ} {k : TokenKind} {text : List ℕ} {tokens : List Token} → front_of text ≡ Some (front.Token k, n) → CutFrom (beyond (take n text) s) (drop n text) tokens →
      CutFrom s text (token_between k s (beyond (take n text) s) ∷ tokens)

-- Tokens and white space stand from a spot on up to this place, and neither of them at it, where the text has not ended.
pub data BadFrom : Position → List ℕ → Place → Type 0 where
  bad : {s : Position} {c : ℕ} {text : List ℕ} → front_of (c ∷ text) ≡ None → BadFrom s (c ∷ text) s.place
  past : {s : Position} {n : ℕ} {f : Front} {text : List ℕ} {place : Place} → front_of text ≡ Some (f, n) → BadFrom (beyond (take n text) s) (drop n text) place → BadFrom s text place

-- the text is UTF-8 and is these tokens, with white space anywhere between them
pub record Tokenization (text : List ℕ) (tokens : List Token) : Type 0 where
  pub utf8 : IsUtf8 text
  pub cut : CutFrom origin (chars text) tokens

-- the characters of the longest front that is UTF-8
abbrev pub front_chars : List ℕ → List ℕ
front_chars text = chars (take (utf8_valid_len text) text)

-- The text's first fault is of this kind, and stands at this place.
pub data IsFault : List ℕ → FaultKind → Place → Type 0 where
  bad_token : {text : List ℕ} {place : Place} → BadFrom origin (front_chars text) place → IsFault text fault.BadToken place
  not_utf8 : {text : List ℕ} {tokens : List Token} → (IsUtf8 text → ⊥) → CutFrom origin (front_chars text) tokens → IsFault text fault.NotUtf8 (beyond (front_chars text) origin).place

-- the place behind the last character
abbrev pub end_of : List ℕ → Place
end_of text = (beyond (front_chars text) origin).place
