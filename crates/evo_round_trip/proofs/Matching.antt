-- Pieces of a text that match written tokens, and what the pieces of any text have.
use Rattle.std.specs.Prelude.{◌≡◌, ℕ, List, [], ◌∷◌, Bool, true, false, ◌&&◌, ◌||◌, codes}
use Rattle.std.specs.Str.{IsUtf8, chars}
use Rattle.evo_base.specs.declared.token.TokenKind.TheVariants as kind
use Rattle.evo_lex.specs.Identifier.{IsIdentifier}
use Rattle.evo_lex.specs.Front.{kind_of}
use Rattle.evo_tree.specs.declared.terminal.Role.{Role}
use Rattle.evo_tree.specs.declared.terminal.Role.TheVariants as role
use Rattle.evo_tree.specs.declared.terminal.Terminal.TheVariants as t
use Rattle.evo_tree.specs.Terminals.{terminal_of}
use Rattle.evo_tree.specs.Pieces.{Piece, is_terminal, has_role}
use Rattle.evo_round_trip.proofs.Written.{Written, breaks}

-- ---- pieces of a text that is written

-- the role that is asked for, if one is
abbrev pub Has : Role → Role → Type 0
Has role.Unattached r = Unit {0}
Has role.Infix r = r ≡ role.Infix
Has role.Prefix r = r ≡ role.Prefix
Has role.Negative r = r ≡ role.Negative

-- the piece is the written token, on whatever line it stands
pub record SameLookahead (m : Piece) (w : Written) : Type 0 where
  pub terminal : m.terminal ≡ terminal_of w.kind w.text
  pub text : m.text ≡ w.text
  pub role : Has w.role m.role

-- and it stands on a later line than the one before exactly where it is written so
abbrev pub Fits : Piece → Written → Type 0
Fits m w = SameLookahead m w × (m.below ≡ breaks w.gap)

abbrev pub AllFit : List Piece → List Written → Type 0
AllFit [] [] = Unit {0}
AllFit [] (w ∷ ws) = ⊥
AllFit (m ∷ ms) [] = ⊥
AllFit (m ∷ ms) (w ∷ ws) = Fits m w × AllFit ms ws

-- all of them, but for the line on which the first one stands
abbrev pub Alike : List Piece → List Written → Type 0
Alike [] [] = Unit {0}
Alike [] (w ∷ ws) = ⊥
Alike (m ∷ ms) [] = ⊥
Alike (m ∷ ms) (w ∷ ws) = SameLookahead m w × AllFit ms ws

-- ---- pieces of any text

-- an identifier and no keyword
pub record IsName (text : List ℕ) : Type 0 where
  pub utf8 : IsUtf8 text
  pub identifier : IsIdentifier text
  pub no_keyword : kind_of (chars text) ≡ kind.Identifier

-- what the text of a piece is, by its terminal
pub record IsGenuine (p : Piece) : Type 0 where
  pub name : p.terminal ≡ t.Identifier → IsName p.text
  pub self_type : p.terminal ≡ t.SelfType → p.text ≡ codes "Self"

abbrev pub is_sign : Piece → Bool
is_sign p = is_terminal t.Minus p || is_terminal t.Not p

-- a sign directly before its operand
abbrev pub is_attached : Piece → Bool
is_attached p = is_sign p && (has_role role.Prefix p || has_role role.Negative p)

-- no sign stands directly behind such a sign: they would be one operator
abbrev pub Parted : Piece → List Piece → Type 0
Parted p [] = Unit {0}
Parted p (q ∷ qs) = is_attached p ≡ true → is_sign q ≡ false

-- a minus directly before an integer belongs to it
abbrev pub Unnumbered : Piece → List Piece → Type 0
Unnumbered p [] = Unit {0}
Unnumbered p (q ∷ qs) = (is_terminal t.Minus p && has_role role.Prefix p) ≡ true → is_terminal t.Integer q ≡ false

abbrev pub FromText : List Piece → Type 0
FromText [] = Unit {0}
FromText (p ∷ ps) = IsGenuine p × (Parted p ps × Unnumbered p ps) × FromText ps
