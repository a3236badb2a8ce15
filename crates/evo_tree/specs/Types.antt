-- The grammar of written types.
--
--   type = ( NAME | "Self" ) { "." NAME }
use Rattle.std.specs.Prelude.{ℕ, List, ◌∷◌, Option, ◌&&◌, ◌||◌}
use Rattle.std.specs.Str.{is_utf8}
use Rattle.evo_base.specs.declared.place.Place.{Place}
use Rattle.evo_combinators.specs.Rule.{Empty, One, Then, Many}
use Rattle.evo_lex.specs.Front.{when}
use Rattle.evo_tree.specs.declared.name.TypeName.{TypeName}
use Rattle.evo_tree.specs.declared.terminal.Terminal.TheVariants as t
use Rattle.evo_tree.specs.Pieces.{Piece, is_terminal, is_identifier, mark}
use Rattle.evo_tree.specs.Expressions.{Rule}

-- takes a name or `Self`, with its place and its text
unfoldable pub type_head : Piece → Option (Place × List ℕ)
type_head p = when ((is_terminal t.Identifier p || is_terminal t.SelfType p) && is_utf8 p.text) (p.place, p.text)

-- takes a name, of which only the text is kept
unfoldable pub plain_name : Piece → Option (List ℕ)
plain_name p = when (is_identifier p) p.text

abbrev pub type_name : Place × List ℕ → List (List ℕ) → TypeName
type_name head names = record { place = head.0; names = head.1 ∷ names }

-- type
abbrev pub IsType : Rule TypeName
IsType = Then (One type_head) (λ head. Then (Many (mark t.Dot) (λ _. One plain_name)) (λ names. Empty (type_name head names)))
