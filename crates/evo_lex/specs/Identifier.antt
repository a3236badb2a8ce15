-- Identifiers, by their bytes.
use Rattle.std.specs.Prelude.{◌≡◌, ℕ, List, [], ◌∷◌, Bool, true, false, ◌&&◌}
use Rattle.std.specs.List.{list_all}
use Rattle.std.specs.Str.{chars}
use Rattle.unicode_ident.specs.Ident.{is_xid_continue}
use Rattle.evo_lex.specs.Characters.{begins_identifier}

-- the first of these characters begins an identifier
abbrev pub begins_well : List ℕ → Bool
begins_well [] = false
begins_well (c ∷ cs) = begins_identifier c

-- the bytes, which are UTF-8, spell an identifier
unfoldable pub is_identifier : List ℕ → Bool
is_identifier word = begins_well (chars word) && list_all is_xid_continue (chars word)

-- an identifier of Unicode, or one that begins with `_`
pub record IsIdentifier (word : List ℕ) : Type 0 where
  pub begins : begins_well (chars word) ≡ true
  pub goes_on : list_all is_xid_continue (chars word) ≡ true
