-- Words: identifiers and names.
use Rattle.std.specs.Prelude.{◌≡◌, ◌≢◌, ℕ, List, Bool, true, ◌&&◌, not, codes}
use Rattle.std.specs.Str.{bytes_eq, is_utf8}
use Rattle.evo_base.specs.Keywords.{is_keyword, IsKeyword}
use Rattle.evo_lex.specs.Identifier.{is_identifier, IsIdentifier}

-- an identifier that is no keyword and not `_`
unfoldable pub is_name : List ℕ → Bool
is_name word = is_utf8 word && is_identifier word && not (is_keyword word) && not (bytes_eq word (codes "_"))

pub record IsName (word : List ℕ) : Type 0 where
  pub utf8 : is_utf8 word ≡ true
  pub identifier : IsIdentifier word
  pub no_keyword : ¬ IsKeyword word
  pub no_blank : word ≢ codes "_"
