-- What may name a module.
use Rattle.std.specs.Prelude.{◌≢◌, ℕ, List, [], ◌∷◌, Bool, codes}
use Rattle.std.specs.List.{list_any, Contains}
use Rattle.std.specs.Str.{bytes_eq}
use Rattle.evo_lex.specs.Identifier.{IsIdentifier}
use Rattle.evo_base.specs.Keywords.{IsKeyword}

-- the words, beside the keywords, that name no module
abbrev pub taken : List (List ℕ)
taken = codes "Swift" ∷ codes "main" ∷ codes "Int" ∷ codes "Bool" ∷ codes "String" ∷ []

-- whether a look through these words finds the word
unfoldable pub is_taken : List ℕ → Bool
is_taken word = list_any (λ k. bytes_eq k word) taken

-- an identifier that is not `_` alone, no keyword and not taken
pub record IsModule (name : List ℕ) : Type 0 where
  pub identifier : IsIdentifier name
  pub no_blank : name ≢ codes "_"
  pub no_keyword : ¬ IsKeyword name
  pub not_taken : ¬ Contains taken name
