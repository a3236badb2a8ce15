-- The keywords of the language.
use Rattle.std.specs.Prelude.{ℕ, List, [], ◌∷◌, Bool, codes}
use Rattle.std.specs.List.{list_any, Contains}
use Rattle.std.specs.Str.{bytes_eq}

-- the words that name nothing
abbrev pub keywords : List (List ℕ)
keywords = codes "import" ∷ codes "struct" ∷ codes "enum" ∷ codes "class" ∷ codes "protocol" ∷ codes "extension"
    ∷ codes "func" ∷ codes "init" ∷ codes "var" ∷ codes "let" ∷ codes "typealias" ∷ codes "associatedtype" ∷ codes "case"
    ∷ codes "open" ∷ codes "public" ∷ codes "internal" ∷ codes "private" ∷ codes "final" ∷ codes "static" ∷ codes "mutating"
    ∷ codes "override" ∷ codes "self" ∷ codes "Self" ∷ codes "super" ∷ codes "return" ∷ codes "if" ∷ codes "else"
    ∷ codes "while" ∷ codes "switch" ∷ codes "default" ∷ codes "break" ∷ codes "continue" ∷ codes "true" ∷ codes "false"
    ∷ codes "where" ∷ []

-- whether a look through the keywords finds the word
unfoldable pub is_keyword : List ℕ → Bool
is_keyword word = list_any (λ k. bytes_eq k word) keywords

abbrev pub IsKeyword : List ℕ → Type 0
IsKeyword word = Contains keywords word
