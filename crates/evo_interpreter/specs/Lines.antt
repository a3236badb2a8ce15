-- What a line has behind its first word.
use Rattle.std.specs.Prelude.{ℕ, List, [], ◌∷◌, ◌++◌}

-- texts with a space before each, and the end of the line
abbrev pub behind : List (List ℕ) → List ℕ
behind [] = 10 ∷ []
behind (t ∷ ts) = 32 ∷ (t ++ behind ts)
