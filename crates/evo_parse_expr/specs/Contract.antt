-- What the answers of the parser of expressions say of the grammar.
use Rattle.std.specs.Prelude.{◌≡◌, ℕ, List, drop, Option, Some, None}
use Rattle.evo_base.specs.declared.place.Place.{Place}
use Rattle.evo_base.specs.declared.token.Token.{Token}
use Rattle.evo_lex.specs.Tokenization.{end_of}
use Rattle.evo_combinators.specs.Laws.{first}
use Rattle.evo_combinators.specs.Contract as contract
use Rattle.evo_tree.specs.declared.expression.Expr.{Expr}
use Rattle.evo_tree.specs.Pieces.{Piece, opens_nesting}
use Rattle.evo_tree.specs.Expressions.{IsExpr}

-- an expression is read from `at` on to before `end`, where so much nesting may open
abbrev pub IsReadTo : ℕ → List Piece → ℕ → Expr → ℕ → Type 0
IsReadTo d pieces at x end = contract.IsReadTo IsExpr d pieces at x end

-- spellings of an expression from `at` on go on no further than to before `end`, and none ends there
abbrev pub IsRefusedAt : ℕ → List Piece → ℕ → ℕ → Type 0
IsRefusedAt d pieces at end = contract.IsRefusedAt opens_nesting IsExpr d pieces at end

-- the piece at `end` opens one nesting too many
abbrev pub IsDeepAt : ℕ → List Piece → ℕ → ℕ → Type 0
IsDeepAt d pieces at end = contract.IsDeepAt opens_nesting IsExpr d pieces at end

abbrev pub place_of : List ℕ → Option Token → Place
place_of text None = end_of text
place_of text (Some u) = u.place

-- where a token of a text stands, or the end of the text behind the last one
abbrev pub place_at : List ℕ → List Token → ℕ → Place
place_at text tokens n = place_of text (first (drop n tokens))
