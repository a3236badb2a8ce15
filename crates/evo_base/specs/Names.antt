-- Distinct names in the order in which they came.
use Rattle.std.specs.Prelude.{◌≡◌, ℕ, suc, Bool, true, false, List, [], ◌∷◌, ◌++◌, slice_get, Option, Some, None, IsSome, if◌then◌else◌}
use Rattle.std.specs.Option.{option_map}
use Rattle.std.specs.Str.{bytes_eq}

-- the place of the first name that is equal to this one
abbrev pub position_of : List ℕ → List (List ℕ) → Option ℕ
position_of name [] = None
position_of name (x ∷ xs) = if bytes_eq name x then Some 0 else option_map suc (position_of name xs)

-- no two places have equal names
abbrev pub AreDistinct : List (List ℕ) → Type 0
AreDistinct names = (i j : ℕ) (name : List ℕ) → slice_get names i ≡ Some name → slice_get names j ≡ Some name → i ≡ j

-- the names before and after this one was inserted, and whether it was new
abbrev pub Inserts : List (List ℕ) → List (List ℕ) → List ℕ → Bool → Type 0
Inserts old new name true = (position_of name old ≡ None) × (new ≡ old ++ name ∷ [])
Inserts old new name false = IsSome (position_of name old) × (new ≡ old)
