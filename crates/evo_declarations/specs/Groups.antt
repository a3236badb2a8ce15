-- The numbers that a text has in a list of texts.
use Rattle.std.specs.Prelude.{◌≡◌, ℕ, zero, suc, ◌+◌, List, [], ◌∷◌, ◌++◌, length, slice_get, slice_set, Bool, if◌then◌else◌}
use Rattle.std.specs.Option.{option_and_then, option_map_or, option_or}
use Rattle.std.specs.Str.{bytes_eq}
use Rattle.evo_base.specs.Names.{position_of}
use Rattle.evo_declarations.specs.declared.groups.Groups.{Groups}
use Rattle.evo_names.specs.Listed.{Text}

abbrev pub numbers_from : ℕ → Text → List Text → List ℕ
numbers_from i n [] = []
numbers_from i n (x ∷ xs) = if bytes_eq n x then i ∷ numbers_from (i + 1) n xs else numbers_from (i + 1) n xs

-- the numbers at which a text stands, ascending
abbrev pub numbers_of : Text → List Text → List ℕ
numbers_of n xs = numbers_from 0 n xs

abbrev pub list_at : List (List ℕ) → ℕ → List ℕ
list_at gs i = option_map_or (λ (g : List ℕ). g) (slice_get gs i) []

abbrev pub group_of : Groups → Text → List ℕ
group_of g n = option_map_or (λ i. list_at g.groups.items i) (position_of n g.texts) []

-- each text's group is that of the list
abbrev pub IsGrouped : List Text → Groups → Type 0
IsGrouped xs g = (n : Text) → group_of g n ≡ numbers_of n xs

-- ---- as the list is read

-- each text has a group
abbrev pub IsEven : Groups → Type 0
IsEven g = length g.groups.items ≡ length g.texts

abbrev pub pushed : List (List ℕ) → ℕ → ℕ → List (List ℕ)
pushed gs i k = slice_set gs i (list_at gs i ++ k ∷ [])

-- a number more for this text
abbrev pub Added : Groups → Groups → Text → ℕ → Type 0
Added g h n k = (m : Text) → group_of h m ≡ (if bytes_eq m n then group_of g m ++ k ∷ [] else group_of g m)
