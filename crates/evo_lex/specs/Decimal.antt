-- The number of a decimal text.
use Rattle.std.specs.Prelude.{◌≡◌, ◌<◌, ◌^◌, ℕ, List, Option, Some, None}
use Rattle.std.specs.Fmt.{decimal}

-- what reading a text answers: the number below 2^64 of which it is the decimal text, or nothing where it is that of none
abbrev pub IsNumber : List ℕ → Option ℕ → Type 0
IsNumber text None = (n : ℕ) → n < 2 ^ 64 → text ≡ decimal n → ⊥
IsNumber text (Some n) = (text ≡ decimal n) × (n < 2 ^ 64)
