-- What has a symbol, and what is found by it.
use Rattle.std.specs.Prelude.{ℕ, ◌+◌, List, [], ◌∷◌, Bool, Option, Some, None, if◌then◌else◌}
use Rattle.std.specs.List.{list_any}
use Rattle.std.specs.Str.{bytes_eq}

-- one of these is the symbol
abbrev pub named : List (List ℕ) → List ℕ → Bool
named ss s = list_any (λ t. bytes_eq t s) ss

-- the first item whose symbol is this one
abbrev pub item_named : {A : Type 0} → (A → List ℕ) → List A → List ℕ → Option A
item_named symbol [] s = None
item_named symbol (x ∷ xs) s = if bytes_eq (symbol x) s then Some x else item_named symbol xs s

-- the place of the first symbol that is this one, where the first of all has this number
abbrev pub number_from : ℕ → List (List ℕ) → List ℕ → Option ℕ
number_from k [] s = None
number_from k (t ∷ ts) s = if bytes_eq t s then Some k else number_from (k + 1) ts s
