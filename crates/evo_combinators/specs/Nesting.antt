-- Tokens that open a nesting.
use Rattle.std.specs.Prelude.{◌≡◌, ℕ, suc, ◌≤◌, Bool, true, List, [], ◌∷◌, ◌++◌, length, Ok, Err}
use Rattle.evo_combinators.specs.declared.Fault.{Fault}
use Rattle.evo_combinators.specs.declared.Fault.TheVariants.{Grammar, Deep}
use Rattle.evo_combinators.specs.Rule.{IsViablePrefix}
use Rattle.evo_combinators.specs.Reader.{Outcome, Reader}

abbrev pub left_at : Fault → ℕ
left_at (Grammar k) = k
left_at (Deep k) = k

-- how many tokens there are from where a reader stopped
abbrev pub left_of : {T A : Type 0} → Outcome T A → ℕ
left_of (Ok x) = length x.1
left_of (Err e) = left_at e

-- With each opening token that the reader passes, on lists up to a length, a spelling goes on; and so Q holds.
abbrev pub Keeps : {T A : Type 0} → ℕ → Type 0 → (T → Bool) → (List T → A → Type 0) → Reader T A → Type 0
Keeps {T} n Q opens S p = (us : List T) (t : T) (more : List T) → length (us ++ t ∷ more) ≤ n → opens t ≡ true → left_of (p (us ++ t ∷ more)) ≤ length more → Q × IsViablePrefix S (us ++ t ∷ [])

-- Where nesting is too deep, the token opens one, on lists up to a length.
abbrev pub DeepOpens : {T A : Type 0} → ℕ → (T → Bool) → Reader T A → Type 0
DeepOpens {T} n opens p = (ts : List T) (k : ℕ) → length ts ≤ n → p ts ≡ Err (Deep k) → (us : List T) × (t : T) × (rest : List T) × (ts ≡ us ++ t ∷ rest) × (k ≡ suc (length rest)) × (opens t ≡ true)
