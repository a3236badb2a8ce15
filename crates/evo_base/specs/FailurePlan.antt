-- The calls of a fake that are to fail.
use Rattle.std.specs.Prelude.{◌≡◌, ℕ, ◌+◌, ◌-◌, ◌^◌, ◌<◌, min, max, List, Bool, false, ◌&&◌, ◌==◌, nat_lt}
use Rattle.std.specs.List.{list_any}

-- how many calls there were, and the numbers of those that are to fail, counted from 1
pub record PlanState : Type 0 where
  pub calls : ℕ
  pub listed : List ℕ

-- the call of this number is to fail
abbrev pub is_listed : PlanState → ℕ → Bool
is_listed p k = list_any (λ n. n == k) p.listed

-- the next call is to fail
abbrev pub fails_next : PlanState → Bool
fails_next p = nat_lt p.calls (2 ^ 64 - 1) && is_listed p (p.calls + 1)

-- no call that is to fail lies ahead
abbrev pub NoneAhead : PlanState → Type 0
NoneAhead p = (k : ℕ) → p.calls < k → is_listed p k ≡ false

-- the plan after one more call
abbrev pub counted : PlanState → PlanState
counted p = record { calls = max p.calls (min (p.calls + 1) (2 ^ 64 - 1)); listed = p.listed }
