-- Faults of calls: a count of faults never falls, and has risen where a call answers a fault.
use Rattle.std.specs.Prelude.{◌≡◌, ℕ, ◌+◌, ◌-◌, ◌^◌, ◌≤◌, min, Bool, true, false, Result, Ok, Err}
use Rattle.evo_base.specs.declared.files.Failed.{Failed}
use Rattle.evo_base.specs.declared.files.GetFault.{GetFault}
use Rattle.evo_base.specs.declared.files.GetFault.TheVariants as fault

-- the count rose, or stands at its last value
pub record CountRose (before now : ℕ) : Type 0 where
  pub later : before ≤ now
  pub risen : min (before + 1) (2 ^ 64 - 1) ≤ now

-- a fault comes only where the count rose and the call could fail; else the count stands
abbrev pub GetCause : {T : Type 0} → ℕ → ℕ → Type 0 → Result T GetFault → Type 0
GetCause before now sure (Ok x) = now ≡ before
GetCause before now sure (Err fault.Failed) = CountRose before now × (sure → ⊥)
GetCause before now sure (Err fault.Memory) = now ≡ before

-- the same of a call whose only fault is this one
abbrev pub HasCause : {T : Type 0} → ℕ → ℕ → Type 0 → Result T Failed → Type 0
HasCause before now sure (Ok x) = now ≡ before
HasCause before now sure (Err e) = CountRose before now × (sure → ⊥)

-- a `get` failed; want of memory is no failure of the files
abbrev pub get_failed : {T : Type 0} → Result T GetFault → Bool
get_failed (Ok x) = false
get_failed (Err fault.Failed) = true
get_failed (Err fault.Memory) = false
