-- Protocols with what they inherit, as they are gone through.
use Rattle.std.specs.Prelude.{◌≡◌, ℕ, ◌+◌, List, reverse}
use Rattle.evo_base.specs.declared.key.Key.{Key}
use Rattle.evo_declarations.specs.declared.type_id.TypeId.{TypeId}
use Rattle.evo_members.specs.Views.{keys_of}
use Rattle.evo_names.specs.Listed.{World}
use Rattle.evo_names.specs.Heads.{reach}

-- those that are left, the next one last
abbrev pub keys_left : List TypeId → List Key
keys_left ts = keys_of (reverse ts)

-- so many were taken from those that were left
abbrev pub IsVisited : World → ℕ → List Key → List Key → List Key → List Key → Type 0
IsVisited w times found left more rest = (m : ℕ) → reach (times + m) w found left ≡ reach m w more rest
