-- What is being found out of written types, each place once.
use Rattle.std.specs.Prelude.{◌≡◌, ℕ, suc, ◌+◌, ◌<◌, ◌⊎◌, List, Option, Some, None, length, slice_get}
use Rattle.evo_base.specs.declared.key.Key.{Key}
use Rattle.evo_resolved.specs.declared.resolved_type.RType.{RType}
use Rattle.evo_members.specs.declared.located.Located.{Located}
use Rattle.evo_members.specs.Located.{start_of}
use Rattle.evo_names.specs.Listed.{Text, World}
use Rattle.evo_names.specs.Written.{Scope, Means}
use Rattle.evo_type_names.specs.declared.known.Known.{Known}
use Rattle.evo_type_names.specs.declared.meaning.Meaning.{Meaning}
use Rattle.evo_type_names.specs.Known.{AllKnown, Demands, is_place, met_by, type_of}

-- what names written in a scope mean, or that they mean nothing
abbrev pub IsMeaning : World → Scope → List Text → Option Meaning → Type 0
IsMeaning w s ns None = (met : List Key) (t : RType) → Means w s ns met t → ⊥
IsMeaning w s ns (Some m) = Means w s ns (met_by m) (type_of m)

-- ---- the stack of what waits

-- each wants the one behind it
abbrev pub Chained : World → List Located → Type 0
Chained w ls = (i : ℕ) (a b : Located) → slice_get ls i ≡ Some a → slice_get ls (suc i) ≡ Some b → Demands w (start_of w a) (start_of w b)

-- no two are of one place, so that no more wait than there are places
abbrev pub Distinct : List Located → Type 0
Distinct ls = (i j : ℕ) (a b : Located) → i < j → slice_get ls i ≡ Some a → slice_get ls j ≡ Some b → is_place a ≡ is_place b → ⊥

-- it is the place of one of these
pub record IsOn (ls : List Located) (l : Located) : Type 0 where
  pub number : ℕ
  pub one : Located
  pub at : slice_get ls number ≡ Some one
  pub same : is_place one ≡ is_place l

-- one more is known, or two more wait
abbrev pub HasTurned : World → List Known → List Located → List Known → List Located → Type 0
HasTurned w known stack known' stack' = AllKnown w known' × Chained w stack' × Distinct stack' × (((length known' ≡ length known + 1) × (length stack' ≡ length stack)) ⊎ ((length known' ≡ length known) × (length stack' ≡ length stack + 2)))
