-- The search for a path: places are classes with protocols, and subtables lead from one to another.
use Rattle.std.specs.Prelude.{◌≡◌, ℕ, suc, ◌+◌, ◌*◌, ◌/◌, ◌%◌, ◌<◌, ◌≤◌, List, [], ◌∷◌, ◌++◌, length, get_or, Option, Some, None, slice_get, ◌⊎◌}
use Rattle.evo_base.specs.declared.key.Key.{Key}
use Rattle.evo_names.specs.Listed.{Text}
use Rattle.evo_solve.specs.declared.universe.Node.{Node}
use Rattle.evo_solve.specs.declared.classes.Classes.{Classes}
use Rattle.evo_solve.specs.declared.declarations.Subtable.{Subtable}
use Rattle.evo_solve.specs.declared.declarations.Protocol.{Protocol}
use Rattle.evo_solve.specs.declared.distance.Step.{Step}
use Rattle.evo_solve.specs.Universe.{Child}
use Rattle.evo_solve.specs.Ways.{Lex}

-- ---- steps

abbrev pub subtables_by : Option Protocol → List Subtable
subtables_by None = []
subtables_by (Some p) = p.subtables

abbrev pub subtables_of : List Protocol → ℕ → List Subtable
subtables_of ps n = subtables_by (slice_get ps n)

-- the class stays, or is that of the associated type
abbrev pub MovesBy : List Node → List ℕ → ℕ → ℕ → Option Text → Type 0
MovesBy nodes reps c d None = c ≡ d
MovesBy nodes reps c d (Some n) = Child nodes reps c n d

abbrev pub Moves : Classes → ℕ → ℕ → Subtable → Type 0
Moves g c d step = MovesBy g.nodes.items g.reps.items c d step.associated

-- from a class and a protocol, these steps, with these names, lead to what is sought
abbrev pub Arrives : Classes → List Protocol → ℕ → ℕ → List ℕ → List Key → ℕ → ℕ → Type 0
Arrives g ps t m [] [] c q = (c ≡ t) × (q ≡ m)
Arrives g ps t m [] (k ∷ ks) c q = ⊥
Arrives g ps t m (j ∷ js) [] c q = ⊥
Arrives g ps t m (j ∷ js) (k ∷ ks) c q = (step : Subtable) × (d : ℕ) × (slice_get (subtables_of ps q) j ≡ Some step) × Moves g c d step × (k ≡ step.name) × Arrives g ps t m js ks d step.protocol

-- ---- distances

abbrev pub value : List (Option ℕ) → ℕ → Option ℕ
value distances place = get_or distances place None

-- that of a class and a protocol, of which there are `count`
abbrev pub at : List (Option ℕ) → ℕ → ℕ → ℕ → Option ℕ
at distances count c q = value distances (c * count + q)

-- this step leads to a place that is this far
abbrev pub NearBy : Classes → List Protocol → List (Option ℕ) → ℕ → ℕ → ℕ → ℕ → Type 0
NearBy g ps distances c q far j = (step : Subtable) × (d : ℕ) × (slice_get (subtables_of ps q) j ≡ Some step) × Moves g c d step × (step.protocol < length ps) × (at distances (length ps) d step.protocol ≡ Some far)

abbrev pub Near : Classes → List Protocol → List (Option ℕ) → ℕ → ℕ → ℕ → Type 0
Near g ps distances c q far = (j : ℕ) × (step : Subtable) × (d : ℕ) × (slice_get (subtables_of ps q) j ≡ Some step) × Moves g c d step × (step.protocol < length ps) × (at distances (length ps) d step.protocol ≡ Some far)

-- the first such step
pub record IsNearest (g : Classes) (ps : List Protocol) (distances : List (Option ℕ)) (c q far : ℕ) (s : Step) : Type 0 where
  pub subtable : Subtable
  pub there : slice_get (subtables_of ps q) s.number ≡ Some subtable
  pub moves : Moves g c s.class subtable
  pub leads : s.protocol ≡ subtable.protocol
  pub inside : s.protocol < length ps
  pub far_off : at distances (length ps) s.class s.protocol ≡ Some far
  pub first : (j : ℕ) → j < s.number → NearBy g ps distances c q far j → ⊥

abbrev pub IsPlace : Classes → List Protocol → ℕ → ℕ → Type 0
IsPlace g ps c q = (c < length g.nodes.items) × (q < length ps)

-- each place that has a distance has that of its shortest way
pub record Exact (g : Classes) (ps : List Protocol) (t m : ℕ) (distances : List (Option ℕ)) : Type 0 where
  pub zero : (c q : ℕ) → IsPlace g ps c q → at distances (length ps) c q ≡ Some 0 → (c ≡ t) × (q ≡ m)
  pub down : (c q d : ℕ) → IsPlace g ps c q → at distances (length ps) c q ≡ Some (suc d) → Near g ps distances c q d
  pub least : (c q d : ℕ) (js : List ℕ) (ks : List Key) → IsPlace g ps c q → at distances (length ps) c q ≡ Some d → Arrives g ps t m js ks c q → d ≤ length js

-- those of at most this many steps are there
pub record Level (g : Classes) (ps : List Protocol) (t m far : ℕ) (distances : List (Option ℕ)) : Type 0 where
  pub size : length distances ≡ length ps * length g.nodes.items
  pub exact : Exact g ps t m distances
  pub missing : (c q : ℕ) (js : List ℕ) (ks : List Key) → IsPlace g ps c q → at distances (length ps) c q ≡ None → Arrives g ps t m js ks c q → far < length js
  pub bound : (c q d : ℕ) → IsPlace g ps c q → at distances (length ps) c q ≡ Some d → d ≤ far

-- the first places have got one step more than their neighbours
pub record Rounded (g : Classes) (ps : List Protocol) (far : ℕ) (old new : List (Option ℕ)) (n : ℕ) : Type 0 where
  pub size : length new ≡ length old
  pub kept : (s d : ℕ) → value old s ≡ Some d → value new s ≡ Some d
  pub made : (s d : ℕ) → value new s ≡ Some d → (value old s ≡ Some d) ⊎ ((d ≡ suc far) × Near g ps old (s / length ps) (s % length ps) far)
  pub done : (s : ℕ) → s < n → value new s ≡ None → Near g ps old (s / length ps) (s % length ps) far → ⊥

-- how many places have no distance
abbrev pub nones : List (Option ℕ) → ℕ
nones [] = 0
nones (None ∷ xs) = suc (nones xs)
nones (Some d ∷ xs) = nones xs

-- ---- starts, of which some are no places

-- the start is at this place
abbrev pub StartAt : List (Option ℕ) → ℕ → ℕ → Type 0
StartAt starts i s = slice_get starts i ≡ Some (Some s)

-- no start has a way of fewer steps
abbrev pub Early : Classes → List Protocol → ℕ → ℕ → List (Option ℕ) → ℕ → Type 0
Early g ps t m starts far = (i s : ℕ) (js : List ℕ) (ks : List Key) → StartAt starts i s → Arrives g ps t m js ks (s / length ps) (s % length ps) → far ≤ length js

-- the first start of those that are nearest
pub record Chosen (g : Classes) (ps : List Protocol) (t m : ℕ) (starts distances : List (Option ℕ)) (i : ℕ) : Type 0 where
  pub place : ℕ
  pub far : ℕ
  pub start : StartAt starts i place
  pub is_far : value distances place ≡ Some far
  pub first : (j s : ℕ) (js : List ℕ) (ks : List Key) → StartAt starts j s → Arrives g ps t m js ks (s / length ps) (s % length ps) → (far < length js) ⊎ ((far ≡ length js) × (i ≤ j))

abbrev pub StartsIn : List (Option ℕ) → List (Option ℕ) → Type 0
StartsIn starts distances = (i s : ℕ) → StartAt starts i s → s < length distances

-- steps that lead to what is sought, of which none of that length come before
abbrev pub Followed : Classes → List Protocol → ℕ → ℕ → ℕ → ℕ → ℕ → List Key → List Key → Type 0
Followed g ps t m c q far old new = (js : List ℕ) × (ks : List Key) × (new ≡ old ++ ks) × Arrives g ps t m js ks c q × (length js ≡ far) × ((other : List ℕ) (names : List Key) → Arrives g ps t m other names c q → length other ≡ far → Lex js other)
