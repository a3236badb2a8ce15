-- What the search for a path finds.
use Rattle.std.specs.Prelude.{◌≡◌, ℕ, ◌+◌, ◌*◌, ◌/◌, ◌%◌, ◌<◌, List, ◌∷◌, ◌++◌, length, Option, Some, None, slice_get, ◌⊎◌}
use Rattle.evo_base.specs.declared.key.Key.{Key}
use Rattle.evo_resolved.specs.declared.resolved_type.RType.{RType}
use Rattle.evo_resolved.specs.declared.path.ConfPath.{ConfPath}
use Rattle.evo_resolved.specs.declared.path.ConfStart.{ConfStart}
use Rattle.evo_resolved.specs.declared.path.ConfStart.TheVariants as conf
use Rattle.evo_solve.specs.declared.path.Word.{Word}
use Rattle.evo_solve.specs.declared.classes.Classes.{Classes}
use Rattle.evo_solve.specs.declared.declarations.Protocol.{Protocol}
use Rattle.evo_solve.specs.declared.declarations.DeclaredConformance.{DeclaredConformance}
use Rattle.evo_solve.specs.Equal.{path_of}
use Rattle.evo_solve.specs.Universe.{Has}
use Rattle.evo_solve.specs.Ways.{IsNumber, Lex}
use Rattle.evo_solve.specs.Search.{Arrives, StartAt}

-- the place of a conformance: none where the type has no class or the protocol no number
abbrev pub IsStart : Classes → List Protocol → RType → Key → Option ℕ → Type 0
IsStart g ps t key None = (c q : ℕ) → Has g.nodes.items g.reps.items (path_of t) c → IsNumber ps key q → ⊥
IsStart g ps t key (Some s) = (c : ℕ) × (q : ℕ) × Has g.nodes.items g.reps.items (path_of t) c × IsNumber ps key q × (s ≡ c * length ps + q)

abbrev pub of_word : Word → RType × Key
of_word w = (w.subject, w.protocol)

abbrev pub of_conformance : DeclaredConformance → RType × Key
of_conformance c = (c.conformer, c.protocol)

-- the places of the first of these
pub record StartsTo {A : Type 0} (g : Classes) (ps : List Protocol) (items : List A) (of_item : A → RType × Key) (n : ℕ) (starts : List (Option ℕ)) : Type 0 where
  pub size : length starts ≡ n
  pub each : (i : ℕ) (x : A) → i < n → slice_get items i ≡ Some x → (o : Option ℕ) × (slice_get starts i ≡ Some o) × IsStart g ps (of_item x).0 (of_item x).1 o

-- the places of the first declared conformances stand behind others
pub record Extended (g : Classes) (ps : List Protocol) (declared : List DeclaredConformance) (n : ℕ) (old new : List (Option ℕ)) : Type 0 where
  pub more : List (Option ℕ)
  pub is : new ≡ old ++ more
  pub starts : StartsTo g ps declared of_conformance n more

-- the first of the shortest ways from a start
pub record FirstWay (g : Classes) (ps : List Protocol) (t m : ℕ) (starts : List (Option ℕ)) (i : ℕ) (names : List Key) : Type 0 where
  pub place : ℕ
  pub steps : List ℕ
  pub start : StartAt starts i place
  pub arrives : Arrives g ps t m steps names (place / length ps) (place % length ps)
  pub first : (j s : ℕ) (js : List ℕ) (ks : List Key) → StartAt starts j s → Arrives g ps t m js ks (s / length ps) (s % length ps) → (length steps < length js) ⊎ ((length steps ≡ length js) × Lex (i ∷ steps) (j ∷ js))

-- the start of a path that has this number
abbrev pub IsKeyOf : List Word → List DeclaredConformance → ℕ → ConfStart → Type 0
IsKeyOf words declared i (conf.Required n) = (n ≡ i) × (i < length words)
IsKeyOf words declared i (conf.Declared k) = (j : ℕ) × (c : DeclaredConformance) × (slice_get declared j ≡ Some c) × (i ≡ length words + j) × (k ≡ c.key)

-- a path by its start and the names of its steps
pub record IsFoundPath (g : Classes) (ps : List Protocol) (t m : ℕ) (words : List Word) (declared : List DeclaredConformance) (starts : List (Option ℕ)) (path : ConfPath) : Type 0 where
  pub start : ℕ
  pub key : IsKeyOf words declared start path.start
  pub way : FirstWay g ps t m starts start path.steps

abbrev pub FoundOrNone : Classes → List Protocol → ℕ → ℕ → List Word → List DeclaredConformance → List (Option ℕ) → Option ConfPath → Type 0
FoundOrNone g ps t m words declared starts (Some path) = IsFoundPath g ps t m words declared starts path
FoundOrNone g ps t m words declared starts None = (i s : ℕ) (js : List ℕ) (ks : List Key) → StartAt starts i s → Arrives g ps t m js ks (s / length ps) (s % length ps) → ⊥
