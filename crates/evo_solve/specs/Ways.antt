-- How a type comes to conform to a protocol: from a required or a declared conformance, by subtables, to the conformance of an equal type.
use Rattle.std.specs.Prelude.{◌≡◌, ℕ, ◌+◌, ◌<◌, List, [], ◌∷◌, length, Option, Some, None, slice_get, ◌⊎◌}
use Rattle.evo_base.specs.declared.key.Key.{Key}
use Rattle.evo_resolved.specs.declared.resolved_type.RType.{RType}
use Rattle.evo_resolved.specs.declared.declaration.Signature.{Signature}
use Rattle.evo_resolved.specs.declared.path.ConfPath.{ConfPath}
use Rattle.evo_resolved.specs.declared.path.ConfStart.{ConfStart}
use Rattle.evo_resolved.specs.declared.path.ConfStart.TheVariants as conf
use Rattle.evo_names.specs.Listed.{Text}
use Rattle.evo_solve.specs.declared.path.Path.{Path}
use Rattle.evo_solve.specs.declared.path.Word.{Word}
use Rattle.evo_solve.specs.declared.declarations.Subtable.{Subtable}
use Rattle.evo_solve.specs.declared.declarations.Protocol.{Protocol}
use Rattle.evo_solve.specs.declared.declarations.DeclaredConformance.{DeclaredConformance}
use Rattle.evo_solve.specs.declared.declarations.Declarations.{Declarations}
use Rattle.evo_solve.specs.Equal.{Equal, path_of, taken}
use Rattle.evo_solve.specs.Words.{table_words}

-- ---- steps

-- the number of a protocol is that of the first one that has its key
pub record IsNumber (protocols : List Protocol) (key : Key) (n : ℕ) : Type 0 where
  pub protocol : Protocol
  pub at : slice_get protocols n ≡ Some protocol
  pub own : protocol.key ≡ key
  pub none_before : (i : ℕ) (other : Protocol) → i < n → slice_get protocols i ≡ Some other → other.key ≡ key → ⊥

-- an inherited protocol is one of the same type, a constraint one of its associated type
abbrev pub after : Path → Option Text → Path
after p None = p
after p (Some n) = taken p n

-- From the conformance of a path to a protocol, subtables lead to that of another path and protocol. A step is the number of a subtable in the order of its protocol, and has the subtable's key.
pub data Leads (protocols : List Protocol) : Path → ℕ → List ℕ → List Key → Path → ℕ → Type 0 where
  stays : {p : Path} {n : ℕ} → Leads protocols p n [] [] p n
  goes : {p r : Path} {n j m : ℕ} {js : List ℕ} {ks : List Key} {k : Key} (protocol : Protocol) (step : Subtable) → slice_get protocols n ≡ Some protocol → slice_get protocol.subtables j ≡ Some step → k ≡ step.name → Leads protocols (after p step.associated) step.protocol js ks r m → Leads protocols p n (j ∷ js) (k ∷ ks) r m

-- ---- starts

-- A start has a number: the required conformances come first, in the order of the table words, and then the declared ones in theirs.
pub data Starts (words : List Word) (declared : List DeclaredConformance) : ℕ → ConfStart → Path → Key → Type 0 where
  by_word : {i : ℕ} (w : Word) → slice_get words i ≡ Some w → Starts words declared i (conf.Required i) (path_of w.subject) w.protocol
  by_declaration : {n : ℕ} (i : ℕ) (c : DeclaredConformance) → slice_get declared i ≡ Some c → n ≡ length words + i → Starts words declared n (conf.Declared c.key) (path_of c.conformer) c.protocol

-- ---- paths

-- a start and steps, by their numbers
pub record Route : Type 0 where
  pub start : ℕ
  pub steps : List ℕ

-- what is asked for: under these requirements, the conformance of a type to a protocol
pub record Goal : Type 0 where
  pub signature : Signature
  pub declarations : Declarations
  pub type : RType
  pub protocol : Key

-- the path begins at the route's start, and its steps lead to the protocol and to a type that is equal
pub record IsWay (g : Goal) (route : Route) (path : ConfPath) : Type 0 where
  pub origin : Path
  pub end : Path
  pub first_protocol : Key
  pub first_number : ℕ
  pub last_number : ℕ
  pub starts : Starts (table_words g.signature) g.declarations.conformances route.start path.start origin first_protocol
  pub first_is : IsNumber g.declarations.protocols first_protocol first_number
  pub leads : Leads g.declarations.protocols origin first_number route.steps path.steps end last_number
  pub last_is : IsNumber g.declarations.protocols g.protocol last_number
  pub equal : Equal g.signature.requirements end (path_of g.type)

-- of two lists of one length, the first comes first or they are equal
abbrev pub Lex : List ℕ → List ℕ → Type 0
Lex [] ys = Unit {0}
Lex (x ∷ xs) [] = ⊥
Lex (x ∷ xs) (y ∷ ys) = (x < y) ⊎ ((x ≡ y) × Lex xs ys)

-- the shorter first, then by start, then by steps
abbrev pub NotAfter : Route → Route → Type 0
NotAfter p q = (length p.steps < length q.steps) ⊎ ((length p.steps ≡ length q.steps) × Lex (p.start ∷ p.steps) (q.start ∷ q.steps))

-- the shortest path, and of these the first
pub record IsFirstPath (g : Goal) (path : ConfPath) : Type 0 where
  pub route : Route
  pub way : IsWay g route path
  pub first : (other : Route) (p : ConfPath) → IsWay g other p → NotAfter route other

abbrev pub goal_of : Signature → Declarations → RType → Key → Goal
goal_of s d t p = record { signature = s; declarations = d; type = t; protocol = p }

-- it is the first path, or there is none
abbrev pub PathOrNone : Goal → Option ConfPath → Type 0
PathOrNone g (Some path) = IsFirstPath g path
PathOrNone g None = (route : Route) (path : ConfPath) → IsWay g route path → ⊥
