-- What is known of written types, and what a walk along names comes to.
use Rattle.std.specs.Prelude.{◌≡◌, ℕ, suc, ◌+◌, ◌≤◌, ◌<◌, List, [], ◌∷◌, map, Option, Some, None, Bool, true, false, slice_get, ⊤}
use Rattle.evo_base.specs.declared.key.Key.{Key}
use Rattle.evo_resolved.specs.declared.resolved_type.RType.{RType}
use Rattle.evo_resolved.specs.declared.resolved_type.RType.TheVariants as ty
use Rattle.evo_declarations.specs.Views.{key_of_type}
use Rattle.evo_members.specs.declared.located.Located.{Located}
use Rattle.evo_members.specs.Located.{around_of, start_of}
use Rattle.evo_names.specs.Listed.{Text, World}
use Rattle.evo_names.specs.Seen.{Viewpoint}
use Rattle.evo_names.specs.Written as written
use Rattle.evo_names.specs.Written.{Start, fixed, via, Leads, whole, further, elsewhere, behind, joined}
use Rattle.evo_type_names.specs.declared.known.Known.{Known}
use Rattle.evo_type_names.specs.declared.meaning.TypeHead.{TypeHead}
use Rattle.evo_type_names.specs.declared.meaning.TypeHead.TheVariants as head
use Rattle.evo_type_names.specs.declared.meaning.Meaning.{Meaning}
use Rattle.evo_type_names.specs.declared.walk.Entered.{Entered}
use Rattle.evo_type_names.specs.declared.walk.Entered.TheVariants as entered
use Rattle.evo_type_names.specs.declared.walk.Outcome.{Outcome}
use Rattle.evo_type_names.specs.declared.walk.Outcome.TheVariants as outcome
use Rattle.evo_type_names.specs.Aliases.{alias_keys}
use denote.Bor.{Bor}

-- ---- types

abbrev pub parameter_type : ℕ → List Text → RType
parameter_type i [] = ty.Param i
parameter_type i (n ∷ ns) = ty.Assoc i (n ∷ ns)

abbrev pub type_view : TypeHead → List Text → RType
type_view (head.Named t) ns = ty.Named (key_of_type t)
type_view (head.Parameter i) ns = parameter_type i ns
type_view head.NoValue ns = ty.NoValue

abbrev pub texts_of : List (Bor Text) → List Text
texts_of ts = map (λ t. t.now) ts

abbrev pub type_of : Meaning → RType
type_of m = type_view m.head (texts_of m.path.items)

abbrev pub met_by : Meaning → List Key
met_by m = alias_keys m.aliases.items

-- ---- places

abbrev pub is_place : Located → ℕ × written.Around
is_place l = (l.number, around_of l.around)

-- ---- what is known

-- it means this type by these `typealias`es, or nothing
abbrev pub Says : World → Start → Option Meaning → Type 0
Says w x None = (v : Viewpoint) (met : List Key) (t : RType) → Leads w v x [] met t → ⊥
Says w x (Some m) = (v : Viewpoint) → Leads w v x [] (met_by m) (type_of m)

abbrev pub AllKnown : World → List Known → Type 0
AllKnown w ks = (i : ℕ) (k : Known) → slice_get ks i ≡ Some k → Says w (start_of w k.located) k.found

-- what is answered is known of this place, or nothing is
abbrev pub IsKnownAt : List Known → Located → Option (Bor Known) → Type 0
IsKnownAt ks l None = (i : ℕ) (k : Known) → slice_get ks i ≡ Some k → is_place k.located ≡ is_place l → ⊥
IsKnownAt ks l (Some k) = (i : ℕ) × (slice_get ks i ≡ Some k.now) × (is_place k.now.located ≡ is_place l)

-- ---- how far it is to a type

abbrev pub size : {w : World} {v : Viewpoint} {x : Start} {ns : List Text} {met : List Key} {t : RType} → Leads w v x ns met t → ℕ
size whole = 0
size (further x is d) = suc (size d)
size (elsewhere x rest first later t is d e met) = suc (size d + size e)

-- what is written there means a type, and it is no further to it than this
pub record Within (w : World) (x : Start) (n : ℕ) : Type 0 where
  pub view : Viewpoint
  pub met : List Key
  pub type : RType
  pub leads : Leads w view x [] met type
  pub size_within : size leads ≤ n

-- ---- one name

-- a start was added to what was met
pub record Added (w : World) (x : Start) (old new : List Key) (t : RType) : Type 0 where
  pub first : List Key
  pub leads : (v : Viewpoint) → Leads w v x [] first t
  pub met : new ≡ joined old first

abbrev pub IsEntered : World → Start → Entered → List Key → List Key → RType → Type 0
IsEntered w x entered.On old new t = Added w x old new t
IsEntered w x entered.Nothing old new t = (v : Viewpoint) (met : List Key) (u : RType) → Leads w v x [] met u → ⊥
IsEntered w x (entered.Wants y) old new t = x ≡ start_of w y

abbrev pub goes_on : Entered → Bool
goes_on entered.On = true
goes_on e = false

-- what stands behind a type by a name was added
pub record Stepped (w : World) (v : Viewpoint) (before : RType) (n : Text) (old new : List Key) (t : RType) : Type 0 where
  pub start : Start
  pub behind_it : behind w v before n ≡ Some start
  pub added : Added w start old new t

abbrev pub IsStepped : World → Viewpoint → RType → Text → Entered → List Key → List Key → RType → Type 0
IsStepped w v before n entered.On old new t = Stepped w v before n old new t
IsStepped w v before n entered.Nothing old new t = (x : Start) → behind w v before n ≡ Some x → (v' : Viewpoint) (met : List Key) (u : RType) → Leads w v' x [] met u → ⊥
IsStepped w v before n (entered.Wants y) old new t = behind w v before n ≡ Some (start_of w y)

-- what is known of a place is taken over
abbrev pub IsTaken : Option Meaning → Entered → List Key → List Key → RType → Type 0
IsTaken None e old new t = e ≡ entered.Nothing
IsTaken (Some m) e old new t = (e ≡ entered.On) × (new ≡ joined old (met_by m)) × (t ≡ type_of m)

-- ---- a walk

-- names lead from a start to a type, and what they meet was added
pub record Walked (w : World) (v : Viewpoint) (x : Start) (ns : List Text) (old new : List Key) (t : RType) : Type 0 where
  pub first : List Key
  pub leads : Leads w v x ns first t
  pub met : new ≡ joined old first

-- or they lead nowhere, or what is written at a place has to be known first
abbrev pub IsWalked : World → Viewpoint → Start → List Text → Entered → List Key → List Key → RType → Type 0
IsWalked w v x ns entered.On old new t = Walked w v x ns old new t
IsWalked w v x ns entered.Nothing old new t = (met : List Key) (u : RType) → Leads w v x ns met u → ⊥
IsWalked w v x ns (entered.Wants y) old new t = (met : List Key) (u : RType) (d : Leads w v x ns met u) → Within w (start_of w y) (size d)

abbrev pub IsOutcome : World → Viewpoint → Start → List Text → List Key → Outcome → Type 0
IsOutcome w v x ns old (outcome.Means m) = Walked w v x ns old (met_by m) (type_of m)
IsOutcome w v x ns old outcome.Nothing = (met : List Key) (u : RType) → Leads w v x ns met u → ⊥
IsOutcome w v x ns old (outcome.Wants y) = (met : List Key) (u : RType) (d : Leads w v x ns met u) → Within w (start_of w y) (size d)

-- ---- what is written in a place

-- what is written there means a type, and it is nearer than this
pub record Under (w : World) (x : Start) (n : ℕ) : Type 0 where
  pub view : Viewpoint
  pub met : List Key
  pub type : RType
  pub leads : Leads w view x [] met type
  pub size_under : size leads < n

-- what means a type wants another to mean one, from nearer
abbrev pub Demands : World → Start → Start → Type 0
Demands w x y = (v : Viewpoint) (met : List Key) (t : RType) (d : Leads w v x [] met t) → Under w y (size d)

abbrev pub IsTried : World → Start → Outcome → Type 0
IsTried w x (outcome.Means m) = Says w x (Some m)
IsTried w x outcome.Nothing = Says w x None
IsTried w x (outcome.Wants y) = Demands w x (start_of w y)
