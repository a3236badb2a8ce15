-- The nodes of a solver, in classes by a representative each, and which paths lead to which class.
use Rattle.std.specs.Prelude.{◌≡◌, ℕ, ◌+◌, ◌<◌, List, [], ◌∷◌, ◌++◌, length, get_or, Option, Some, None, slice_get, Bool, true, cond, ◌==◌, ◌⊎◌}
use Rattle.std.specs.Option.{option_map}
use Rattle.std.specs.Ordering.{is_lt}
use Rattle.evo_base.specs.declared.place.Place.{Place}
use Rattle.evo_resolved.specs.declared.resolved_type.RType.{RType}
use Rattle.evo_resolved.specs.declared.resolved_type.RType.TheVariants as ty
use Rattle.evo_resolved.specs.declared.resolved_type.RTypeName.{RTypeName}
use Rattle.evo_resolved.specs.declared.declaration.RRequirement.{RRequirement}
use Rattle.evo_resolved.specs.declared.declaration.RRequirement.TheVariants as requirement
use Rattle.evo_names.specs.Listed.{Text}
use Rattle.evo_solve.specs.declared.path.Path.{Path}
use Rattle.evo_solve.specs.declared.universe.Node.{Node}
use Rattle.evo_solve.specs.declared.universe.Origin.{Origin}
use Rattle.evo_solve.specs.declared.universe.Origin.TheVariants.{Root, Taken}
use Rattle.evo_solve.specs.declared.universe.Sides.{Sides}
use Rattle.evo_solve.specs.declared.classes.Couple.{Couple}
use Rattle.evo_solve.specs.Equal.{Equal, parameter, path_of, taken}
use Rattle.evo_solve.specs.Canonical.{IsNamed, NotAfter, path_order}

-- ---- nodes

-- a node's path is a type alone, or that of an earlier one with a name behind it
abbrev pub GrownBy : List Node → ℕ → Node → Origin → Type 0
GrownBy nodes i x Root = x.path.names ≡ []
GrownBy nodes i x (Taken p n) = (y : Node) × (slice_get nodes p ≡ Some y) × (x.path ≡ taken y.path n) × (p < i)

pub record Grown (nodes : List Node) : Type 0 where
  pub each : (i : ℕ) (x : Node) → slice_get nodes i ≡ Some x → GrownBy nodes i x x.origin

-- the node of this number has this path
abbrev pub HasPath : List Node → ℕ → Path → Type 0
HasPath nodes i p = (x : Node) × (slice_get nodes i ≡ Some x) × (x.path ≡ p)

-- more nodes than before, one of which has this path
pub record Added (old new : List Node) (i : ℕ) (p : Path) : Type 0 where
  pub more : List Node
  pub is : new ≡ old ++ more
  pub grown : Grown new
  pub has : HasPath new i p

-- the node of this number is a name behind an earlier one
pub record AddedBehind (old new : List Node) (i below : ℕ) (n : Text) : Type 0 where
  pub parent : Node
  pub at : slice_get old below ≡ Some parent
  pub more : List Node
  pub is : new ≡ old ++ more
  pub grown : Grown new
  pub has : HasPath new i (taken parent.path n)

-- the sides of each `==` before this number are nodes, and each pair of nodes is the sides of one
pub record Placing (written : List RRequirement) (nodes : List Node) (pairs : List Sides) (n : ℕ) : Type 0 where
  pub grown : Grown nodes
  pub placed : (k : ℕ) (l : RTypeName) (place : Place) (r : RTypeName) → k < n → slice_get written k ≡ Some (requirement.Same l place r) → (m : ℕ) × (s : Sides) × (slice_get pairs m ≡ Some s) × HasPath nodes s.left (path_of l.ty) × HasPath nodes s.right (path_of r.ty)
  pub meant : (m : ℕ) (s : Sides) → slice_get pairs m ≡ Some s → (k : ℕ) × (l : RTypeName) × (place : Place) × (r : RTypeName) × (slice_get written k ≡ Some (requirement.Same l place r)) × HasPath nodes s.left (path_of l.ty) × HasPath nodes s.right (path_of r.ty)

-- ---- classes

abbrev pub rep : List ℕ → ℕ → ℕ
rep reps i = get_or reps i 0

-- two nodes are of one type, or of one name behind one class
abbrev pub LinkedBy : List ℕ → Node → Node → Origin → Origin → Type 0
LinkedBy reps x y Root Root = x.path.first ≡ y.path.first
LinkedBy reps x y (Taken p n) (Taken q m) = (p < length reps) × (q < length reps) × (rep reps p ≡ rep reps q) × (n ≡ m)
LinkedBy reps x y _ _ = ⊥

abbrev pub Linked : List ℕ → Node → Node → Type 0
Linked reps x y = LinkedBy reps x y x.origin y.origin

-- the classes are kept by the requirements and by taking a name
pub record Closed (nodes : List Node) (pairs : List Sides) (reps : List ℕ) : Type 0 where
  pub linked : (i j : ℕ) (x y : Node) → slice_get nodes i ≡ Some x → slice_get nodes j ≡ Some y → Linked reps x y → rep reps i ≡ rep reps j
  pub sides : (k : ℕ) (p : Sides) → slice_get pairs k ≡ Some p → rep reps p.left ≡ rep reps p.right

-- two classes that are to be one
pub record Gap (nodes : List Node) (pairs : List Sides) (reps : List ℕ) (g : Couple) : Type 0 where
  pub one_in : g.one < length nodes
  pub other_in : g.other < length nodes
  pub differ : rep reps g.one ≡ rep reps g.other → ⊥
  pub why : ((k : ℕ) × (slice_get pairs k ≡ Some (record { left = g.one; right = g.other }))) ⊎ ((x y : Node) × (slice_get nodes g.one ≡ Some x) × (slice_get nodes g.other ≡ Some y) × Linked reps x y)

-- each node is equal to the one that stands for its class
pub record Represented (written : List RRequirement) (nodes : List Node) (reps : List ℕ) : Type 0 where
  pub each : (i : ℕ) (x : Node) → slice_get nodes i ≡ Some x → (y : Node) × (slice_get nodes (rep reps i) ≡ Some y) × Equal written x.path y.path

abbrev pub redirect : ℕ → ℕ → ℕ → ℕ
redirect from to r = cond (r == from) to r

-- what the sum of the numbers is
abbrev pub total : List ℕ → ℕ
total [] = 0
total (x ∷ xs) = x + total xs

-- ---- which paths lead to which class

abbrev pub RootAt : List Node → List ℕ → RType → ℕ → Type 0
RootAt nodes reps t c = (i : ℕ) × (x : Node) × (slice_get nodes i ≡ Some x) × (x.origin ≡ Root) × (x.path.first ≡ t) × (rep reps i ≡ c)

-- it is a name behind a node of the class
abbrev pub TakenFrom : List ℕ → ℕ → Text → Origin → Type 0
TakenFrom reps c n Root = ⊥
TakenFrom reps c n (Taken p m) = (p < length reps) × (rep reps p ≡ c) × (m ≡ n)

-- behind a class a name leads to a class
abbrev pub Child : List Node → List ℕ → ℕ → Text → ℕ → Type 0
Child nodes reps c n d = (i : ℕ) × (x : Node) × (p : ℕ) × (slice_get nodes i ≡ Some x) × (x.origin ≡ Taken p n) × (rep reps p ≡ c) × (rep reps i ≡ d)

abbrev pub Walks : List Node → List ℕ → ℕ → List Text → ℕ → Type 0
Walks nodes reps c [] d = c ≡ d
Walks nodes reps c (n ∷ ns) d = (e : ℕ) × Child nodes reps c n e × Walks nodes reps e ns d

abbrev pub Has : List Node → List ℕ → Path → ℕ → Type 0
Has nodes reps p c = (d : ℕ) × RootAt nodes reps p.first d × Walks nodes reps d p.names c

abbrev pub IsNamedRoot : Node → Type 0
IsNamedRoot x = (x.origin ≡ Root) × IsNamed x.path.first

-- if they are two named types, they are one
abbrev pub Alike : Node → Node → Type 0
Alike x y = IsNamedRoot x → IsNamedRoot y → x.path.first ≡ y.path.first

-- each class has one named type at most
abbrev pub Agree : List Node → List ℕ → Type 0
Agree nodes reps = (t u : RType) (c : ℕ) → IsNamed t → IsNamed u → RootAt nodes reps t c → RootAt nodes reps u c → t ≡ u

-- the classes are those of these requirements
pub record IsSolved (written : List RRequirement) (nodes : List Node) (reps : List ℕ) : Type 0 where
  pub size : length reps ≡ length nodes
  pub grown : Grown nodes
  pub linked : (i j : ℕ) (x y : Node) → slice_get nodes i ≡ Some x → slice_get nodes j ≡ Some y → Linked reps x y → rep reps i ≡ rep reps j
  pub held : (k : ℕ) (l : RTypeName) (place : Place) (r : RTypeName) → slice_get written k ≡ Some (requirement.Same l place r) → (i j : ℕ) × HasPath nodes i (path_of l.ty) × HasPath nodes j (path_of r.ty) × (rep reps i ≡ rep reps j)
  pub sound : Represented written nodes reps

-- ---- the first paths of classes

abbrev pub best_of : List (Option Path) → ℕ → Option Path
best_of bests c = get_or bests c None

abbrev pub root_offer : Path → RType → Option Path
root_offer p (ty.Param i) = Some p
root_offer p t = None

-- what a node offers to its class: a parameter, or the first path of the class before with a name behind it
abbrev pub offer_by : List ℕ → List (Option Path) → Node → Origin → Option Path
offer_by reps bests x Root = root_offer x.path x.path.first
offer_by reps bests x (Taken p n) = option_map (λ b. taken b n) (best_of bests (rep reps p))

abbrev pub offer : List ℕ → List (Option Path) → Node → Option Path
offer reps bests x = offer_by reps bests x x.origin

abbrev pub improves : Option Path → Path → Bool
improves None p = true
improves (Some b) p = is_lt (path_order p b)

abbrev pub lesser : Option Path → Path → Path
lesser None p = p
lesser (Some b) p = cond (is_lt (path_order p b)) p b

-- what a node offers stands in the lists
abbrev pub Offered : List ℕ → List (Option Path) → Node → Origin → Type 0
Offered reps bests x Root = Unit {0}
Offered reps bests x (Taken p n) = (p < length reps) × (rep reps p < length bests)

-- each node stands in a class, which is a node
pub record InRange (nodes : List Node) (reps : List ℕ) : Type 0 where
  pub size : length reps ≡ length nodes
  pub grown : Grown nodes
  pub inside : (i : ℕ) → i < length nodes → rep reps i < length nodes
  pub linked : (i j : ℕ) (x y : Node) → slice_get nodes i ≡ Some x → slice_get nodes j ≡ Some y → Linked reps x y → rep reps i ≡ rep reps j

-- one path is there where another was, and does not come after it
abbrev pub Improves : Option Path → Path → Type 0
Improves o b = (d : Path) × (o ≡ Some d) × NotAfter d b

-- the paths are over parameters, and are those of their classes
pub record Sound (nodes : List Node) (reps : List ℕ) (bests : List (Option Path)) : Type 0 where
  pub has : (c : ℕ) (b : Path) → best_of bests c ≡ Some b → Has nodes reps b c
  pub over : (c : ℕ) (b : Path) → best_of bests c ≡ Some b → (i : ℕ) × (b.first ≡ ty.Param i)

-- no path of fewer names comes before them
abbrev pub Least : List Node → List ℕ → ℕ → List (Option Path) → Type 0
Least nodes reps k bests = (i : ℕ) (ns : List Text) (c : ℕ) → length ns < k → Has nodes reps (parameter i ns) c → Improves (best_of bests c) (parameter i ns)

-- the first nodes have made their offers
pub record Relaxed (nodes : List Node) (reps : List ℕ) (old new : List (Option Path)) (n : ℕ) : Type 0 where
  pub size : length new ≡ length old
  pub lower : (c : ℕ) (b : Path) → best_of old c ≡ Some b → Improves (best_of new c) b
  pub offered : (i : ℕ) (x : Node) (b : Path) → i < n → slice_get nodes i ≡ Some x → offer reps old x ≡ Some b → Improves (best_of new (rep reps i)) b
  pub sound : Sound nodes reps old → Sound nodes reps new

-- a path as a type
abbrev pub type_by : RType → List Text → RType
type_by (ty.Param i) [] = ty.Param i
type_by (ty.Param i) (n ∷ ns) = ty.Assoc i (n ∷ ns)
type_by t ns = t

abbrev pub type_of : Path → RType
type_of p = type_by p.first p.names
