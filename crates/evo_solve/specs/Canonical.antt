-- The type that stands for its equals, and requirements that conflict.
use Rattle.std.specs.Prelude.{◌≡◌, ℕ, suc, List, [], length, take, false, ◌⊎◌}
use Rattle.std.specs.Ordering.{nat_cmp, ordering_then, is_gt}
use Rattle.std.specs.Cmp.Lexicographic.{slice_cmp}
use Rattle.std.specs.declared.cmp.Ordering.{Ordering}
use Rattle.evo_resolved.specs.declared.resolved_type.RType.{RType}
use Rattle.evo_resolved.specs.declared.resolved_type.RType.TheVariants as ty
use Rattle.evo_resolved.specs.declared.declaration.RRequirement.{RRequirement}
use Rattle.evo_names.specs.Listed.{Text}
use Rattle.evo_solve.specs.declared.path.Path.{Path}
use Rattle.evo_solve.specs.Equal.{Equal, alone, parameter, path_of}

-- ---- types

-- one that is no parameter and has none in it
abbrev pub IsNamed : RType → Type 0
IsNamed (ty.Named k) = Unit {0}
IsNamed ty.NoValue = Unit {0}
IsNamed t = ⊥

-- where names are to stand behind a parameter, there is one at least
abbrev pub IsFormed : RType → Type 0
IsFormed (ty.Assoc i []) = ⊥
IsFormed t = Unit {0}

-- ---- the order of paths

abbrev pub name_order : Text → Text → Ordering
name_order a b = slice_cmp nat_cmp a b

abbrev pub names_order : List Text → List Text → Ordering
names_order a b = slice_cmp name_order a b

abbrev pub number : RType → ℕ
number (ty.Param i) = i
number (ty.Assoc i ns) = i
number t = 0

-- the shorter first, then by parameter, then by names, each in the order of its bytes
abbrev pub path_order : Path → Path → Ordering
path_order p q = ordering_then (nat_cmp (length p.names) (length q.names)) (ordering_then (nat_cmp (number p.first) (number q.first)) (names_order p.names q.names))

abbrev pub NotAfter : Path → Path → Type 0
NotAfter p q = is_gt (path_order p q) ≡ false

-- ---- the canonical type

-- it is equal; it is the named type of its class, if there is one; else none of the paths of its class comes before it
pub record IsCanonical (written : List RRequirement) (type result : RType) : Type 0 where
  pub equal : Equal written (path_of type) (path_of result)
  pub formed : IsFormed result
  pub named : (t : RType) → IsNamed t → Equal written (path_of type) (alone t) → result ≡ t
  pub first : (i : ℕ) (ns : List Text) → Equal written (path_of type) (parameter i ns) → IsNamed result ⊎ NotAfter (path_of result) (parameter i ns)

-- ---- conflicts

-- no two different named types are equal
abbrev pub IsConsistent : List RRequirement → Type 0
IsConsistent written = (t u : RType) → IsNamed t → IsNamed u → Equal written (alone t) (alone u) → t ≡ u

-- with this requirement there are such, and not before
pub record IsFirstConflict (written : List RRequirement) (i : ℕ) : Type 0 where
  pub before : IsConsistent (take i written)
  pub conflict : IsConsistent (take (suc i) written) → ⊥
