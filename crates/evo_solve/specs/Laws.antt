-- What the definitions say of each other.
use Rattle.std.specs.Prelude.{◌≡◌, List}
use Rattle.evo_resolved.specs.declared.resolved_type.RType.{RType}
use Rattle.evo_resolved.specs.declared.declaration.RRequirement.{RRequirement}
use Rattle.evo_resolved.specs.declared.path.ConfPath.{ConfPath}
use Rattle.evo_solve.specs.Equal.{Equal, path_of}
use Rattle.evo_solve.specs.Canonical.{IsCanonical}
use Rattle.evo_solve.specs.Ways.{Goal, IsFirstPath}

-- equal types have one canonical type
abbrev pub OneCanonical : Type 0
OneCanonical = (written : List RRequirement) (a b x y : RType) → Equal written (path_of a) (path_of b) → IsCanonical written a x → IsCanonical written b y → x ≡ y

-- a type has at most one first path to a protocol
abbrev pub OneFirstPath : Type 0
OneFirstPath = (g : Goal) (p q : ConfPath) → IsFirstPath g p → IsFirstPath g q → p ≡ q
