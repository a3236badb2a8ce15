-- What the two calls answer. Want of memory alone is free.
use Rattle.std.specs.Prelude.{◌<◌, ◌≤◌, List, length, Result, Ok, Err}
use Rattle.evo_resolved.specs.declared.resolved_type.RType.{RType}
use Rattle.evo_resolved.specs.declared.declaration.RRequirement.{RRequirement}
use Rattle.evo_resolved.specs.declared.path.ConfPath.{ConfPath}
use Rattle.evo_solve.specs.declared.path.SolveFault.{SolveFault}
use Rattle.evo_solve.specs.declared.path.SolveFault.TheVariants as fault
use Rattle.evo_solve.specs.Equal.{path_of}
use Rattle.evo_solve.specs.Canonical.{IsCanonical}
use Rattle.evo_solve.specs.Ways.{Goal, Route, IsWay, IsFirstPath}

-- it has five associated names or more
abbrev pub IsLong : RType → Type 0
IsLong t = 4 < length (path_of t).names

abbrev pub IsShort : RType → Type 0
IsShort t = length (path_of t).names ≤ 4

abbrev pub Canonical : List RRequirement → RType → Result RType SolveFault → Type 0
Canonical written t (Ok r) = IsShort t × IsCanonical written t r
Canonical written t (Err fault.Long) = IsLong t
Canonical written t (Err fault.NoPath) = ⊥
Canonical written t (Err fault.Memory) = Unit {0}

abbrev pub Conformance : Goal → Result ConfPath SolveFault → Type 0
Conformance g (Ok path) = IsShort g.type × IsFirstPath g path
Conformance g (Err fault.Long) = IsLong g.type
Conformance g (Err fault.NoPath) = IsShort g.type × ((route : Route) (path : ConfPath) → IsWay g route path → ⊥)
Conformance g (Err fault.Memory) = Unit {0}
