-- Which types requirements make equal. The types are all paths, of any length, that begin with a parameter or another type.
use Rattle.std.specs.Prelude.{◌≡◌, ℕ, List, [], ◌∷◌, ◌++◌, Some, slice_get}
use Rattle.evo_base.specs.declared.place.Place.{Place}
use Rattle.evo_resolved.specs.declared.resolved_type.RType.{RType}
use Rattle.evo_resolved.specs.declared.resolved_type.RType.TheVariants as ty
use Rattle.evo_resolved.specs.declared.resolved_type.RTypeName.{RTypeName}
use Rattle.evo_resolved.specs.declared.declaration.RRequirement.{RRequirement}
use Rattle.evo_resolved.specs.declared.declaration.RRequirement.TheVariants as requirement
use Rattle.evo_names.specs.Listed.{Text}
use Rattle.evo_solve.specs.declared.path.Path.{Path}

-- a type with no name behind it
abbrev pub alone : RType → Path
alone t = record { first = t; names = [] }

-- a parameter with names behind it
abbrev pub parameter : ℕ → List Text → Path
parameter i ns = record { first = ty.Param i; names = ns }

abbrev pub path_of : RType → Path
path_of (ty.Assoc i ns) = parameter i ns
path_of t = alone t

-- the associated name behind a path
abbrev pub taken : Path → Text → Path
taken p n = record { first = p.first; names = p.names ++ n ∷ [] }

-- the names behind a path
abbrev pub behind : Path → List Text → Path
behind p ns = record { first = p.first; names = p.names ++ ns }

-- The least equivalence that holds the written `==` and is kept by taking the same associated name of both sides. An associated name of a named type is a path of its own: it is not what the type says of that name.
pub data Equal (written : List RRequirement) : Path → Path → Type 0 where
  held : (i : ℕ) (left : RTypeName) (place : Place) (right : RTypeName) → slice_get written i ≡ Some (requirement.Same left place right) → Equal written (path_of left.ty) (path_of right.ty)
  same : {p : Path} → Equal written p p
  turned : {p q : Path} → Equal written p q → Equal written q p
  joined : {p q r : Path} → Equal written p q → Equal written q r → Equal written p r
  member : {p q : Path} (n : Text) → Equal written p q → Equal written (taken p n) (taken q n)
