-- What the definitions of names say of each other.
use Rattle.std.specs.Prelude.{◌≡◌, ℕ, ◌<◌, ◌≤◌, false, List, Some, slice_get}
use Rattle.evo_base.specs.declared.key.Key.{Key}
use Rattle.evo_resolved.specs.declared.resolved_type.RType.{RType}
use Rattle.evo_resolved.specs.declared.declaration.RDecl.{RDecl}
use Rattle.evo_names.specs.declared.declared_name.DeclaredName.{DeclaredName}
use Rattle.evo_names.specs.Listed.{Text, World, Declaration}
use Rattle.evo_names.specs.Meets.{NoneTwice, IsFormed, meets, key_by_name}
use Rattle.evo_names.specs.Keys.{declared_name}
use Rattle.evo_names.specs.Written.{Scope, Means}
use Rattle.evo_names.specs.Resolved.{IsDeclared}

-- where none from a number on meets an earlier one, its key is that of no earlier one
abbrev pub OneKey : Type 0
OneKey = (names : List DeclaredName) (start i j : ℕ) (a b : DeclaredName) → NoneTwice names start → start ≤ j → i < j → slice_get names i ≡ Some a → slice_get names j ≡ Some b → IsFormed a → IsFormed b → key_by_name a ≡ key_by_name b → ⊥

-- declarations that do not meet have different keys
abbrev pub DifferentKeys : Type 0
DifferentKeys = (d e : Declaration) (s t : DeclaredName) → declared_name d ≡ Some s → declared_name e ≡ Some t → meets s t ≡ false → key_by_name s ≡ key_by_name t → ⊥

-- a written type means at most one type
abbrev pub OneMeaning : Type 0
OneMeaning = (w : World) (s : Scope) (names : List Text) (met others : List Key) (t u : RType) → Means w s names met t → Means w s names others u → (met ≡ others) × (t ≡ u)

-- a declaration of the text has at most one form once its names are resolved
abbrev pub OneDeclared : Type 0
OneDeclared = (d : Declaration) (r q : RDecl) → IsDeclared d r → IsDeclared d q → r ≡ q
