-- What the names of a library say of its bodies.
use Rattle.std.specs.Prelude.{◌≡◌, ℕ, List, Option, Some, None}
use Rattle.evo_base.specs.Names.{AreDistinct}
use Rattle.evo_first_form.specs.declared.Access.{Access}
use Rattle.evo_first_form.specs.declared.Access.TheVariants.{Internal, Public, Inlinable}
use Rattle.evo_first_form.specs.declared.Function.{Function}
use Rattle.evo_first_form.specs.Interface.{names_of}
use Rattle.evo_first_form.specs.Accepted.{AreFree}

-- the names of the functions where they are free and distinct, or that they are not
abbrev pub FreeNames : List ℕ → List Function → Option (List (List ℕ)) → Type 0
FreeNames library functions None = AreFree library (names_of functions) → AreDistinct (names_of functions) → ⊥
FreeNames library functions (Some names) = (names ≡ names_of functions) × AreFree library (names_of functions) × AreDistinct (names_of functions)

-- which of all names and the visible ones a body may call
abbrev pub callable_of : Access → List (List ℕ) → List (List ℕ) → List (List ℕ)
callable_of Internal all visible = all
callable_of Public all visible = all
callable_of Inlinable all visible = visible
