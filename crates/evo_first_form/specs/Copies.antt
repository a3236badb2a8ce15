-- The bodies that clients copied from an interface.
use Rattle.std.specs.Prelude.{ℕ, List, [], ◌∷◌, ◌++◌, Option, None, Bool, is_some, if◌then◌else◌}
use Rattle.std.specs.Str.{bytes_eq}
use Rattle.evo_first_form.specs.declared.Term.{Term}
use Rattle.evo_first_form.specs.declared.Declaration.{Declaration}
use Rattle.evo_first_form.specs.Calls.{calls_of_body}

-- the body of the function of this name, where clients may copy it
abbrev pub copied_body : List Declaration → List ℕ → Option Term
copied_body [] name = None
copied_body (d ∷ ds) name = if bytes_eq name d.name then d.body else copied_body ds name

-- whether clients copy the function of this name
abbrev pub is_copied : List Declaration → List ℕ → Bool
is_copied declarations name = is_some (copied_body declarations name)

-- what the copies of these functions call
abbrev pub calls_of_copies : List Declaration → List (List ℕ) → List (List ℕ)
calls_of_copies declarations [] = []
calls_of_copies declarations (name ∷ names) = calls_of_body (copied_body declarations name) ++ calls_of_copies declarations names
