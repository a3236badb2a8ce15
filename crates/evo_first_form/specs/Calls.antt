-- The names that are called, from left to right.
use Rattle.std.specs.Prelude.{ℕ, List, [], ◌∷◌, ◌++◌, Option, Some, None}
use Rattle.evo_first_form.specs.declared.Print.{Print}
use Rattle.evo_first_form.specs.declared.Term.{Term}
use Rattle.evo_first_form.specs.declared.Term.TheVariants.{Integer, Call}

abbrev pub calls_of_term : Term → List (List ℕ)
calls_of_term (Integer n) = []
calls_of_term (Call name) = name ∷ []

abbrev pub calls_of_terms : List Term → List (List ℕ)
calls_of_terms [] = []
calls_of_terms (t ∷ ts) = calls_of_term t ++ calls_of_terms ts

abbrev pub calls_of : List Print → List (List ℕ)
calls_of [] = []
calls_of (p ∷ ps) = calls_of_terms p.terms ++ calls_of ps

-- the calls of a body that clients may copy
abbrev pub calls_of_body : Option Term → List (List ℕ)
calls_of_body None = []
calls_of_body (Some term) = calls_of_term term
