-- Both meanings print the same lines.
use Rattle.std.proofs.Common.{◌≡◌, ℕ, List, [], ◌∷◌, map, Some, refl, pos, append_assoc}
use Rattle.evo_first_code.specs.Meaning.{line_of}
use Rattle.evo_meaning.specs.Values.{Value, int}
use Rattle.evo_meaning.specs.Operators.{line}

abbrev pub number : ℕ → Value
number n = int (pos n)

pub line_same : (ns : List ℕ) → line (map number ns) ≡ Some (line_of ns)
line_same [] = refl
line_same (n ∷ []) = refl
line_same (n ∷ k ∷ ns) = rw (line_same (k ∷ ns)) (simp append_assoc)
