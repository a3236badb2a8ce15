-- Resolved parts behind others.
use Rattle.std.specs.Prelude.{◌≡◌, List, ◌++◌}
use Rattle.evo_names.specs.Resolved.{Pairs}

-- behind the old ones stand those of these parts
pub record Adds {A B : Type 0} (R : A → B → Type 0) (xs : List A) (old new : List B) : Type 0 where
  pub more : List B
  pub behind : new ≡ old ++ more
  pub pairs : Pairs R xs more
