-- What the definitions of words say by themselves.
use Rattle.std.specs.Prelude.{◌≡◌, ℕ, List}
use Rattle.evo_words.specs.declared.words.Job.{Job}
use Rattle.evo_words.specs.Words.{IsEvolve}

-- words ask for at most one job
abbrev pub OneJob : Type 0
OneJob = (words : List (List ℕ)) (a b : Job) → IsEvolve words a → IsEvolve words b → a ≡ b
