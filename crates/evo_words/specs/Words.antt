-- What a list of words asks for.
use Rattle.std.specs.Prelude.{◌≡◌, ℕ, ◌^◌, ◌<◌, List, [], ◌∷◌, codes, length}
use Rattle.std.specs.Fmt.{decimal}
use Rattle.evo_words.specs.declared.words.Job.{Job}
use Rattle.evo_lex.specs.ModuleName.{IsModule}

-- evolve MODULE OLD NEW CLIENT TICKS
pub record IsEvolve (words : List (List ℕ)) (job : Job) : Type 0 where
  pub words_are : words ≡ codes "evolve" ∷ job.library ∷ job.old ∷ job.new ∷ job.client ∷ decimal job.ticks ∷ []
  pub library : IsModule job.library
  pub old : 0 < length job.old
  pub new : 0 < length job.new
  pub client : 0 < length job.client
  pub ticks : job.ticks < 2 ^ 64
