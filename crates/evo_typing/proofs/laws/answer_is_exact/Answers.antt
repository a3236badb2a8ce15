use Rattle.evo_typing.specs.Searches.{env_at}
use Rattle.evo_typing.proofs.Answers.{known_at}
use Rattle.evo_typing.proofs.Wholes.{exactly}
use Rattle.evo_typing.proofs.laws.answer_is_exact.Goals as goal

pub returns : goal.returns
returns c = λ s facts w e r h. exactly (env_at s) (known_at s facts) w e r h
