use Rattle.evo_typing.specs.Searches.{env_at}
use Rattle.evo_typing.proofs.Answers.{known_at}
use Rattle.evo_typing.proofs.Exact.{walk_is_exact}
use Rattle.evo_typing.proofs.laws.walk_is_exact.Goals as goal

pub returns : goal.returns
returns c = λ s facts o answers w e. walk_is_exact (env_at s) (known_at s facts) o answers w e
