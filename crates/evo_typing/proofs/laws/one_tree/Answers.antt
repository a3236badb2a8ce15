use Rattle.evo_typing.specs.Searches.{env_at}
use Rattle.evo_typing.proofs.Answers.{known_at}
use Rattle.evo_typing.proofs.Wholes.{one_tree}
use Rattle.evo_typing.proofs.laws.one_tree.Goals as goal

pub returns : goal.returns
returns c = λ s facts w e b d h k. one_tree (env_at s) (known_at s facts) w e b d h k
