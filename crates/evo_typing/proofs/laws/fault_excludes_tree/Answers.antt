use Rattle.evo_typing.specs.Searches.{env_at}
use Rattle.evo_typing.proofs.Answers.{known_at}
use Rattle.evo_typing.proofs.Wholes.{excludes}
use Rattle.evo_typing.proofs.laws.fault_excludes_tree.Goals as goal

pub returns : goal.returns
returns c = λ s facts w e f b n h. excludes (env_at s) (known_at s facts) w e f b n h
