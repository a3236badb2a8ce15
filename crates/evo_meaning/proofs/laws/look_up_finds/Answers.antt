use Rattle.evo_meaning.proofs.LookUps.{look_up_finds}
use Rattle.evo_meaning.proofs.laws.look_up_finds.Goals as goal

pub returns : goal.returns
returns c = look_up_finds
