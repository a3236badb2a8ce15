use Rattle.evo_meaning.proofs.TickLaws.{output_grows}
use Rattle.evo_meaning.proofs.laws.output_grows.Goals as goal

pub returns : goal.returns
returns c = output_grows
