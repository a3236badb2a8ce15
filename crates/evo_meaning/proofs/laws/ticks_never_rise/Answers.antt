use Rattle.evo_meaning.proofs.Fuel.{ticks_never_rise}
use Rattle.evo_meaning.proofs.laws.ticks_never_rise.Goals as goal

pub returns : goal.returns
returns c = ticks_never_rise
