use Rattle.evo_declarations.proofs.PastLimits.{past_limits}
use Rattle.evo_declarations.proofs.laws.past_limit.Goals as goal

pub returns : goal.returns
returns c = past_limits
