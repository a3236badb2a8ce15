use Rattle.evo_heading.proofs.Headings.{headed_once}
use Rattle.evo_heading.proofs.laws.one_heading.Goals as goal

pub returns : goal.returns
returns c = headed_once
