use Rattle.std.proofs.Common.{take}
use Rattle.evo_names.specs.Resolved.{IsParameter, Pairs}
use Rattle.evo_headers.specs.Sites.{site_scope}
use Rattle.evo_headers.proofs.headers.parameters_of.Given as goal

abbrev pub invariant-loop-parameter : goal.invariant-loop-parameter
invariant-loop-parameter l = Pairs (IsParameter (site_scope l.site)) (take l.parameter-index l.parameters) l.found.items
