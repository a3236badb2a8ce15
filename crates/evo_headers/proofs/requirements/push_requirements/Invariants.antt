use Rattle.std.proofs.Common.{take, flat_map}
use Rattle.evo_names.specs.Resolved.{IsRequirement, of_where}
use Rattle.evo_headers.specs.Added.{Adds}
use Rattle.evo_headers.specs.Sites.{site_scope}
use Rattle.evo_headers.proofs.requirements.push_requirements.Given as goal

abbrev pub invariant-loop-requirement : goal.invariant-loop-requirement
invariant-loop-requirement l = Adds (IsRequirement (site_scope l.site)) (flat_map of_where (take l.requirement-index l.requirements)) l.initial.found.items l.found.items
