use Rattle.std.proofs.Common.{take, flat_map}
use Rattle.evo_names.specs.Resolved.{IsRequirement, of_generic}
use Rattle.evo_headers.specs.Added.{Adds}
use Rattle.evo_headers.specs.Sites.{site_scope}
use Rattle.evo_headers.proofs.requirements.push_generics.Given as goal

abbrev pub invariant-loop-generic : goal.invariant-loop-generic
invariant-loop-generic l = Adds (IsRequirement (site_scope l.site)) (flat_map of_generic (take l.generic-index l.generics)) l.initial.found.items l.found.items
