use Rattle.std.proofs.Common.{take, map}
use Rattle.evo_names.specs.Resolved.{IsRequirement, conforms}
use Rattle.evo_headers.specs.Added.{Adds}
use Rattle.evo_headers.specs.Sites.{site_scope}
use Rattle.evo_headers.specs.Subjects.{subject_view}
use Rattle.evo_headers.proofs.requirements.push_conformances.Given as goal

abbrev pub invariant-loop-protocol : goal.invariant-loop-protocol
invariant-loop-protocol l = Adds (IsRequirement (site_scope l.site)) (map (conforms (subject_view l.subject)) (take l.protocol-index l.protocols)) l.initial.found.items l.found.items
