use Rattle.std.proofs.Common.{ap, ◌∙◌}
use Rattle.evo_declarations.specs.Views.{entry_view}
use Rattle.evo_declarations.specs.Worlds.{world_of}
use Rattle.evo_names.specs.Resolved.{declared_in}
use Rattle.evo_names.specs.Written.{Scope}
use Rattle.evo_headers.proofs.Placing.{scope_home}
use Rattle.evo_headers.proofs.declared.declared_kind.Goals as goal

pub kind_of-requires-clause-own : goal.kind_of-requires-clause-own
kind_of-requires-clause-own c = record { own = ap (λ (s : Scope). s.home) c.scope_of.ensures ∙ scope_home (declared_in (world_of c.args.space.now.world) (entry_view c.args.listed.now)); known = c.requires.known }
