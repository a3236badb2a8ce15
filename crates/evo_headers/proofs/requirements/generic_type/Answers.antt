use Rattle.std.proofs.Common.{List, ◌∙◌, subst}
use Rattle.evo_names.specs.Listed.{Text}
use Rattle.evo_headers.specs.Unresolved.{MeansNothing}
use Rattle.evo_headers.specs.Sites.{site_scope}
use Rattle.evo_headers.proofs.Generics.{generic_means}
use Rattle.evo_headers.proofs.requirements.generic_type.Goals as goal

pub unreachable-requires : goal.unreachable-requires
unreachable-requires c = generic_means (site_scope c.args.site).home (site_scope c.args.site) c.args.generic.now.name.text c.requires.among (subst (λ (ns : List Text). MeansNothing (site_scope c.args.site).home (site_scope c.args.site) ns) (c.as_slice.ensures.value ∙ c.in_ok-names.ensures) (rw c.in-Ok-None.field-0-is at c.in-Ok-None.ensures))
