use Rattle.std.proofs.Common.{ap, sym, ◌∙◌}
use Rattle.evo_declarations.specs.Views.{entry_view, key_of_type, types_of}
use Rattle.evo_names.specs.Heads.{superclass}
use Rattle.evo_keys.specs.Bases.{world_with}
use Rattle.evo_keys.specs.Roots.{round}
use Rattle.evo_keys.proofs.Rooting.{above_is, none_above}
use Rattle.evo_keys.proofs.roots.root_above.Goals as goal

pub returns-in_default : goal.returns-in_default
returns-in_default c = none_above (world_with c.args.bases) (entry_view c.args.listed.now) c.args.base.now (key_of_type c.args.owner) (sym (c.superclass.ensures ∙ ap (λ w. superclass w (key_of_type c.args.owner)) c.world-world.ensures) ∙ ap types_of c.in_default.is)

pub returns : goal.returns
returns c = c.nearest_root.ensures ∙ above_is c.sought_by-sought.result (world_with c.args.bases) (entry_view c.args.listed.now) c.args.base.now (key_of_type c.args.owner) (key_of_type c.in-Some.above) _ (sym (c.superclass.ensures ∙ ap (λ w. superclass w (key_of_type c.args.owner)) c.world-world.ensures) ∙ ap types_of c.in-Some.is) (c.sought_by-sought.ensures.view ∙ ap (λ w. round w (key_of_type c.args.owner)) c.world-world.ensures) c.longest_way.ensures c.sought_by-sought.ensures.base c.sought_by-sought.ensures.function
