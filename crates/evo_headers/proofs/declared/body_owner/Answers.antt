use Rattle.std.proofs.Common.{◌≡◌, None, sym, subst}
use Rattle.evo_declarations.specs.Views.{entry_view}
use Rattle.evo_keys.specs.Bases.{world_with}
use Rattle.evo_names.specs.Bodies.{owner_key}
use Rattle.evo_names.specs.Listed.{World}
use Rattle.evo_names.specs.Resolved.{declared_in}
use Rattle.evo_headers.proofs.Placing.{without_owner}
use Rattle.evo_headers.proofs.declared.body_owner.Goals as goal

pub returns-in-Ok-None : goal.returns-in-Ok-None
returns-in-Ok-None c = without_owner (declared_in (world_with c.args.bases) (entry_view c.args.listed.now)) (subst (λ (w : World). owner_key (declared_in w (entry_view c.args.listed.now)) (entry_view c.args.listed.now).kind ≡ None) c.world.ensures (sym (rw c.in-Ok-None.field-0-is at c.in-Ok-None.ensures)))
