use Rattle.std.proofs.Common.{◌≡◌, None, sym, subst}
use Rattle.evo_declarations.specs.Views.{entry_view}
use Rattle.evo_keys.specs.Bases.{world_with}
use Rattle.evo_names.specs.Listed.{World}
use Rattle.evo_names.specs.Resolved.{declared_in, standing_of}
use Rattle.evo_headers.proofs.Placing.{without_standing}
use Rattle.evo_headers.proofs.declared.declared_standing.Goals as goal

pub returns-in-Ok-None : goal.returns-in-Ok-None
returns-in-Ok-None c = without_standing (declared_in (world_with c.args.bases) (entry_view c.args.listed.now)) (subst (λ (w : World). standing_of w (entry_view c.args.listed.now).within ≡ None) c.world.ensures (sym (rw c.in-Ok-None.field-0-is at c.in-Ok-None.ensures)))
