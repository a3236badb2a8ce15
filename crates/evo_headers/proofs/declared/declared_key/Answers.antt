use Rattle.std.proofs.Common.{sym}
use Rattle.evo_declarations.specs.Views.{entry_view}
use Rattle.evo_keys.specs.Bases.{world_with}
use Rattle.evo_names.specs.Resolved.{declared_in}
use Rattle.evo_headers.proofs.Placing.{without_key}
use Rattle.evo_headers.proofs.declared.declared_key.Goals as goal

pub returns-in-Ok-None : goal.returns-in-Ok-None
returns-in-Ok-None c = without_key (declared_in (world_with c.args.bases) (entry_view c.args.listed.now)) (sym (rw c.in-Ok-None.field-0-is at c.in-Ok-None.ensures))
