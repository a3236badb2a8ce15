use Rattle.std.proofs.Common.{subst, sym}
use Rattle.evo_declarations.specs.Views.{entry_view}
use Rattle.evo_declarations.specs.Worlds.{world_of}
use Rattle.evo_keys.specs.Bases.{world_with}
use Rattle.evo_names.specs.Listed.{World}
use Rattle.evo_names.specs.Resolved.{IsDeclared, declared_in}
use Rattle.evo_headers.specs.Unresolved.{IsUnresolved}
use Rattle.evo_headers.proofs.Lists.{exit}
use Rattle.evo_headers.proofs.Placing.{declared_is}
use Rattle.evo_headers.proofs.declared.resolve.Goals as goal

pub returns-in_err-placed : goal.returns-in_err-placed
returns-in_err-placed c = exit _ c.from_residual.result c.in_err-placed.field-0.0 c.from_residual.ensures.1 (subst (λ (w : World). IsUnresolved (declared_in w (entry_view c.args.listed.now))) c.requires.same) c.in_err-placed.ensures

pub returns : goal.returns
returns c = subst (IsDeclared (declared_in (world_of c.args.space.now.world) (entry_view c.args.listed.now))) (sym c.assembled.ensures) (declared_is (world_with c.args.bases) (world_of c.args.space.now.world) (entry_view c.args.listed.now) c.in_ok-placed.placed c.in_ok-kind.kind c.requires.same c.in_ok-placed.ensures c.in_ok-kind.ensures)
