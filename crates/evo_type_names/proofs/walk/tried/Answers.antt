use Rattle.std.proofs.Common.{subst}
use Rattle.std.specs.Option.{option_map}
use Rattle.evo_declarations.specs.Worlds.{world_of}
use Rattle.evo_names.specs.Listed.{list_of}
use Rattle.evo_names.specs.Seen.{Viewpoint}
use Rattle.evo_type_names.specs.Aliases.{alias_key}
use Rattle.evo_type_names.specs.Known.{IsOutcome}
use Rattle.evo_type_names.specs.Starts.{scope_of, start_view}
use Rattle.evo_type_names.proofs.Walks.{begun_is, tried_is}
use Rattle.evo_type_names.proofs.walk.tried.Goals as goal

pub returns-in_ok-outcome-in-Some : goal.returns-in_ok-outcome-in-Some
returns-in_ok-outcome-in-Some c =
    let w = world_of c.args.space.now.world in
    tried_is w (option_map alias_key c.args.alias) (scope_of c.args.space.now.world c.args.scope) c.args.names.now (start_view w c.in-Some.begun.start) c.in-Some.begun.rest.now c.in_ok-outcome-in-Some.outcome
    (begun_is w c.in_ok-begun.field-0 c.in-Some.begun _ c.in-Some.is c.in_ok-begun.ensures)
    (subst (λ (v : Viewpoint). IsOutcome w v (start_view w c.in-Some.begun.start) c.in-Some.begun.rest.now (list_of (option_map alias_key c.args.alias)) c.in_ok-outcome-in-Some.outcome) c.view-view.ensures c.in_ok-outcome-in-Some.ensures)
