use Rattle.std.proofs.Common.{◌≡◌, ◌++◌, ap, ◌∙◌}
use Rattle.evo_declarations.specs.Worlds.{world_of}
use Rattle.evo_meeting.specs.Spots.{spot_views}
use Rattle.evo_names.specs.Keys.{declared_names}
use Rattle.evo_name_faults.proofs.OwnMeetings.{of_names}
use Rattle.evo_name_faults.proofs.met.own_meeting.Goals as goal

pub returns : goal.returns
returns c = of_names _ (declared_names (world_of c.args.world)) c.first_twice.result (ap spot_views c.as_slice.ensures.value ∙ c.in_ok-push_declared_names.ensures ∙ ap (λ s. spot_views s ++ declared_names (world_of c.args.world)) c.new-names.ensures.items) c.first_twice.ensures
