use Rattle.std.proofs.Common.{◌∙◌, ◌++◌, ap}
use Rattle.evo_meeting.specs.DeclaredNames.{names_of}
use Rattle.evo_meeting.specs.Spots.{spot_views}
use Rattle.evo_meeting.proofs.DeclaredAll.{names_are}
use Rattle.evo_meeting.proofs.declared.push_declared_names.Goals as goal

pub returns : goal.returns
returns c = c.in_ok-push_all.ensures ∙ ap (λ names. spot_views c.args.spots.now.items ++ names) (ap (names_of c.args.world) c.as_slice.ensures.value ∙ names_are c.args.world)
