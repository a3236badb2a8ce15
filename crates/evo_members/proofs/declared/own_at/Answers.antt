use Rattle.std.proofs.Common.{◌∙◌, ap}
use Rattle.std.specs.Option.{option_map}
use Rattle.std.specs.List.{slice_get}
use Rattle.evo_declarations.specs.declared.world.Home.TheVariants as home
use Rattle.evo_members.specs.Views.{declared_of, in_home}
use Rattle.evo_members.proofs.Everything.{own_number}
use Rattle.evo_members.proofs.declared.own_at.Goals as goal

pub returns : goal.returns
returns c = ap (option_map (declared_of c.args.world)) (c.from_home.ensures ∙ ap (λ ls. option_map (in_home home.Own) (slice_get ls c.args.number)) c.as_slice.ensures.value) ∙ own_number c.args.world c.args.world.own.now.listing.entries.items c.args.number
