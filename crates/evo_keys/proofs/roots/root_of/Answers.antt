use Rattle.std.proofs.Common.{ap, sym, ◌∙◌}
use Rattle.evo_declarations.specs.Heads.{found_head, head_of_code}
use Rattle.evo_declarations.specs.Views.{entry_view, within_of}
use Rattle.evo_meeting.specs.WrittenNames.{name_view, pair_of}
use Rattle.evo_names.specs.Heads.{owner_of}
use Rattle.evo_names.specs.Resolved.{declared_in}
use Rattle.evo_keys.specs.Bases.{world_with}
use Rattle.evo_keys.proofs.Rooting.{without_a_name, without_owner, with_owner}
use Rattle.evo_keys.proofs.roots.root_of.Goals as goal

pub returns-in_default : goal.returns-in_default
returns-in_default c = without_a_name (declared_in (world_with c.args.bases) (entry_view c.args.listed.now)) (sym c.name_of.ensures ∙ ap name_view c.in_default.is)

pub returns-in_default-owner_of : goal.returns-in_default-owner_of
returns-in_default-owner_of c = without_owner (declared_in (world_with c.args.bases) (entry_view c.args.listed.now)) (pair_of c.in-Some.name) (sym c.name_of.ensures ∙ ap name_view c.in-Some.is) (sym (c.owner_of.ensures ∙ ap (λ w. owner_of w (within_of c.args.listed.now.within)) c.world.ensures) ∙ ap found_head c.in_default-owner_of.is)

pub returns : goal.returns
returns c = c.root_above.ensures ∙ with_owner (declared_in (world_with c.args.bases) (entry_view c.args.listed.now)) (pair_of c.in-Some.name) (head_of_code c.in-Some-owner_of.owner) (sym c.name_of.ensures ∙ ap name_view c.in-Some.is) (sym (c.owner_of.ensures ∙ ap (λ w. owner_of w (within_of c.args.listed.now.within)) c.world.ensures) ∙ ap found_head c.in-Some-owner_of.is)
