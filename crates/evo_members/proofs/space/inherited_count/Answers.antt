use Rattle.std.proofs.Common.{◌∙◌, ap, length}
use Rattle.std.specs.List.{flat_map}
use Rattle.evo_names.specs.Heads.{inherit_list}
use Rattle.evo_names.specs.Listed.{Declaration}
use Rattle.evo_members.proofs.Everything.{inherited_are}
use Rattle.evo_members.proofs.space.inherited_count.Goals as goal

pub returns : goal.returns
returns c = ap length c.as_slice.ensures.value ∙ c.in_ok-found.ensures ∙ ap length (inherited_are c.args.world c.args.declarations.now ∙ ap (flat_map (λ (d : Declaration). inherit_list d.entry.kind)) c.requires)
