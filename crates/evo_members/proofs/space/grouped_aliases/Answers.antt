use Rattle.std.proofs.Common.{◌∙◌, ap, map, subst, List}
use Rattle.evo_declarations.specs.Groups.{IsGrouped}
use Rattle.evo_members.specs.Texts.{alias_of}
use Rattle.evo_names.specs.Listed.{Text}
use Rattle.evo_members.proofs.Everything.{aliases_are}
use Rattle.evo_members.proofs.space.grouped_aliases.Goals as goal

pub returns : goal.returns
returns c = subst (λ (ts : List Text). IsGrouped ts c.in_ok-groups.groups) (ap (map (λ t. t.now)) c.as_slice.ensures.value ∙ c.in_ok-texts.ensures ∙ aliases_are c.args.world c.args.declarations.now ∙ ap (map alias_of) c.requires) c.in_ok-groups.ensures
