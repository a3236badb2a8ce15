use Rattle.std.proofs.Common.{◌∙◌, ap}
use Rattle.std.specs.Option.{option_map}
use Rattle.evo_declarations.specs.Views.{within_of}
use Rattle.evo_declarations.specs.Worlds.{world_of}
use Rattle.evo_members.specs.Views.{declared_of}
use Rattle.evo_names.specs.Keys.{context_of}
use Rattle.evo_names.specs.Listed.{World}
use Rattle.evo_type_names.specs.Aliases.{alias_in}
use Rattle.evo_type_names.proofs.Alias.{alias_named, alias_unnamed}
use Rattle.evo_type_names.proofs.aliases.alias_of_number.Goals as goal

pub returns-in-Some-alias_name : goal.returns-in-Some-alias_name
returns-in-Some-alias_name c =
    c.alias_in.ensures
    ∙ ap (λ (h : World). option_map (alias_in h c.in-Some-alias_name.name.now.text) (context_of h (within_of c.in-Some.declared.listed.within))) c.at-in-Some-alias_name.ensures
    ∙ alias_named (world_of c.args.space.now.world) c.args.number (declared_of c.args.space.now.world c.in-Some.declared) c.in-Some-alias_name.name.now c.in-Some.ensures c.in-Some-alias_name.ensures

pub returns-in-None-alias_name : goal.returns-in-None-alias_name
returns-in-None-alias_name c = alias_unnamed (world_of c.args.space.now.world) c.args.number (declared_of c.args.space.now.world c.in-Some.declared) c.in-Some.ensures c.in-None-alias_name.ensures
