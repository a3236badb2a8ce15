use Rattle.std.proofs.Common.{ap, ◌∙◌}
use Rattle.std.proofs.lemmas.Iterator.Adapters.{position_from-zero}
use Rattle.evo_base.specs.Names.{position_of}
use Rattle.evo_base.proofs.Names.{position_of-map}
use Rattle.evo_base.proofs.name_table.NameTable.position.Goals as goal

pub returns-clause-place : goal.returns-clause-place
returns-clause-place c =
    c.get_index_of.ensures.index
    ∙ position_from-zero _ c.self.inside.names.keys
    ∙ position_of-map (λ v. v.items) c.args.name.now c.self.inside.names.keys
    ∙ ap (position_of c.args.name.now) c.self.view_is
