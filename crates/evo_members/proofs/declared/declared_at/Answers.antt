use Rattle.std.proofs.Common.{◌∙◌}
use Rattle.evo_members.proofs.Everything.{imported_are, own_alone}
use Rattle.evo_members.proofs.declared.declared_at.Goals as goal

pub at_either-requires : goal.at_either-requires
at_either-requires c = imported_are c.args.world c.in-Some.names c.in-Some.is c.as_slice.result.now c.as_slice.ensures.value

pub returns-in-None : goal.returns-in-None
returns-in-None c = c.own_at.ensures ∙ own_alone c.args.world c.in-None.is c.args.number
