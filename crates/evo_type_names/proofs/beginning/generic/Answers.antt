use Rattle.std.proofs.Common.{Some, None}
use Rattle.evo_type_names.proofs.Generics.{generics_are}
use Rattle.evo_type_names.proofs.beginning.generic.Goals as goal

pub returns-in-Some : goal.returns-in-Some
returns-in-Some c = generics_are c.args.space.now.world c.args.scope c.args.name.now c.is_in_protocol.result (Some c.in-Some.number) c.is_in_protocol.ensures c.in-Some.ensures

pub returns-in-None : goal.returns-in-None
returns-in-None c = generics_are c.args.space.now.world c.args.scope c.args.name.now c.is_in_protocol.result None c.is_in_protocol.ensures c.in-None.ensures
