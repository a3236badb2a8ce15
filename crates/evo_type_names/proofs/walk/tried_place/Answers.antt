use Rattle.std.specs.Option.{option_map}
use Rattle.evo_declarations.specs.Worlds.{world_of}
use Rattle.evo_members.specs.Views.{declared_of}
use Rattle.evo_type_names.specs.Aliases.{alias_key}
use Rattle.evo_type_names.proofs.Walks.{nothing_there, unwritten, written_there}
use Rattle.evo_type_names.proofs.walk.tried_place.Goals as goal

pub returns-in_ok-outcome-in-Some-written_type : goal.returns-in_ok-outcome-in-Some-written_type
returns-in_ok-outcome-in-Some-written_type c = written_there (world_of c.args.space.now.world) c.args.located (declared_of c.args.space.now.world c.in-Some.declared) c.in-Some-written_type.written.now (option_map alias_key c.alias_of_number-alias.result) c.in_ok-outcome-in-Some-written_type.outcome c.in-Some.ensures c.in-Some-written_type.ensures c.alias_of_number-alias.ensures c.in_ok-outcome-in-Some-written_type.ensures

pub returns-in-None-written_type : goal.returns-in-None-written_type
returns-in-None-written_type c = unwritten (world_of c.args.space.now.world) c.args.located (declared_of c.args.space.now.world c.in-Some.declared) c.no_value.result c.in-Some.ensures c.in-None-written_type.ensures c.no_value.ensures.0 c.no_value.ensures.1

pub returns-in-None : goal.returns-in-None
returns-in-None c = nothing_there (world_of c.args.space.now.world) c.args.located c.no_value-in-None.result c.in-None.ensures c.no_value-in-None.ensures.0 c.no_value-in-None.ensures.1
