use Rattle.evo_base.specs.declared.fault_kind.FaultKind.TheVariants as kind
use Rattle.evo_declarations.specs.Worlds.{world_of}
use Rattle.evo_names.specs.Keys.{declared_names}
use Rattle.evo_name_faults.proofs.HeaderFaults.{answered}
use Rattle.evo_name_faults.proofs.OwnMeetings.{second_is, met_is, others_left, second_told, none_told, met_told, unmet_told}
use Rattle.evo_name_faults.proofs.header.header_fault.Goals as goal

pub returns-in-Some-2 : goal.returns-in-Some-2
returns-in-Some-2 c = answered (world_of c.args.world) c.fault.result kind.Twice c.in-Some-2.place c.fault.ensures (second_is (world_of c.args.world) c.in-Some-2.place (second_told (world_of c.args.world) c.in_ok-place-in-None.field-0 c.in-Some-2.place c.in-Some-2.is c.in_ok-place-in-None.ensures))

pub returns-in-Some-3 : goal.returns-in-Some-3
returns-in-Some-3 c = answered (world_of c.args.world) c.fault-in-Some-3.result kind.Twice c.in-Some-3.place c.fault-in-Some-3.ensures (met_is (world_of c.args.world) c.in-Some-3.place (met_told (declared_names (world_of c.args.world)) c.in_ok-place-in-None-2.field-0 c.in-Some-3.place c.in-Some-3.is c.in_ok-place-in-None-2.ensures))

pub returns-in-None-3 : goal.returns-in-None-3
returns-in-None-3 c = others_left (world_of c.args.world) c.in-None.ensures (none_told (world_of c.args.world) c.in_ok-place-in-None.field-0 c.in-None-2.is c.in_ok-place-in-None.ensures) (unmet_told (declared_names (world_of c.args.world)) c.in_ok-place-in-None-2.field-0 c.in-None-3.is c.in_ok-place-in-None-2.ensures)
