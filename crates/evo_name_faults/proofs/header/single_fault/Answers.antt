use Rattle.std.proofs.Common.{sym}
use Rattle.evo_base.specs.declared.fault_kind.FaultKind.TheVariants as kind
use Rattle.evo_declarations.proofs.PastLimits.{past_limits}
use Rattle.evo_declarations.specs.Worlds.{world_of}
use Rattle.evo_name_faults.proofs.TakenNames.{taken_some}
use Rattle.evo_name_faults.proofs.UnknownNames.{unknown_some}
use Rattle.evo_name_faults.proofs.HeaderFaults.{left, told}
use Rattle.evo_name_faults.proofs.header.single_fault.Goals as goal

pub returns-in-Some : goal.returns-in-Some
returns-in-Some c = told (world_of c.args.world) c.fault.result kind.TooMany c.in-Some.place c.fault.ensures (past_limits.some (world_of c.args.world) c.in-Some.place (sym c.in-Some.ensures))

pub returns-in-Some-unknown_name : goal.returns-in-Some-unknown_name
returns-in-Some-unknown_name c = told (world_of c.args.world) c.fault-in-Some-unknown_name.result kind.Unknown c.in-Some-unknown_name.place c.fault-in-Some-unknown_name.ensures (unknown_some (world_of c.args.world) c.in-Some-unknown_name.place (sym c.in-Some-unknown_name.ensures))

pub returns-in-Some-taken_name : goal.returns-in-Some-taken_name
returns-in-Some-taken_name c = told (world_of c.args.world) c.fault-in-Some-taken_name.result kind.Twice c.in-Some-taken_name.place c.fault-in-Some-taken_name.ensures (taken_some (world_of c.args.world) c.in-Some-taken_name.place (sym c.in-Some-taken_name.ensures))

pub returns-in-None-taken_name : goal.returns-in-None-taken_name
returns-in-None-taken_name c = left (world_of c.args.world) (sym c.in-None.ensures) (sym c.in-None-unknown_name.ensures) (sym c.in-None-taken_name.ensures)
