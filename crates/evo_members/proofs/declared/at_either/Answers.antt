use Rattle.std.proofs.Common.{◌∙◌, ap}
use Rattle.std.specs.Option.{option_map}
use Rattle.evo_members.specs.Views.{declared_of}
use Rattle.evo_members.proofs.Everything.{imported_number, behind_imported}
use Rattle.evo_members.proofs.declared.at_either.Goals as goal

pub returns-then-number-entries : goal.returns-then-number-entries
returns-then-number-entries c = ap (option_map (declared_of c.args.world)) c.from_home.ensures ∙ imported_number c.args.world c.args.entries.now c.args.number c.requires c.if-number-entries.true

pub returns-else-number-entries : goal.returns-else-number-entries
returns-else-number-entries c = c.own_at.ensures ∙ behind_imported c.args.world c.args.entries.now c.args.number c.requires c.if-number-entries.false
