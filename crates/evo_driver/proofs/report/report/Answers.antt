use Rattle.std.proofs.Common.{refl}
use Rattle.evo_first_form.specs.Rules.{removed_lines}
use Rattle.evo_driver.specs.Answer.{report_answer}
use Rattle.evo_driver.proofs.report.report.Goals as goal

pub returns : goal.returns
returns g c = (report_answer (removed_lines c.args.library.now c.args.names.now), refl, record { text = c.new.ensures.items; status_is = refl; bench = refl }, c.in_ok-write_lines.ensures)
