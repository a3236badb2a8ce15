use Rattle.evo_heading.proofs.Headings.{no_opening, no_name, no_release, no_line_end, heading_of}
use Rattle.evo_heading.proofs.reading.heading.Goals as goal

pub returns-in_default : goal.returns-in_default
returns-in_default c = no_opening c.args.text.now c.in_default.ensures

pub returns-in_default-2 : goal.returns-in_default-2
returns-in_default-2 c = no_name c.args.text.now c.in-Some.rest.now c.in-Some.ensures (rw c.in_default-2.is at c.in_ok-name.ensures)

pub returns-in_default-3 : goal.returns-in_default-3
returns-in_default-3 c = no_release c.args.text.now c.in-Some.rest.now c.in-Some.ensures c.in-Some-2.name c.in-Some-2.rest.now (rw c.in-Some-2.is at c.in_ok-name.ensures) (rw c.in_default-3.is at c.in_ok-release.ensures)

pub returns-in_default-behind_line_end : goal.returns-in_default-behind_line_end
returns-in_default-behind_line_end c = no_line_end c.args.text.now c.in-Some.rest.now c.in-Some.ensures c.in-Some-2.name c.in-Some-2.rest.now (rw c.in-Some-2.is at c.in_ok-name.ensures) c.in-Some-3.release c.in-Some-3.rest.now (rw c.in-Some-3.is at c.in_ok-release.ensures) c.in_default-behind_line_end.ensures

pub returns : goal.returns
returns c = heading_of c.args.text.now c.in-Some-2.name c.in-Some-3.release c.in-Some.rest.now c.in-Some-2.rest.now c.in-Some-3.rest.now _ c.in-Some.ensures (rw c.in-Some-2.is at c.in_ok-name.ensures) (rw c.in-Some-3.is at c.in_ok-release.ensures) c.in-Some-behind_line_end.ensures
