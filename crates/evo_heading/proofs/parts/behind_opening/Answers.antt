use Rattle.evo_heading.specs.declared.parts.TheConstants.{FORMAT, BEFORE_NAME}
use Rattle.evo_heading.proofs.Fronts.{stripped, strip, behind_line, opened}
use Rattle.evo_heading.proofs.parts.behind_opening.Goals as goal

pub returns-in_err-second : goal.returns-in_err-second
returns-in_err-second c = rw c.from_residual-in_err-second.ensures (λ rest is.
    let line = stripped FORMAT.now c.args.text.now c.in_ok-line_end.line_end.now c.in_ok-line_end.ensures.cases.0 c.in_ok-line_end.ensures.cases.1 in
    c.in_err-second.ensures _ (behind_line FORMAT.now BEFORE_NAME.now c.args.text.now c.in_ok-line_end.line_end.now rest line is))

pub returns : goal.returns
returns c =
    let line = stripped FORMAT.now c.args.text.now c.in_ok-line_end.line_end.now c.in_ok-line_end.ensures.cases.0 c.in_ok-line_end.ensures.cases.1 in
    opened FORMAT.now BEFORE_NAME.now c.args.text.now c.in_ok-line_end.line_end.now c.in_ok-second.second.now line c.in_ok-second.ensures c.strip_prefix-2.result
    (strip BEFORE_NAME.now c.in_ok-second.second.now c.strip_prefix-2.result c.strip_prefix-2.ensures.cases)
