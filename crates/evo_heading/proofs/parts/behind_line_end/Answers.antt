use Rattle.std.proofs.Common.{[], ◌∷◌}
use Rattle.evo_heading.proofs.Fronts.{stripped, not_stripped, strip, line_feed, line_end}
use Rattle.evo_heading.proofs.parts.behind_line_end.Goals as goal

pub returns-in-Some : goal.returns-in-Some
returns-in-Some c = line_feed c.args.text.now c.in-Some.rest.now (stripped (10 ∷ []) c.args.text.now c.in-Some.rest.now c.in-Some.ensures.cases.0 c.in-Some.ensures.cases.1)

pub returns : goal.returns
returns c = line_end c.args.text.now c.strip_prefix-2.result (λ rest. not_stripped (10 ∷ []) c.args.text.now rest c.in_default.ensures.cases) (strip (13 ∷ 10 ∷ []) c.args.text.now c.strip_prefix-2.result c.strip_prefix-2.ensures.cases)
