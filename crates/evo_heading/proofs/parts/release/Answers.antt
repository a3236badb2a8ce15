use Rattle.std.proofs.Common.{[], ◌∷◌}
use Rattle.evo_heading.proofs.Fronts.{stripped, not_stripped}
use Rattle.evo_heading.proofs.Numbers.{no_dot, no_minor}
use Rattle.evo_heading.proofs.parts.release.Goals as goal

pub returns-in_default-strip_prefix : goal.returns-in_default-strip_prefix
returns-in_default-strip_prefix c = no_dot c.args.text.now c.in-Some.major c.in-Some.rest.now (rw c.in-Some.is at c.in_ok-major.ensures) (λ more. not_stripped (46 ∷ []) c.in-Some.rest.now more c.in_default-strip_prefix.ensures.cases)

pub returns-in_default-2 : goal.returns-in_default-2
returns-in_default-2 c = no_minor c.args.text.now c.in-Some.major c.in-Some.rest.now (rw c.in-Some.is at c.in_ok-major.ensures) c.in-Some-strip_prefix.rest.now
    (stripped (46 ∷ []) c.in-Some.rest.now c.in-Some-strip_prefix.rest.now c.in-Some-strip_prefix.ensures.cases.0 c.in-Some-strip_prefix.ensures.cases.1) (rw c.in_default-2.is at c.in_ok-minor.ensures)
