use Rattle.evo_first_meaning.proofs.Programs.{first_form_is_a_case}
use Rattle.evo_first_meaning.proofs.laws.first_form_is_a_case.Goals as goal

pub returns : goal.returns
returns c = first_form_is_a_case
