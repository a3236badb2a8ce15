use Rattle.evo_first_form.proofs.FactLemmas.{library_fact}
use Rattle.evo_first_form.proofs.laws.library_facts.Goals as goal

pub returns : goal.returns
returns c = library_fact
