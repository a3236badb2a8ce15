use Rattle.evo_first_form.proofs.FactLemmas.{client_fact}
use Rattle.evo_first_form.proofs.laws.client_facts.Goals as goal

pub returns : goal.returns
returns c = client_fact
