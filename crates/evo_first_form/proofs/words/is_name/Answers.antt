use Rattle.evo_first_form.proofs.WordLemmas.{name_iff}
use Rattle.evo_first_form.proofs.words.is_name.Goals as goal

pub returns-clause-says : goal.returns-clause-says
returns-clause-says c = name_iff c.args.word.now c.names_something.result c.names_something.ensures
