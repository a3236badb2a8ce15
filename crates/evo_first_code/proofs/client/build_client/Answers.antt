use Rattle.evo_first_code.proofs.Links.{answer_works, answer_timed}
use Rattle.evo_first_code.proofs.client.build_client.Goals as goal

pub returns-clause-works : goal.returns-clause-works
returns-clause-works c =
    answer_works c.args.interface.now c.args.client.now c.as_slice-2.result.now c.as_slice-2.ensures c.requires.interface c.requires.client c.client_object.result c.client_object.ensures

pub returns-clause-timed : goal.returns-clause-timed
returns-clause-timed c = answer_timed c.args.interface.now c.as_slice-2.result.now c.client_object.result c.client_object.ensures
