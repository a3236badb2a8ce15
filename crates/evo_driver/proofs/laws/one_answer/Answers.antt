use Rattle.evo_driver.proofs.OneAnswer as the
use Rattle.evo_driver.proofs.laws.one_answer.Goals as goal

pub returns : goal.returns
returns c = the.one_answer c.one_module.ensures c.no_fault.ensures c.one_fault.ensures c.one_job.ensures
