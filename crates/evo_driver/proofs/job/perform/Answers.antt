use Rattle.std.proofs.Common.{refl, inl}
use Rattle.evo_driver.specs.Answer.{words_answer}
use Rattle.evo_driver.specs.Answer.Answers.{no_command}
use Rattle.evo_driver.proofs.Gives.{Receives-none}
use Rattle.evo_driver.proofs.job.perform.Goals as goal

pub returns-in_ok-not_understood-in-None-clause-gives : goal.returns-in_ok-not_understood-in-None-clause-gives
returns-in_ok-not_understood-in-None-clause-gives g c =
    let none = rw c.in-None.is at c.in_ok-job_of.ensures in
    (words_answer, inl (no_command none, refl), c.in_ok-not_understood-in-None.ensures, Receives-none (g.O.Sink.state c.args.out.now))

pub returns-in-Some-clause-gives : goal.returns-in-Some-clause-gives
returns-in-Some-clause-gives g c = c.evolve.ensures.gives c.args.words.now (rw c.in-Some.is at c.in_ok-job_of.ensures)
