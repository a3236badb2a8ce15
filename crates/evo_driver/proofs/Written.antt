-- No answer of a job has the status of a failed write.
use Rattle.std.proofs.Common.{◌≡◌, ℕ, List, Option, sym, ◌∙◌, ap, inl, inr}
use Rattle.evo_base.specs.States.{FilesState}
use Rattle.evo_first_code.specs.Meaning.{Ending, done, spent, stuck}
use Rattle.evo_driver.specs.declared.status.Status.TheVariants as status
use Rattle.evo_driver.specs.declared.stop.Refusal.TheVariants as refusal
use Rattle.evo_driver.specs.Answer.{Answer, Answers, EndsWith}
use Rattle.evo_driver.specs.Answer.Answers.{no_command, refused, broken, ran}
use Rattle.evo_driver.specs.Top.{Means}

run_written : (out : List ℕ) (e : Ending) (a : Answer) → EndsWith out e a → a.status ≡ status.NotWritten → ⊥
run_written out done a h w = absurd (let k = sym w ∙ ap (λ (b : Answer). b.status) h in cc)
run_written out spent a h w = absurd (let k = sym w ∙ ap (λ (b : Answer). b.status) h in cc)
run_written out stuck a h w = h

answers_written : (words : List (List ℕ)) (held : List ℕ → Option (List ℕ)) (a : Answer) → Answers words held a → a.status ≡ status.NotWritten → ⊥
answers_written words held a (no_command none) w = absurd cc
answers_written words held a (refused job at refusal.TooLong is why) w = absurd cc
answers_written words held a (refused job at (refusal.Source fault) is why) w = absurd cc
answers_written words held a (refused job at refusal.InterfaceTooLong is why) w = absurd cc
answers_written words held a (broken job old new is breaks) w = absurd cc
answers_written words held a (ran job old new client b is accepts ends) w = run_written _ _ b ends w

pub means_written : (words : List (List ℕ)) (old new : FilesState) (a : Answer) → Means words old new a → a.status ≡ status.NotWritten → ⊥
means_written words old new a (inl h) w = answers_written words old.held a h.0 w
means_written words old new a (inr h) w = absurd (let k = sym w ∙ ap (λ (b : Answer). b.status) h.0.is in cc)
