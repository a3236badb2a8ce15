-- What the meaning of the first form and that of resolved trees have to do with each other.
use Rattle.std.specs.Prelude.{◌≡◌, ℕ, List}
use Rattle.evo_names.specs.Listed.{Text}
use Rattle.evo_first_form.specs.declared.Print.{Print}
use Rattle.evo_first_code.specs.Meaning.{Program, Ending, done, spent, stuck, Ran, run_of}
use Rattle.evo_meaning.specs.Runs as run
use Rattle.evo_meaning.specs.Bodies as body
use Rattle.evo_meaning.specs.Bodies.{End, Result}
use Rattle.evo_first_meaning.specs.Resolved.{mixed_program}

abbrev pub end_of : Ending → End
end_of done = body.done
end_of spent = body.ended_by run.out_of_ticks
end_of stuck = body.ended_by run.stuck

-- the same bytes and the same end
pub record SameRun (ran : Ran) (result : Result) : Type 0 where
  pub printed : result.printed ≡ ran.out
  pub «end» : result.«end» ≡ end_of ran.ending

-- whatever the module's name is
abbrev pub FirstFormIsACase : Type 0
FirstFormIsACase = (library : Text) (p : Program) (prints : List Print) (n : ℕ) → SameRun (run_of p prints n) (body.run (mixed_program library p prints) n)
