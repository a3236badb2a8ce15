-- What the definition of the answer says by itself.
use Rattle.std.specs.Prelude.{◌≡◌, ℕ, List, Option, IsSome}
use Rattle.evo_driver.specs.Answer.{Answer, Answers}

-- words ask for at most one answer of files that tell what each name holds
abbrev pub OneAnswer : Type 0
OneAnswer = (words : List (List ℕ)) (held : List ℕ → Option (List ℕ)) (a b : Answer)
    → ((name : List ℕ) → IsSome (held name)) → Answers words held a → Answers words held b → a ≡ b
