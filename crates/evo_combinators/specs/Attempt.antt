-- Readers that try: nothing is read where the first token is refused.
use Rattle.std.specs.Prelude.{ℕ, zero, suc, ◌==◌, if◌then◌else◌, List, [], ◌∷◌, length, Option, Some, None, Ok, Err}
use Rattle.evo_combinators.specs.declared.Fault.TheVariants.{Grammar, Deep}
use Rattle.evo_combinators.specs.Reader.{Outcome, Reader, ◌>>=◌, pure}

-- nothing, if the outcome is that the first of these tokens is refused
abbrev pub attempted : {T A : Type 0} → Outcome T A → List T → Outcome T (Option A)
attempted (Ok x) ts = Ok (Some x.0, x.1)
attempted (Err (Grammar k)) ts = if k == length ts then Ok (None, ts) else Err (Grammar k)
attempted (Err (Deep k)) ts = Err (Deep k)

-- what a reader reads, or nothing where it refuses the first token
abbrev pub attempt : {T A : Type 0} → Reader T A → Reader T (Option A)
attempt p = λ ts. attempted (p ts) ts

-- more where there was one
abbrev pub further : {T B : Type 0} → (B → Reader T (List B)) → Option B → Reader T (List B)
further later None = pure []
further later (Some b) = later b

-- as many as there are, each by the state that those before it left
abbrev pub tries_from : {T B St : Type 0} → (St → Reader T B) → (St → B → St) → ℕ → St → Reader T (List B)
tries_from q next zero s = pure []
tries_from q next (suc n) s = attempt (q s) >>= further (λ b. tries_from q next n (next s b) >>= (λ bs. pure (b ∷ bs)))

unfoldable pub tries : {T B St : Type 0} → (St → Reader T B) → (St → B → St) → St → Reader T (List B)
tries q next s = λ ts. tries_from q next (length ts) s ts
