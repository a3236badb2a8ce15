-- Readers of a front of a list of tokens.
use Rattle.std.specs.Prelude.{◌≡◌, ℕ, zero, suc, List, [], ◌∷◌, ◌++◌, length, Option, Some, None, Result, Ok, Err}
use Rattle.evo_combinators.specs.declared.Fault.{Fault}
use Rattle.evo_combinators.specs.declared.Fault.TheVariants.{Grammar, Deep}
use Rattle.evo_combinators.specs.declared.ReadError.{ReadError}
use Rattle.evo_combinators.specs.declared.ReadError.TheVariants as errors

-- what was read and the tokens after it, or the first fault
abbrev pub Outcome : Type 0 → Type 0 → Type 0
Outcome T A = Result (A × List T) Fault

-- reads a front of some tokens
abbrev pub Reader : Type 0 → Type 0 → Type 0
Reader T A = List T → Outcome T A

-- the next reader, from where an outcome stopped
abbrev pub and_then : {T A B : Type 0} → Outcome T A → (A → Reader T B) → Outcome T B
and_then (Ok x) f = f x.0 x.1
and_then (Err e) f = Err e

-- one reader and then the next
infixl 10 ◌>>=◌
abbrev pub ◌>>=◌ : {T A B : Type 0} → Reader T A → (A → Reader T B) → Reader T B
p >>= f = λ ts. and_then (p ts) f

-- takes nothing
abbrev pub pure : {T A : Type 0} → A → Reader T A
pure a = λ ts. Ok (a, ts)

-- refuses the first token
abbrev pub refuse : {T A : Type 0} → Reader T A
refuse = λ ts. Err (Grammar (length ts))

-- what a test took, beside the tokens behind it
abbrev pub paired : {T A : Type 0} → Option A → List T → Option (A × List T)
paired (Some a) ts = Some (a, ts)
paired None ts = None

-- what `f` takes from the first token, and the tokens after it
unfoldable pub lead : {T A : Type 0} → (T → Option A) → List T → Option (A × List T)
lead f [] = None
lead f (t ∷ ts) = paired (f t) ts

-- by the first token: what follows one that `f` takes, and else another reader
abbrev pub branch : {T A B : Type 0} → Option (A × List T) → (A → Reader T B) → Outcome T B → Outcome T B
branch (Some x) q other = q x.0 x.1
branch None q other = other

-- a look at the first token, which `f` takes or not
abbrev pub alt : {T A B : Type 0} → (T → Option A) → (A → Reader T B) → Reader T B → Reader T B
alt f q r = λ ts. branch (lead f ts) q (r ts)

-- one token that `f` takes
abbrev pub one : {T A : Type 0} → (T → Option A) → Reader T A
one f = alt f pure refuse

-- a token that `f` takes is one nesting too many
abbrev pub barred : {T A B : Type 0} → Option (A × List T) → ℕ → Outcome T B → Outcome T B
barred (Some x) n other = Err (Deep n)
barred None n other = other

abbrev pub bar : {T A B : Type 0} → (T → Option A) → Reader T B → Reader T B
bar f r = λ ts. barred (lead f ts) (length ts) (r ts)

-- as many as there are, each led by a token that `f` takes
abbrev pub many_from : {T A B : Type 0} → (T → Option A) → (A → Reader T B) → ℕ → Reader T (List B)
many_from f q zero = pure []
many_from f q (suc n) = alt f (λ a. q a >>= (λ b. many_from f q n >>= (λ bs. pure (b ∷ bs)))) (pure [])

unfoldable pub many : {T A B : Type 0} → (T → Option A) → (A → Reader T B) → Reader T (List B)
many f q = λ ts. many_from f q (length ts) ts

-- an error of a function is the outcome's fault, unless memory ran out
abbrev pub Fails : {Y : Type 0} → ReadError → Result Y Fault → Type 0
Fails errors.Memory outcome = Unit {0}
Fails (errors.Fault f) outcome = outcome ≡ Err f

-- what a function returned, seen by `view`, is the outcome, unless memory ran out
abbrev pub Gives : {X Y : Type 0} → (X → Y) → Result X ReadError → Result Y Fault → Type 0
Gives view (Ok x) outcome = outcome ≡ Ok (view x)
Gives view (Err e) outcome = Fails e outcome

-- what a function returned and the tokens that it left are the outcome, unless memory ran out
abbrev pub Reads : {T A : Type 0} → Outcome T A → Result A ReadError → List T → Type 0
Reads outcome (Ok a) new = outcome ≡ Ok (a, new)
Reads outcome (Err e) new = Fails e outcome

-- what a test of the first token found, and which tokens it left
abbrev pub Eats : {T A : Type 0} → Option (A × List T) → Option A → List T → List T → Type 0
Eats led None old new = (led ≡ None) × (new ≡ old)
Eats led (Some a) old new = led ≡ Some (a, new)

-- items that were read before those of an outcome
abbrev pub with_front : {T B : Type 0} → List B → Outcome T (List B) → Outcome T (List B)
with_front found (Ok x) = Ok (found ++ x.0, x.1)
with_front found (Err e) = Err e
