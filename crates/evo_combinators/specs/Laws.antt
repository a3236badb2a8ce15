-- What holds between a rule and its reader.
use Rattle.std.specs.Prelude.{◌≡◌, ℕ, suc, ◌-◌, ◌≤◌, Bool, true, false, List, [], ◌∷◌, ◌++◌, length, Option, Some, None, Ok, Err, ◌⊎◌}
use Rattle.evo_combinators.specs.declared.Fault.TheVariants.{Grammar, Deep}
use Rattle.evo_combinators.specs.Reader.{Outcome, Reader}
use Rattle.evo_combinators.specs.Rule.{IsViablePrefix}

abbrev pub first : {T : Type 0} → List T → Option T
first [] = None
first (t ∷ ts) = Some t

-- the same tokens as far as a reader that stops there can see, or the end
abbrev pub SameLookahead : {T : Type 0} → List T → List T → Type 0
SameLookahead rest more = (more ≡ []) ⊎ (first more ≡ first rest)

-- The reader reads S, on lists up to a length. W is the same rule with more nesting, and Stop says what may follow.
-- That tokens go on is said of W: a rule without nesting may have no spelling at all.
-- `wider`: what is spelled with this nesting is spelled with more.
-- `sound`: what is read is spelled by the tokens that were taken, and reads the same whatever follows that looks alike.
-- `complete`: what is spelled, followed by what may follow, is read.
-- `refuses`: a refusal comes at the first token with which no spelling goes on.
-- `deepens`: "too deep" comes at a token with which a spelling of one more nesting goes on.
pub record ReadsRule {T A : Type 0} (n : ℕ) (Stop : Option T → Type 0) (S W : List T → A → Type 0) (p : List T → Outcome T A) : Type 0 where
  pub wider : (us : List T) (a : A) → S us a → W us a
  pub ended : Stop None
  pub sound : (ts rest : List T) (a : A) → length ts ≤ n → p ts ≡ Ok (a, rest) →
      (us : List T) × (ts ≡ us ++ rest) × S us a × ((more : List T) → length (us ++ more) ≤ n → SameLookahead rest more → p (us ++ more) ≡ Ok (a, more))
  pub complete : (us rest : List T) (a : A) → length (us ++ rest) ≤ n → S us a → Stop (first rest) → p (us ++ rest) ≡ Ok (a, rest)
  pub refuses : (ts : List T) (k : ℕ) → length ts ≤ n → p ts ≡ Err (Grammar k) →
      (us : List T) × (rest : List T) × (ts ≡ us ++ rest) × ((us ≡ []) ⊎ IsViablePrefix W us)
      × ((more : List T) → length (us ++ more) ≤ n → SameLookahead rest more → p (us ++ more) ≡ Err (Grammar (length more)))
  pub deepens : (ts : List T) (k : ℕ) → length ts ≤ n → p ts ≡ Err (Deep k) →
      (us : List T) × (t : T) × (rest : List T) × (ts ≡ us ++ t ∷ rest) × ((us ≡ []) ⊎ IsViablePrefix W us) × IsViablePrefix W (us ++ t ∷ [])
      × ((more : List T) → length (us ++ t ∷ more) ≤ n → p (us ++ t ∷ more) ≡ Err (Deep (suc (length more))))

-- no first token that `f` takes
abbrev pub Skips : {T A : Type 0} → (T → Option A) → List T → Type 0
Skips {T} {A} f ts = (t : T) (a : A) → first ts ≡ Some t → f t ≡ Some a → ⊥

-- what every spelling begins with
abbrev pub Begins : {T A : Type 0} → (T → Type 0) → (List T → A → Type 0) → Type 0
Begins {T} {A} P S = (us : List T) (a : A) → S us a → (t : T) × (vs : List T) × (us ≡ t ∷ vs) × P t

-- a test of the first token, which is false where there is none
abbrev pub of_first : {T : Type 0} → (T → Bool) → Option T → Bool
of_first g None = false
of_first g (Some t) = g t

-- nothing is refused at such a token
abbrev pub Enters : {T A : Type 0} → ℕ → (T → Bool) → Reader T A → Type 0
Enters {T} n g p = (t : T) (us : List T) → length us ≤ n - 1 → g t ≡ true → p (t ∷ us) ≡ Err (Grammar (suc (length us))) → ⊥

-- the reader does not refuse this token, whatever follows
abbrev pub Takes : {T A : Type 0} → Reader T A → T → Type 0
Takes {T} p t = (us : List T) → p (t ∷ us) ≡ Err (Grammar (suc (length us))) → ⊥

-- the same outcome, or the first is one nesting too many
abbrev pub Same : {T A : Type 0} → Outcome T A → Outcome T A → Type 0
Same o o' = (o' ≡ o) ⊎ ((k : ℕ) × (o ≡ Err (Deep k)))

-- the second reader reads the same as the first, but where the first meets one nesting too many
abbrev pub GrowsWithNesting : {T A : Type 0} → Reader T A → Reader T A → Type 0
GrowsWithNesting {T} p p' = (ts : List T) → Same (p ts) (p' ts)

-- a rule and its reader, by how much nesting they allow
pub record GrammarOf {T A : Type 0} (Stop : Option T → Type 0) (S : ℕ → List T → A → Type 0) (p : ℕ → Reader T A) : Type 0 where
  pub right : (d n : ℕ) → ReadsRule n Stop (S d) (S (suc d)) (p d)
  pub deeper : (d : ℕ) → GrowsWithNesting (p d) (p (suc d))

-- no spelling of any nesting begins so
abbrev pub NoneGoes : {T A : Type 0} → (ℕ → List T → A → Type 0) → List T → Type 0
NoneGoes S us = (m : ℕ) → IsViablePrefix (S m) us → ⊥

-- the tokens before `rest` are the last that spellings go on with
abbrev pub Ends : {T A : Type 0} → (ℕ → List T → A → Type 0) → List T → List T → Type 0
Ends {T} S us rest = (g : T) → first rest ≡ Some g → NoneGoes S (us ++ g ∷ [])
