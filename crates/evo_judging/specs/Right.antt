-- When a judgement is right: its walk finds what holds, and nothing else, and where something is at fault nothing holds.
use Rattle.std.specs.Prelude.{◌≡◌, Result, Ok, Err}
use Rattle.evo_judging.specs.Judge.{Judge, Fails}

-- an answer is what holds, or a fault
abbrev pub Answered : {F A : Type 0} → (A → Type 0) → (F → Type 0) → Result A F → Type 0
Answered holds fails (Ok a) = holds a
Answered holds fails (Err f) = fails f

-- what an answer to a judgement is to be, be it by its walk or by code
abbrev pub Judged : {I O F A : Type 0} → (I → F → Type 0) → Judge I O F A → Result A F → Type 0
Judged N J r = Answered J.holds (Fails N J) r

-- N has the faults of the parts; E says that what is asked is answered truly
pub record Right {I O F A : Type 0} (N : I → F → Type 0) (E : O → Type 0) (J : Judge I O F A) : Type 0 where
  pub sound : (o : O) → E o → Judged N J (J.walk o)
  pub one : (a b : A) → J.holds a → J.holds b → a ≡ b
  pub excludes : (f : F) (a : A) → Fails N J f → J.holds a → ⊥

-- the only answer, where it is one
abbrev pub Exactly : {F A : Type 0} → (A → Type 0) → (F → Type 0) → Result A F → Type 0
Exactly {F} {A} holds fails (Ok a) = holds a × ((b : A) → holds b → a ≡ b) × ((f : F) → fails f → ⊥)
Exactly {F} {A} holds fails (Err f) = fails f × ((a : A) → holds a → ⊥)
