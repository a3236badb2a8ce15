-- Rules of a grammar: which tokens spell which value. A rule cuts its tokens anywhere.
-- A rule is a relation between a list of tokens and the value that they spell.
use Rattle.std.specs.Prelude.{◌≡◌, List, [], ◌∷◌, ◌++◌, Option, Some, None, ◌⊎◌}

-- no tokens, for this value
abbrev pub Empty : {T A : Type 0} → A → List T → A → Type 0
Empty a us b = (us ≡ []) × (b ≡ a)

-- no tokens spell anything
abbrev pub Fail : {T A : Type 0} → List T → A → Type 0
Fail us b = ⊥

-- a token that `f` takes, and then what S says
abbrev pub TokenThen : {T A B : Type 0} → (T → Option A) → (A → List T → B → Type 0) → List T → B → Type 0
TokenThen {T} {A} f S us b = (t : T) × (a : A) × (vs : List T) × (us ≡ t ∷ vs) × (f t ≡ Some a) × S a vs b

-- one token that `f` takes
abbrev pub One : {T A : Type 0} → (T → Option A) → List T → A → Type 0
One f = TokenThen f (λ a. Empty a)

-- either rule
abbrev pub Or : {T B : Type 0} → (List T → B → Type 0) → (List T → B → Type 0) → List T → B → Type 0
Or S R us b = S us b ⊎ R us b

-- one after the other
abbrev pub Then : {T A B : Type 0} → (List T → A → Type 0) → (A → List T → B → Type 0) → List T → B → Type 0
Then {T} {A} S R us b = (a : A) × (vs : List T) × (ws : List T) × (us ≡ vs ++ ws) × S vs a × R a ws b

-- any number, each led by a token that `f` takes
abbrev pub Many : {T A B : Type 0} → (T → Option A) → (A → List T → B → Type 0) → List T → List B → Type 0
Many f S us [] = us ≡ []
Many {T} {A} f S us (b ∷ bs) = (t : T) × (a : A) × (vs : List T) × (ws : List T) × (us ≡ t ∷ (vs ++ ws)) × (f t ≡ Some a) × S a vs b × Many f S ws bs

-- any number, one after the other
abbrev pub Repeat : {T B : Type 0} → (List T → B → Type 0) → List T → List B → Type 0
Repeat S us [] = us ≡ []
Repeat {T} S us (b ∷ bs) = (vs : List T) × (ws : List T) × (us ≡ vs ++ ws) × S vs b × Repeat S ws bs

-- some spelling begins with these tokens
abbrev pub IsViablePrefix : {T A : Type 0} → (List T → A → Type 0) → List T → Type 0
IsViablePrefix {T} {A} S us = (more : List T) × (a : A) × S (us ++ more) a

-- some tokens spell something
abbrev pub SomeOf : {T A : Type 0} → (List T → A → Type 0) → Type 0
SomeOf {T} {A} S = (us : List T) × (a : A) × S us a

-- the one thing of which P holds, or nothing where P holds of none
abbrev pub IsOnly : {A : Type 0} → (A → Type 0) → Option A → Type 0
IsOnly {A} P None = (a : A) → P a → ⊥
IsOnly {A} P (Some a) = P a × ((b : A) → P b → b ≡ a)
