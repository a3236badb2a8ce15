-- Rules and readers that look ahead: by the first token or the first two, and a repetition with a state.
use Rattle.std.specs.Prelude.{◌≡◌, ℕ, zero, suc, Bool, true, false, cond, List, [], ◌∷◌, ◌++◌, length}
use Rattle.evo_combinators.specs.Reader.{Reader, ◌>>=◌, pure, refuse}

-- the first reader where `c` is true of the tokens, and else the second
abbrev pub choose : {T B : Type 0} → (List T → Bool) → Reader T B → Reader T B → Reader T B
choose c p r = λ ts. cond (c ts) (p ts) (r ts)

-- there is a first token, and it is one of these
unfoldable pub starts : {T : Type 0} → (T → Bool) → List T → Bool
starts g [] = false
starts g (t ∷ ts) = g t

-- by the first token, which the reader itself takes
abbrev pub on : {T B : Type 0} → (T → Bool) → Reader T B → Reader T B → Reader T B
on g p r = choose (starts g) p r

-- refuses the first token unless it is one of these, and takes nothing
unfoldable pub ahead : {T : Type 0} → (T → Bool) → Reader T (Unit {0})
ahead g = on g (pure tt) refuse

-- the test of the second token, where the first one was right
abbrev pub second : {T : Type 0} → Bool → (T → Bool) → List T → Bool
second true g ts = starts g ts
second false g ts = false

-- there are two tokens, the first one of these and the second one of those
unfoldable pub starts_two : {T : Type 0} → (T → Bool) → (T → Bool) → List T → Bool
starts_two f g [] = false
starts_two f g (t ∷ ts) = second (f t) g ts

-- by the first two tokens, which the readers themselves take
abbrev pub two : {T B : Type 0} → (T → Bool) → (T → Bool) → Reader T B → Reader T B → Reader T B
two f g p r = choose (starts_two f g) p r

-- any number, each by the state that those before it left
abbrev pub Run : {T B St : Type 0} → (St → List T → B → Type 0) → (St → B → St) → St → List T → List B → Type 0
Run S next s us [] = us ≡ []
Run {T} S next s us (b ∷ bs) = (vs : List T) × (ws : List T) × (us ≡ vs ++ ws) × S s vs b × Run S next (next s b) ws bs

-- as many as there are, each begun by one of the tokens that the state allows
abbrev pub run_from : {T B St : Type 0} → (St → T → Bool) → (St → Reader T B) → (St → B → St) → ℕ → St → Reader T (List B)
run_from g q next zero s = pure []
run_from g q next (suc n) s = on (g s) (q s >>= (λ b. run_from g q next n (next s b) >>= (λ bs. pure (b ∷ bs)))) (pure [])

unfoldable pub run : {T B St : Type 0} → (St → T → Bool) → (St → Reader T B) → (St → B → St) → St → Reader T (List B)
run g q next s = λ ts. run_from g q next (length ts) s ts

-- a rule that begins with one of these tokens
abbrev pub On : {T B : Type 0} → (T → Bool) → (List T → B → Type 0) → List T → B → Type 0
On {T} g S us b = (t : T) × (vs : List T) × (us ≡ t ∷ vs) × (g t ≡ true) × S us b
