-- A loop that counts up, beside `tries`.
use Rattle.std.specs.Prelude.{◌≡◌, ℕ, suc, ◌+◌, ◌-◌, ◌<◌, List, [], ◌∷◌, ◌++◌, length, Some, Ok}
use Rattle.std.proofs.Common.{◌∙◌, ap, arith}
use Rattle.evo_combinators.specs.Reader.{Outcome, Reader, and_then, ◌>>=◌, pure, with_front}
use Rattle.evo_combinators.specs.Attempt.{attempt, further, tries_from, tries}
use Rattle.evo_combinators.proofs.AtDepth.{front_none, front_more}

module _ {T B St : Type 0} (q : St → Reader T B) (next : St → B → St) where
  abbrev pub TriesAfter : ℕ → List B → St → List T → Outcome T (List B)
  TriesAfter n found s ts = with_front found (tries_from q next n s ts)

  pub tries_init : (s : St) (ts : List T) → tries q next s ts ≡ TriesAfter (length ts - 0) [] s ts
  unfolding tries
  tries_init s ts = let n : length ts ≡ length ts - 0 = omega arith in ap (λ k. tries_from q next k s ts) n ∙ front_none (tries_from q next (length ts - 0) s ts)

  module _ (o : Outcome T (List B)) (e i : ℕ) (found : List B) (s : St) (ts : List T) (is : o ≡ TriesAfter (e - i) found s ts) where
    abbrev Later : B → Reader T (List B)
    Later b = tries_from q next (e - (i + 1)) (next s b) >>= (λ bs. pure (b ∷ bs))

    opened : i < e → o ≡ with_front found (and_then (attempt (q s) ts) (further Later))
    opened below = let n : e - i ≡ suc (e - (i + 1)) = omega arith in is ∙ ap (λ k. TriesAfter k found s ts) n

    pub tries_more : i < e → (b : B) (rest : List T) → attempt (q s) ts ≡ Ok (Some b, rest) → o ≡ TriesAfter (e - (i + 1)) (found ++ b ∷ []) (next s b) rest
    tries_more below b rest good = opened below
        ∙ ap (λ x. with_front found (and_then x (further Later))) good
        ∙ front_more found b (tries_from q next (e - (i + 1)) (next s b) rest)
