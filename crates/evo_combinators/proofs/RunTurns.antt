-- A loop that counts up, beside `run`.
use Rattle.std.specs.Prelude.{◌≡◌, ℕ, suc, ◌+◌, ◌-◌, ◌<◌, Bool, true, false, cond, List, [], ◌∷◌, ◌++◌, length, Ok}
use Rattle.std.proofs.Common.{◌∙◌, ap, arith, append-nil}
use Rattle.evo_combinators.specs.Reader.{Outcome, Reader, and_then, ◌>>=◌, pure, with_front}
use Rattle.evo_combinators.proofs.AtDepth.{front_none, front_more}
use Rattle.evo_combinators.specs.Guard.{starts, run_from, run}

module _ {T B St : Type 0} (g : St → T → Bool) (q : St → Reader T B) (next : St → B → St) where
  abbrev pub RunAfter : ℕ → List B → St → List T → Outcome T (List B)
  RunAfter n found s ts = with_front found (run_from g q next n s ts)

  pub run_init : (s : St) (ts : List T) → run g q next s ts ≡ RunAfter (length ts - 0) [] s ts
  unfolding run
  run_init s ts = let n : length ts ≡ length ts - 0 = omega arith in ap (λ k. run_from g q next k s ts) n ∙ front_none (run_from g q next (length ts - 0) s ts)

  module _ (o : Outcome T (List B)) (e i : ℕ) (found : List B) (s : St) (ts : List T) (is : o ≡ RunAfter (e - i) found s ts) where
    abbrev Later : B → Reader T (List B)
    Later b = run_from g q next (e - (i + 1)) (next s b) >>= (λ bs. pure (b ∷ bs))

    opened : i < e → o ≡ RunAfter (suc (e - (i + 1))) found s ts
    opened below = let n : e - i ≡ suc (e - (i + 1)) = omega arith in is ∙ ap (λ k. RunAfter k found s ts) n

    pub run_none : i < e → starts (g s) ts ≡ false → o ≡ Ok (found, ts)
    run_none below none = opened below ∙ ap (λ c. with_front found (cond c (and_then (q s ts) Later) (Ok ([], ts)))) none ∙ ap (λ x. Ok (x, ts)) (append-nil found)

    begun : i < e → starts (g s) ts ≡ true → o ≡ with_front found (and_then (q s ts) Later)
    begun below some = opened below ∙ ap (λ c. with_front found (cond c (and_then (q s ts) Later) (Ok ([], ts)))) some

    pub run_more : i < e → (b : B) (rest : List T) → starts (g s) ts ≡ true → q s ts ≡ Ok (b, rest) → o ≡ RunAfter (e - (i + 1)) (found ++ b ∷ []) (next s b) rest
    run_more below b rest some good = begun below some
        ∙ ap (λ x. with_front found (and_then x Later)) good
        ∙ front_more found b (run_from g q next (e - (i + 1)) (next s b) rest)
