-- A loop that counts up and makes something of what it reads, beside `many`.
use Rattle.std.specs.Prelude.{◌≡◌, ℕ, suc, ◌+◌, ◌-◌, ◌<◌, List, [], ◌∷◌, length, Option, Some, None, Ok, Err, refl}
use Rattle.std.proofs.Common.{◌∙◌, ap, arith}
use Rattle.evo_combinators.specs.declared.Fault.{Fault}
use Rattle.evo_combinators.specs.Reader.{Outcome, Reader, and_then, ◌>>=◌, pure, lead, branch, many_from, many}

module _ {T A B St C : Type 0} (f : T → Option A) (q : A → Reader T B) (make : St → List B → C) (next : St → B → St)
    (step : (s : St) (b : B) (bs : List B) → make s (b ∷ bs) ≡ make (next s b) bs) where
  abbrev pub FoldAfter : ℕ → St → List T → Outcome T C
  FoldAfter n s ts = and_then (many_from f q n ts) (λ bs. pure (make s bs))

  pub fold_init : (s : St) (ts : List T) → and_then (many f q ts) (λ bs. pure (make s bs)) ≡ FoldAfter (length ts - 0) s ts
  unfolding many
  fold_init s ts = let n : length ts ≡ length ts - 0 = omega arith in ap (λ k. FoldAfter k s ts) n

  made : (s : St) (b : B) (o : Outcome T (List B)) → and_then (and_then o (λ bs. pure (b ∷ bs))) (λ bs. pure (make s bs)) ≡ and_then o (λ bs. pure (make (next s b) bs))
  made s b (Ok (bs, rest)) = ap (λ x. Ok (x, rest)) (step s b bs)
  made s b (Err d) = refl

  module _ (o : Outcome T C) (e i : ℕ) (s : St) (ts : List T) (is : o ≡ FoldAfter (e - i) s ts) where
    abbrev Rest : ℕ → A → Reader T (List B)
    Rest n a = q a >>= (λ b. many_from f q n >>= (λ bs. pure (b ∷ bs)))

    opened : i < e → o ≡ FoldAfter (suc (e - (i + 1))) s ts
    opened below = let n : e - i ≡ suc (e - (i + 1)) = omega arith in is ∙ ap (λ k. FoldAfter k s ts) n

    pub fold_none : i < e → lead f ts ≡ None → o ≡ Ok (make s [], ts)
    fold_none below none = opened below ∙ ap (λ l. and_then (branch l (Rest (e - (i + 1))) (Ok ([], ts))) (λ bs. pure (make s bs))) none

    led : i < e → (a : A) (us : List T) → lead f ts ≡ Some (a, us) → o ≡ and_then (Rest (e - (i + 1)) a us) (λ bs. pure (make s bs))
    led below a us some = opened below ∙ ap (λ l. and_then (branch l (Rest (e - (i + 1))) (Ok ([], ts))) (λ bs. pure (make s bs))) some

    pub fold_err : i < e → (a : A) (us : List T) (d : Fault) → lead f ts ≡ Some (a, us) → q a us ≡ Err d → o ≡ Err d
    fold_err below a us d some bad =
        led below a us some ∙ ap (λ x. and_then (and_then x (λ b. many_from f q (e - (i + 1)) >>= (λ bs. pure (b ∷ bs)))) (λ bs. pure (make s bs))) bad

    pub fold_more : i < e → (a : A) (us : List T) (b : B) (rest : List T) → lead f ts ≡ Some (a, us) → q a us ≡ Ok (b, rest) → o ≡ FoldAfter (e - (i + 1)) (next s b) rest
    fold_more below a us b rest some good =
        led below a us some ∙ ap (λ x. and_then (and_then x (λ b. many_from f q (e - (i + 1)) >>= (λ bs. pure (b ∷ bs)))) (λ bs. pure (make s bs))) good
        ∙ made s b (many_from f q (e - (i + 1)) rest)
