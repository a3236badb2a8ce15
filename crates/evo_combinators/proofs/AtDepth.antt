-- A loop that counts up, beside `many`.
use Rattle.std.specs.Prelude.{◌≡◌, ℕ, suc, ◌+◌, ◌-◌, ◌<◌, List, [], ◌∷◌, ◌++◌, length, Option, Some, Ok, Err, refl}
use Rattle.std.proofs.Common.{sym, ◌∙◌, ap, arith, append_assoc}
use Rattle.evo_combinators.specs.Reader.{Outcome, Reader, and_then, ◌>>=◌, pure, lead, branch, many_from, many, with_front}

pub front_none : {T B : Type 0} (o : Outcome T (List B)) → o ≡ with_front [] o
front_none (Ok x) = refl
front_none (Err e) = refl

pub front_more : {T B : Type 0} (found : List B) (b : B) (o : Outcome T (List B)) → with_front found (and_then o (λ bs. pure (b ∷ bs))) ≡ with_front (found ++ b ∷ []) o
front_more found b (Ok x) = ap (λ y. Ok (y, x.1)) (sym (append_assoc found (b ∷ []) x.0))
front_more found b (Err e) = refl

pub front_one : {T B : Type 0} (b : B) (o : Outcome T (List B)) → and_then o (λ bs. pure (b ∷ bs)) ≡ with_front (b ∷ []) o
front_one b (Ok x) = refl
front_one b (Err e) = refl

module _ {T A B : Type 0} (f : T → Option A) (q : A → Reader T B) where
  abbrev pub After : ℕ → List B → List T → Outcome T (List B)
  After n found ts = with_front found (many_from f q n ts)

  pub turn_init : (ts : List T) → many f q ts ≡ After (length ts - 0) [] ts
  unfolding many
  turn_init ts = let n : length ts ≡ length ts - 0 = omega arith in ap (λ k. many_from f q k ts) n ∙ front_none (many_from f q (length ts - 0) ts)

  -- a loop that begins with something found
  pub turn_begin : (found : List B) (ts : List T) → with_front found (many f q ts) ≡ After (length ts - 0) found ts
  unfolding many
  turn_begin found ts = let n : length ts ≡ length ts - 0 = omega arith in ap (λ k. with_front found (many_from f q k ts)) n

  module _ (o : Outcome T (List B)) (e i : ℕ) (found : List B) (ts : List T) (is : o ≡ After (e - i) found ts) where
    opened : i < e → o ≡ After (suc (e - (i + 1))) found ts
    opened below = let n : e - i ≡ suc (e - (i + 1)) = omega arith in is ∙ ap (λ k. After k found ts) n

    abbrev Rest : ℕ → A → Reader T (List B)
    Rest n a = q a >>= (λ b. many_from f q n >>= (λ bs. pure (b ∷ bs)))

    led : i < e → (a : A) (us : List T) → lead f ts ≡ Some (a, us) → o ≡ with_front found (Rest (e - (i + 1)) a us)
    led below a us some = opened below ∙ ap (λ l. with_front found (branch l (Rest (e - (i + 1))) (Ok ([], ts)))) some

    pub turn_more : i < e → (a : A) (us : List T) (b : B) (rest : List T) → lead f ts ≡ Some (a, us) → q a us ≡ Ok (b, rest) →
        o ≡ After (e - (i + 1)) (found ++ b ∷ []) rest
    turn_more below a us b rest some good =
        led below a us some ∙ ap (λ x. with_front found (and_then x (λ b. many_from f q (e - (i + 1)) >>= (λ bs. pure (b ∷ bs))))) good
        ∙ front_more found b (many_from f q (e - (i + 1)) rest)
