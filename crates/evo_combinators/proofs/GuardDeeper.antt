-- Readers that look ahead, where more nesting is allowed.
use Rattle.std.specs.Prelude.{ℕ, zero, suc, Bool, true, false, cond, List, [], ◌∷◌, length}
use Rattle.evo_combinators.specs.Reader.{Reader, pure}
use Rattle.evo_combinators.specs.Guard.{choose, starts, run_from, run}
use Rattle.evo_combinators.proofs.GrowsWithNesting.{same_refl, deeper_then}
use Rattle.evo_combinators.specs.Laws.{GrowsWithNesting, Same}

module _ {T B : Type 0} (c : List T → Bool) (p p' r r' : Reader T B) (dp : GrowsWithNesting p p') (dr : GrowsWithNesting r r') where
  deeper_at : (b : Bool) (ts : List T) → Same (cond b (p ts) (r ts)) (cond b (p' ts) (r' ts))
  deeper_at true ts = dp ts
  deeper_at false ts = dr ts

  pub deeper_choose : GrowsWithNesting (choose c p r) (choose c p' r')
  deeper_choose ts = deeper_at (c ts) ts

module _ {T B St : Type 0} (g : St → T → Bool) (q q' : St → Reader T B) (next : St → B → St) (dq : (s : St) → GrowsWithNesting (q s) (q' s)) where
  deeper_from : (n : ℕ) (s : St) → GrowsWithNesting (run_from g q next n s) (run_from g q' next n s)
  deeper_from zero s = same_refl (pure [])
  deeper_from (suc n) s = deeper_choose (starts (g s)) _ _ (pure []) (pure [])
      (deeper_then (q s) (q' s) _ _ (dq s) (λ b. deeper_then (run_from g q next n (next s b)) (run_from g q' next n (next s b)) _ _ (deeper_from n (next s b)) (λ bs. same_refl (pure (b ∷ bs)))))
      (same_refl (pure []))

  pub deeper_run : (s : St) → GrowsWithNesting (run g q next s) (run g q' next s)
  unfolding run
  deeper_run s ts = deeper_from (length ts) s ts
