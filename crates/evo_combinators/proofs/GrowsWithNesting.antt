-- A reader that allows more nesting reads the same, but where the other one met one nesting too many.
use Rattle.std.specs.Prelude.{ℕ, zero, suc, List, [], ◌∷◌, length, Option, Some, None, Ok, Err, refl}
use Rattle.std.proofs.Common.{◌∙◌, ap, inl, inr}
use Rattle.evo_combinators.specs.Reader.{Outcome, Reader, and_then, ◌>>=◌, pure, branch, alt, barred, lead, bar, many_from, many}
use Rattle.evo_combinators.specs.Laws.{GrowsWithNesting, Same}

pub same_refl : {T A : Type 0} (p : Reader T A) → GrowsWithNesting p p
same_refl p ts = inl refl

module _ {T A B : Type 0} (p p' : Reader T A) (q q' : A → Reader T B) (dp : GrowsWithNesting p p') (dq : (a : A) → GrowsWithNesting (q a) (q' a)) where
  after : (o : Outcome T A) → Same (and_then o q) (and_then o q')
  after (Ok x) = dq x.0 x.1
  after (Err e) = inl refl

  pub deeper_then : GrowsWithNesting (p >>= q) (p' >>= q')
  deeper_then ts = elim (dp ts) [
    | inl e ↦ elim (after (p ts)) [ inl e' ↦ inl (ap (λ o. and_then o q') e ∙ e') | inr d ↦ inr d ]
    | inr (k, e) ↦ inr (k, ap (λ o. and_then o q) e)
  ]

module _ {T A B : Type 0} (f : T → Option A) (q q' : A → Reader T B) (r r' : Reader T B) (dq : (a : A) → GrowsWithNesting (q a) (q' a)) (dr : GrowsWithNesting r r') where
  deeper_branch : (ts : List T) (o : Option (A × List T)) → Same (branch o q (r ts)) (branch o q' (r' ts))
  deeper_branch ts (Some x) = dq x.0 x.1
  deeper_branch ts None = dr ts

  pub deeper_alt : GrowsWithNesting (alt f q r) (alt f q' r')
  deeper_alt ts = deeper_branch ts (lead f ts)

  deeper_barred : (ts : List T) (o : Option (A × List T)) → Same (barred o (length ts) (r ts)) (branch o q' (r' ts))
  deeper_barred ts (Some x) = inr (length ts, refl)
  deeper_barred ts None = dr ts

  pub deeper_bar : GrowsWithNesting (bar f r) (alt f q' r')
  deeper_bar ts = deeper_barred ts (lead f ts)

module _ {T A B : Type 0} (f : T → Option A) (q q' : A → Reader T B) (dq : (a : A) → GrowsWithNesting (q a) (q' a)) where
  deeper_from : (n : ℕ) → GrowsWithNesting (many_from f q n) (many_from f q' n)
  deeper_from zero = same_refl (pure [])
  deeper_from (suc n) = deeper_alt f _ _ (pure []) (pure [])
      (λ a. deeper_then (q a) (q' a) _ _ (dq a)
      (λ b. deeper_then (many_from f q n) (many_from f q' n) _ _ (deeper_from n) (λ bs. same_refl (pure (b ∷ bs)))))
      (same_refl (pure []))

  pub deeper_many : GrowsWithNesting (many f q) (many f q')
  unfolding many
  deeper_many ts = deeper_from (length ts) ts
