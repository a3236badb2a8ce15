-- That a token is not refused.
use Rattle.std.specs.Prelude.{◌≡◌, ℕ, suc, ◌≤◌, List, [], ◌∷◌, ◌++◌, length, Option, Some, None, Err, refl}
use Rattle.std.proofs.Common.{sym, ◌∙◌, ap, subst, inl, inr, arith, length-append}
use Rattle.evo_combinators.specs.declared.Fault.TheVariants.{Grammar}
use Rattle.evo_combinators.specs.Reader.{Reader, ◌>>=◌, alt, lead, branch, paired}
use Rattle.evo_combinators.proofs.Laws.{SameLookahead-refl, split_err}
use Rattle.evo_combinators.specs.Laws.{ReadsRule, Takes}

-- what is refused stands among the tokens
module _ {T A : Type 0} (Stop : Option T → Type 0) (S W : List T → A → Type 0) (p : Reader T A) (right : (n : ℕ) → ReadsRule n Stop S W p) where
  pub refused_within : (ts : List T) (k : ℕ) → p ts ≡ Err (Grammar k) → k ≤ length ts
  refused_within ts k e =
      let n = length ts in
      let (us, rest, cut, goes, again) = (right n).refuses ts k (omega arith) e in
      let here = again rest (subst (λ x. length x ≤ n) cut (omega arith)) (SameLookahead-refl rest) in
      let count : k ≡ length rest = let both = sym e ∙ ap p cut ∙ here in cc in
      omega (arith, ap length cut, length-append us rest)

pub takes_alt : {T A B : Type 0} (Stop : Option T → Type 0) (S W : A → List T → B → Type 0) (f : T → Option A) (q : A → Reader T B) (r : Reader T B) (t : T) →
    ((a : A) (n : ℕ) → ReadsRule n Stop (S a) (W a) (q a)) → (f t ≡ None → Takes r t) → Takes (alt f q r) t
unfolding lead
takes_alt {T} {A} {B} Stop S W f q r t right later us = go (f t) refl
  where
    go : (o : Option A) → f t ≡ o → branch (paired o us) q (r (t ∷ us)) ≡ Err (Grammar (suc (length us))) → ⊥
    go (Some a) is e = let short = refused_within Stop (S a) (W a) (q a) (λ n. right a n) us (suc (length us)) e in omega (arith, short)
    go None is e = later is us e

pub takes_then : {T A B : Type 0} (StopS StopR : Option T → Type 0) (S S' : List T → A → Type 0) (R R' : A → List T → B → Type 0) (p : Reader T A) (q : A → Reader T B) (t : T) →
    ((n : ℕ) → ReadsRule n StopS S S' p) → ((a : A) (n : ℕ) → ReadsRule n StopR (R a) (R' a) (q a)) → ((a : A) → S [] a → ⊥) → Takes p t → Takes (p >>= q) t
takes_then {T} {A} {B} StopS StopR S S' R R' p q t right_p right_q some takes us e = elim (split_err (p (t ∷ us)) q (Grammar (suc (length us))) e) [
  | inl here ↦ takes us here
  | inr (a, mid, is, bad) ↦
      let (vs, cut, s, again) = (right_p (length (t ∷ us))).sound (t ∷ us) mid a (omega arith) is in
      let short = refused_within StopR (R a) (R' a) (q a) (λ n. right_q a n) mid (suc (length us)) bad in
      consumed vs mid a cut s short
]
  where
    consumed : (vs mid : List T) (a : A) → t ∷ us ≡ vs ++ mid → S vs a → suc (length us) ≤ length mid → ⊥
    consumed [] mid a cut s short = some a s
    consumed (v ∷ vs) mid a cut s short = omega (arith, ap length cut, length-append vs mid)
