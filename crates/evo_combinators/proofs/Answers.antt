-- That tokens have one answer.
use Rattle.std.proofs.Common.{◌≡◌, ℕ, zero, suc, ◌+◌, ◌-◌, ◌<◌, ◌≤◌, Bool, List, [], ◌++◌, length, take, Option, refl, sym, ◌∙◌, ap, subst, arith, inl, inr, ◌⊎◌, append_assoc, append-nil}
use Rattle.std.specs.Prelude.{slice_range}
use Rattle.std.proofs.lemmas.List.{take_all}
use Rattle.evo_combinators.specs.Rule.{IsViablePrefix}
use Rattle.evo_combinators.specs.Reader.{Reader}
use Rattle.evo_combinators.specs.Laws.{NoneGoes, GrammarOf}
use Rattle.evo_combinators.specs.Contract.{IsDeepAt, IsRefusedIn, OneAnswer, OneOutcome}
use Rattle.evo_combinators.proofs.Faults.{one_value}
use Rattle.evo_combinators.proofs.Ranges.{first_within, range_longer}

data Order (i j : ℕ) : Type 0 where
  before : i < j → Order i j
  same : i ≡ j → Order i j
  behind : j < i → Order i j

order : (i j : ℕ) → Order i j
order i j = go i j
  where
    go : (i j : ℕ) → Order i j
    go zero zero = same refl
    go zero (suc j) = before (omega arith)
    go (suc i) zero = behind (omega arith)
    go (suc i) (suc j) = elim (go i j) [ before h ↦ before (omega arith) | same h ↦ same (omega arith) | behind h ↦ behind (omega arith) ]

module _ {T A : Type 0} (Stop : Option T → Type 0) (opening : T → Bool) (S : ℕ → List T → A → Type 0) (p : ℕ → Reader T A) (gram : GrammarOf Stop S p) (d : ℕ) (ps : List T) where
  module _ (at : ℕ) where
    -- a spelling goes on with a front of what it goes on with
    front : (m i j : ℕ) → at ≤ i → i ≤ j → IsViablePrefix (S m) (slice_range ps at j) → IsViablePrefix (S m) (slice_range ps at i)
    front m i j from le (more, x, s) = (
      slice_range ps i j ++ more,
      x,
      subst (λ us. S m us x) (ap (λ us. us ++ more) (range_longer ps at i j from le) ∙ append_assoc (slice_range ps at i) (slice_range ps i j) more) s,
    )

    goes_of : (m i : ℕ) (x : A) → S m (slice_range ps at i) x → IsViablePrefix (S m) (slice_range ps at i)
    goes_of m i x s = ([], x, subst (λ us. S m us x) (sym (append-nil (slice_range ps at i))) s)

    -- where none goes on, no longer range does
    none_beyond : (i j m : ℕ) → at ≤ i → i < j → NoneGoes S (slice_range ps at (i + 1)) → IsViablePrefix (S m) (slice_range ps at j) → ⊥
    none_beyond i j m from less none goes = none m (front m (i + 1) j (omega arith) (omega arith) goes)

    goes_behind : (i j : ℕ) → (j ≡ at) ⊎ IsViablePrefix (S (suc d)) (slice_range ps at j) → i < j → at ≤ i → IsViablePrefix (S (suc d)) (slice_range ps at j)
    goes_behind i j (inl none) less from = absurd (omega arith)
    goes_behind i j (inr goes) less from = goes

    -- the first token that is too deep stands once
    one_deep : (i j : ℕ) → IsDeepAt opening S d ps at i → IsDeepAt opening S d ps at j → i ≡ j
    one_deep i j a b = elim (order i j) [
      | before h ↦ absurd (a.deep (b.shallow i a.token a.from h a.is a.opens))
      | same h ↦ h
      | behind h ↦ absurd (b.deep (a.shallow j b.token b.from h b.is b.opens))
    ]

    pub answers : OneAnswer opening S d ps at
    answers = record {
      read = λ x y i j a b. elim (order i j) [
        | before h ↦ absurd (none_beyond i j d a.from h (a.ends (omega (arith, b.within))) (goes_of d j y b.spells))
        | same h ↦ (one_value Stop S p gram d d (slice_range ps at j) x y (subst (λ n. S d (slice_range ps at n) x) h a.spells) b.spells, h)
        | behind h ↦ absurd (none_beyond j i d b.from h (b.ends (omega (arith, a.within))) (goes_of d i x a.spells))
      ];
      refused = λ i j a b. elim (order i j) [
        | before h ↦ absurd (none_beyond i j (suc d) a.from h (a.ends (omega (arith, b.within))) (goes_behind i j b.goes h a.from))
        | same h ↦ h
        | behind h ↦ absurd (none_beyond j i (suc d) b.from h (b.ends (omega (arith, a.within))) (goes_behind j i a.goes h b.from))
      ];
      deep = one_deep;
      read_or_refused = λ x i j a b. elim (order i j) [
        | before h ↦ none_beyond i j (suc d) a.from h (a.ends (omega (arith, b.within))) (goes_behind i j b.goes h a.from)
        | same h ↦ b.none d x (subst (λ n. S d (slice_range ps at n) x) h a.spells)
        | behind h ↦ none_beyond j i d b.from h (b.ends (omega (arith, a.within))) (goes_of d i x a.spells)
      ];
      read_or_deep = λ x i j a b. elim (order j i) [
        | before h ↦ b.deep (front d (j + 1) i (omega (arith, b.from)) (omega arith) (goes_of d i x a.spells))
        | same h ↦ a.ends (omega (arith, first_within ps j b.token b.is)) (suc d) (subst (λ n. IsViablePrefix (S (suc d)) (slice_range ps at (n + 1))) h b.goes)
        | behind h ↦ a.ends (omega (arith, first_within ps j b.token b.is)) (suc d) (front (suc d) (i + 1) (j + 1) (omega (arith, a.from)) (omega arith) b.goes)
      ];
      refused_or_deep = λ i j a b. elim (order j i) [
        | before h ↦ b.deep (a.shallow j b.token b.from h b.is b.opens)
        | same h ↦ a.ends (omega (arith, first_within ps j b.token b.is)) (suc d) (subst (λ n. IsViablePrefix (S (suc d)) (slice_range ps at (n + 1))) h b.goes)
        | behind h ↦ a.ends (omega (arith, first_within ps j b.token b.is)) (suc d) (front (suc d) (i + 1) (j + 1) (omega (arith, a.from)) (omega arith) b.goes)
      ];
    }

  -- ---- all tokens

  whole_range : slice_range ps 0 (length ps) ≡ ps
  whole_range = let none : length ps - 0 ≡ length ps = omega arith in ap (λ n. take n ps) none ∙ take_all (length ps) ps (let le : length ps ≤ length ps = omega arith in le)

  goes_whole : (m : ℕ) (x : A) → S m ps x → IsViablePrefix (S m) (slice_range ps 0 (length ps))
  goes_whole m x s = subst (IsViablePrefix (S m)) (sym whole_range) ([], x, subst (λ us. S m us x) (sym (append-nil ps)) s)

  not_refused : (x : A) (i : ℕ) → S d ps x → IsRefusedIn opening S d ps i → ⊥
  not_refused x i s r = elim (order i (length ps)) [
    | before h ↦ none_beyond 0 i (length ps) d (let le : 0 ≤ i = omega arith in le) h (r.ends h) (goes_whole d x s)
    | same h ↦ r.none h d x s
    | behind h ↦ omega (arith, h, r.within)
  ]

  pub outcomes : OneOutcome opening S d ps
  outcomes = record {
    spelled = λ x y s r. one_value Stop S p gram d d ps x y s r;
    refused = λ i j a b. elim (order i j) [
      | before h ↦ absurd (none_beyond 0 i j (suc d) (let le : 0 ≤ i = omega arith in le) h (a.ends (omega (arith, b.within))) (goes_behind 0 i j b.goes h (let le : 0 ≤ i = omega arith in le)))
      | same h ↦ h
      | behind h ↦ absurd (none_beyond 0 j i (suc d) (let le : 0 ≤ j = omega arith in le) h (b.ends (omega (arith, a.within))) (goes_behind 0 j i a.goes h (let le : 0 ≤ j = omega arith in le)))
    ];
    deep = one_deep 0;
    spelled_or_refused = not_refused;
    spelled_or_deep = λ x i s b. b.deep (front 0 d (i + 1) (length ps) (omega arith) (omega (arith, first_within ps i b.token b.is)) (goes_whole d x s));
    refused_or_deep = λ i j a b. elim (order j i) [
      | before h ↦ b.deep (a.shallow j b.token b.from h b.is b.opens)
      | same h ↦ a.ends (omega (arith, first_within ps j b.token b.is)) (suc d) (subst (λ n. IsViablePrefix (S (suc d)) (slice_range ps 0 (n + 1))) h b.goes)
      | behind h ↦ a.ends (omega (arith, first_within ps j b.token b.is)) (suc d) (front 0 (suc d) (i + 1) (j + 1) (let le : 0 ≤ i + 1 = omega arith in le) (omega arith) b.goes)
    ];
  }
