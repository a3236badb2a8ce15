-- Which tokens open a nesting, through the parts of a reader.
use Rattle.std.specs.Prelude.{◌≡◌, ℕ, zero, suc, ◌-◌, ◌≤◌, Bool, true, false, cond, List, [], ◌∷◌, ◌++◌, length, Option, Some, None, Ok, Err, refl}
use Rattle.std.proofs.Common.{sym, ◌∙◌, ap, subst, inl, inr, ◌⊎◌, arith, append-nil, append_assoc, length-append}
use Rattle.evo_combinators.specs.declared.Fault.TheVariants.{Grammar, Deep}
use Rattle.evo_combinators.specs.Rule.{Empty, TokenThen, Or, Then, Many, IsViablePrefix, SomeOf}
use Rattle.evo_combinators.specs.Reader.{Outcome, Reader, and_then, ◌>>=◌, pure, refuse, alt, lead, branch, paired, one, bar, barred, many}
use Rattle.evo_combinators.specs.Guard.{choose}
use Rattle.evo_combinators.specs.Laws.{ReadsRule}
use Rattle.evo_combinators.specs.Nesting.{left_of, Keeps, DeepOpens}
use Rattle.evo_combinators.proofs.Laws.{many_step, right_many}

goes_or_left : {T A : Type 0} (S R : List T → A → Type 0) (us : List T) → IsViablePrefix S us → IsViablePrefix (Or S R) us
goes_or_left S R us (more, a, s) = (more, a, inl s)

goes_or_right : {T A : Type 0} (S R : List T → A → Type 0) (us : List T) → IsViablePrefix R us → IsViablePrefix (Or S R) us
goes_or_right S R us (more, a, s) = (more, a, inr s)

goes_led : {T A B : Type 0} (f : T → Option A) (S : A → List T → B → Type 0) (t : T) (a : A) (us : List T) → f t ≡ Some a → IsViablePrefix (S a) us → IsViablePrefix (TokenThen f S) (t ∷ us)
goes_led f S t a us takes (more, b, s) = (more, b, (t, a, us ++ more, refl, takes, s))

goes_then : {T A B : Type 0} (S : List T → A → Type 0) (R : A → List T → B → Type 0) → ((a : A) → SomeOf (R a)) → (us : List T) → IsViablePrefix S us → IsViablePrefix (Then S R) us
goes_then S R some us (more, a, s) = let (vs, b, r) = some a in (more ++ vs, b, (a, us ++ more, vs, sym (append_assoc us more vs), s, r))

goes_behind : {T A B : Type 0} (S : List T → A → Type 0) (R : A → List T → B → Type 0) (us vs : List T) (a : A) → S us a → IsViablePrefix (R a) vs → IsViablePrefix (Then S R) (us ++ vs)
goes_behind S R us vs a s (more, b, r) = (more, b, (a, us, vs ++ more, append_assoc us vs more, s, r))

-- what stands behind a longer front begins in the middle of it
behind : {T : Type 0} (us vs xs ys : List T) → us ++ xs ≡ vs ++ ys → length xs ≤ length ys → (ws : List T) × (us ≡ vs ++ ws) × (ys ≡ ws ++ xs)
behind us [] xs ys e le = (us, refl, sym e)
behind [] (v ∷ vs) xs ys e le = absurd (omega (arith, ap length e, length-append vs ys))
behind (u ∷ us) (v ∷ vs) xs ys e le =
    let tails : us ++ xs ≡ vs ++ ys = cc in
    let heads : u ≡ v = cc in
    let (ws, is, rest) = behind us vs xs ys tails le in
    (ws, ap (λ x. x ∷ us) heads ∙ ap (λ x. v ∷ x) is, rest)

module _ {T : Type 0} (Q : Type 0) (opens : T → Bool) where
  pub keeps_pure : {A : Type 0} (n : ℕ) (S : List T → A → Type 0) (a : A) → Keeps n Q opens S (pure a)
  keeps_pure n S a us t more fits is le = absurd (omega (arith, length-append us (t ∷ more)))

  pub keeps_refuse : {A : Type 0} (n : ℕ) (S : List T → A → Type 0) → Keeps n Q opens S refuse
  keeps_refuse n S us t more fits is le = absurd (omega (arith, length-append us (t ∷ more)))

  module _ {A B : Type 0} (n : ℕ) (Stop : Option T → Type 0) (S S' : List T → A → Type 0) (R : A → List T → B → Type 0) (p : Reader T A) (q : A → Reader T B) (right : ReadsRule n Stop S S' p)
      (keeps_p : Keeps n Q opens S p) (keeps_q : (a : A) → Keeps n Q opens (R a) (q a)) (some : Q → (a : A) → SomeOf (R a)) where
    pub keeps_then : Keeps n Q opens (Then S R) (p >>= q)
    keeps_then us t more fits is le = go (p (us ++ t ∷ more)) refl le
      where
        go : (o : Outcome T A) → p (us ++ t ∷ more) ≡ o → left_of (and_then o q) ≤ length more → Q × IsViablePrefix (Then S R) (us ++ t ∷ [])
        go (Err e) is_o le = let (held, goes) = keeps_p us t more fits is (subst (λ o. left_of o ≤ length more) (sym is_o) le) in (held, goes_then S R (some held) (us ++ t ∷ []) goes)
        go (Ok (a, rest)) is_o le = elim (within (length rest) (length more)) [
          | inl inside ↦ let (held, goes) = keeps_p us t more fits is (subst (λ o. left_of o ≤ length more) (sym is_o) inside) in (held, goes_then S R (some held) (us ++ t ∷ []) goes)
          | inr beyond ↦
              let (vs, cut, s, again) = right.sound (us ++ t ∷ more) rest a fits is_o in
              let (ws, front, back) = behind us vs (t ∷ more) rest cut beyond in
              let (held, goes) = keeps_q a ws t more (omega (arith, ap length cut, length-append vs rest, ap length back)) is (subst (λ r. left_of (q a r) ≤ length more) back le) in
              (held, subst (IsViablePrefix (Then S R)) (sym (append_assoc vs ws (t ∷ [])) ∙ ap (λ x. x ++ t ∷ []) (sym front)) (goes_behind S R vs (ws ++ t ∷ []) a s goes))
        ]
          where
            within : (i j : ℕ) → (i ≤ j) ⊎ (suc j ≤ i)
            within i zero = elim i as (λ i. (i ≤ 0) ⊎ (1 ≤ i)) [ zero ↦ inl (omega arith) | suc k ↦ inr (omega arith) ]
            within zero (suc j) = inl (omega arith)
            within (suc i) (suc j) = elim (within i j) [ inl h ↦ inl (omega arith) | inr h ↦ inr (omega arith) ]

  module _ {A B : Type 0} (n : ℕ) (f : T → Option A) (S : A → List T → B → Type 0) (R : List T → B → Type 0) (q : A → Reader T B) (r : Reader T B)
      (keeps_q : (a : A) → Keeps (n - 1) Q opens (S a) (q a)) (keeps_r : Keeps n Q opens R r) (some : (t : T) (a : A) → f t ≡ Some a → opens t ≡ true → Q × SomeOf (S a)) where
    pub keeps_alt : Keeps n Q opens (Or (TokenThen f S) R) (alt f q r)
    unfolding lead
    keeps_alt [] t more fits is le = go (f t) refl le
      where
        go : (o : Option A) → f t ≡ o → left_of (branch (paired o more) q (r (t ∷ more))) ≤ length more → Q × IsViablePrefix (Or (TokenThen f S) R) (t ∷ [])
        go (Some a) takes le = let (held, (us, b, s)) = some t a takes is in (held, (us, b, inl (t, a, us, refl, takes, s)))
        go None takes le = let (held, goes) = keeps_r [] t more fits is le in (held, goes_or_right (TokenThen f S) R (t ∷ []) goes)
    keeps_alt (u ∷ us) t more fits is le = go (f u) refl le
      where
        go : (o : Option A) → f u ≡ o → left_of (branch (paired o (us ++ t ∷ more)) q (r (u ∷ (us ++ t ∷ more)))) ≤ length more → Q × IsViablePrefix (Or (TokenThen f S) R) (u ∷ (us ++ t ∷ []))
        go (Some a) takes le = let (held, goes) = keeps_q a us t more (omega arith) is le in (held, goes_or_left (TokenThen f S) R (u ∷ (us ++ t ∷ [])) (goes_led f S u a (us ++ t ∷ []) takes goes))
        go None takes le = let (held, goes) = keeps_r (u ∷ us) t more fits is le in (held, goes_or_right (TokenThen f S) R (u ∷ (us ++ t ∷ [])) goes)

  pub keeps_bar : {A B : Type 0} (n : ℕ) (f : T → Option A) (R : List T → B → Type 0) (r : Reader T B) → Keeps n Q opens R r → Keeps n Q opens R (bar f r)
  unfolding lead
  keeps_bar {A} {B} n f R r keeps_r [] t more fits is le = go (f t) refl le
    where
      go : (o : Option A) → f t ≡ o → left_of (barred (paired o more) (suc (length more)) (r (t ∷ more))) ≤ length more → Q × IsViablePrefix R (t ∷ [])
      go (Some a) takes le = absurd (omega arith)
      go None takes le = keeps_r [] t more fits is le
  keeps_bar {A} {B} n f R r keeps_r (u ∷ us) t more fits is le = go (f u) refl le
    where
      go : (o : Option A) → f u ≡ o → left_of (barred (paired o (us ++ t ∷ more)) (suc (length (us ++ t ∷ more))) (r (u ∷ (us ++ t ∷ more)))) ≤ length more → Q × IsViablePrefix R (u ∷ (us ++ t ∷ []))
      go (Some a) takes le = absurd (omega (arith, length-append us (t ∷ more)))
      go None takes le = keeps_r (u ∷ us) t more fits is le

  pub keeps_by : {A : Type 0} (n : ℕ) (S R : List T → A → Type 0) (p : Reader T A) → ((us : List T) (a : A) → S us a → R us a) → Keeps n Q opens S p → Keeps n Q opens R p
  keeps_by n S R p to keeps us t more fits is le = let (held, (ws, a, s)) = keeps us t more fits is le in (held, (ws, a, to ((us ++ t ∷ []) ++ ws) a s))

  pub keeps_choose : {A : Type 0} (n : ℕ) (c : List T → Bool) (S R : List T → A → Type 0) (p r : Reader T A) → Keeps n Q opens S p → Keeps n Q opens R r → Keeps n Q opens (Or S R) (choose c p r)
  keeps_choose n c S R p r keeps_p keeps_r us t more fits is le = go (c (us ++ t ∷ more)) le
    where
      go : (b : Bool) → left_of (cond b (p (us ++ t ∷ more)) (r (us ++ t ∷ more))) ≤ length more → Q × IsViablePrefix (Or S R) (us ++ t ∷ [])
      go true le = let (held, goes) = keeps_p us t more fits is le in (held, goes_or_left S R (us ++ t ∷ []) goes)
      go false le = let (held, goes) = keeps_r us t more fits is le in (held, goes_or_right S R (us ++ t ∷ []) goes)

  module _ {A B : Type 0} (Stop StopQ : Option T → Type 0) (f : T → Option A) (S S' : A → List T → B → Type 0) (q : A → Reader T B)
      (right_q : (n : ℕ) (a : A) → ReadsRule n StopQ (S a) (S' a) (q a)) (some_q : (a : A) → (us : List T) × (b : B) × S a us b)
      (ended : Stop None) (stops : (t : T) (a : A) → Stop (Some t) → f t ≡ Some a → ⊥)
      (ends : (x : Option T) → Stop x → StopQ x) (next : (t : T) (a : A) → f t ≡ Some a → StopQ (Some t))
      (keeps_q : (n : ℕ) (a : A) → Keeps n Q opens (S a) (q a)) (some : (t : T) (a : A) → f t ≡ Some a → opens t ≡ true → Q × SomeOf (S a)) where
    abbrev Turn : A → List T → List B → Type 0
    Turn a = Then (S a) (λ b. Then (Many f S) (λ bs. Empty (b ∷ bs)))

    empty : (b : B) → SomeOf (Then (Many f S) (λ bs. Empty (b ∷ bs)))
    empty b = ([], b ∷ [], ([], [], [], refl, refl, (refl, refl)))

    to_many : (us : List T) (bs : List B) → Or (TokenThen f Turn) (Empty []) us bs → Many f S us bs
    to_many us bs (inl (t, a, vs, cut, takes, (b, xs, ys, cut', s, (more, zs, ws, cut'', m, (none, is))))) =
        subst (Many f S us) (sym is) (t, a, xs, zs, cut ∙ ap (λ x. t ∷ x) (cut' ∙ ap (λ x. xs ++ x) (cut'' ∙ ap (λ x. zs ++ x) none ∙ append-nil zs)), takes, s, m)
    to_many us bs (inr (none, is)) = subst (Many f S us) (sym is) none

    pub keeps_many : (n : ℕ) → Keeps n Q opens (Many f S) (many f q)
    keeps_many zero us t more fits is le = absurd (omega (arith, length-append us (t ∷ more)))
    keeps_many (suc n) us t more fits is le =
        keeps_by (suc n) (Or (TokenThen f Turn) (Empty [])) (Many f S) (alt f (λ a. q a >>= (λ b. many f q >>= (λ bs. pure (b ∷ bs)))) (pure [])) to_many
        (keeps_alt (suc n) f Turn (Empty []) _ (pure []) (λ a. subst (λ m. Keeps m Q opens (Turn a) (q a >>= (λ b. many f q >>= (λ bs. pure (b ∷ bs))))) (let e : n ≡ suc n - 1 = omega arith in e)
        (keeps_then n StopQ (S a) (S' a) (λ b. Then (Many f S) (λ bs. Empty (b ∷ bs))) (q a) _ (right_q n a) (keeps_q n a)
        (λ b. keeps_then n Stop (Many f S) (Many f S') (λ bs. Empty (b ∷ bs)) (many f q) _ (right_many Stop StopQ f S S' q right_q some_q ended stops ends next n) (keeps_many n) (λ bs. keeps_pure n (Empty (b ∷ bs)) (b ∷ bs)) (λ held bs. ([], b ∷ bs, (refl, refl)))) (λ held b. empty b)))
        (keeps_pure (suc n) (Empty []) []) (λ t a takes is. let (held, (us, b, s)) = some t a takes is in (held, (us, b ∷ [], (b, us, [], sym (append-nil us), s, ([], [], [], refl, refl, (refl, refl)))))))
        us t more fits is (subst (λ o. left_of o ≤ length more) (many_step Stop StopQ f S S' q right_q some_q ended stops ends next (us ++ t ∷ more)) le)

-- ---- where nesting is too deep

module _ {T : Type 0} (opens : T → Bool) where
  pub deep_pure : {A : Type 0} (n : ℕ) (a : A) → DeepOpens n opens (pure a)
  deep_pure n a ts k fits e = absurd (cc)

  pub deep_refuse : {A : Type 0} (n : ℕ) → DeepOpens {A = A} n opens refuse
  deep_refuse n ts k fits e = absurd (cc)

  pub deep_then : {A B : Type 0} (n : ℕ) (Stop : Option T → Type 0) (S S' : List T → A → Type 0) (p : Reader T A) (q : A → Reader T B) → ReadsRule n Stop S S' p →
      DeepOpens n opens p → ((a : A) → DeepOpens n opens (q a)) → DeepOpens n opens (p >>= q)
  deep_then {A} {B} n Stop S S' p q right deep_p deep_q ts k fits e = go (p ts) refl e
    where
      go : (o : Outcome T A) → p ts ≡ o → and_then o q ≡ Err (Deep k) → (us : List T) × (t : T) × (rest : List T) × (ts ≡ us ++ t ∷ rest) × (k ≡ suc (length rest)) × (opens t ≡ true)
      go (Err d) is e = let same : d ≡ Deep k = cc in deep_p ts k fits (is ∙ ap (λ x. Err x) same)
      go (Ok (a, more)) is e =
          let (vs, cut, s, again) = right.sound ts more a fits is in
          let (us, t, rest, cut', count, opening) = deep_q a more k (omega (arith, ap length cut, length-append vs more)) e in
          (vs ++ us, t, rest, cut ∙ ap (λ x. vs ++ x) cut' ∙ sym (append_assoc vs us (t ∷ rest)), count, opening)

  front : (v : T) (ts : List T) (k : ℕ) → (us : List T) × (t : T) × (rest : List T) × (ts ≡ us ++ t ∷ rest) × (k ≡ suc (length rest)) × (opens t ≡ true) →
      (us : List T) × (t : T) × (rest : List T) × (v ∷ ts ≡ us ++ t ∷ rest) × (k ≡ suc (length rest)) × (opens t ≡ true)
  front v ts k (us, t, rest, cut, count, opening) = (v ∷ us, t, rest, ap (λ x. v ∷ x) cut, count, opening)

  pub deep_alt : {A B : Type 0} (n : ℕ) (f : T → Option A) (q : A → Reader T B) (r : Reader T B) → ((a : A) → DeepOpens (n - 1) opens (q a)) → DeepOpens n opens r → DeepOpens n opens (alt f q r)
  unfolding lead
  deep_alt n f q r deep_q deep_r [] k fits e = deep_r [] k fits e
  deep_alt {A} {B} n f q r deep_q deep_r (v ∷ ts) k fits e = go (f v) refl e
    where
      go : (o : Option A) → f v ≡ o → branch (paired o ts) q (r (v ∷ ts)) ≡ Err (Deep k) → (us : List T) × (t : T) × (rest : List T) × (v ∷ ts ≡ us ++ t ∷ rest) × (k ≡ suc (length rest)) × (opens t ≡ true)
      go (Some a) takes e = front v ts k (deep_q a ts k (omega arith) e)
      go None takes e = deep_r (v ∷ ts) k fits e

  pub deep_bar : {A B : Type 0} (n : ℕ) (f : T → Option A) (r : Reader T B) → ((t : T) (a : A) → f t ≡ Some a → opens t ≡ true) → DeepOpens n opens r → DeepOpens n opens (bar f r)
  unfolding lead
  deep_bar n f r opening deep_r [] k fits e = deep_r [] k fits e
  deep_bar {A} {B} n f r opening deep_r (v ∷ ts) k fits e = go (f v) refl e
    where
      go : (o : Option A) → f v ≡ o → barred (paired o ts) (suc (length ts)) (r (v ∷ ts)) ≡ Err (Deep k) → (us : List T) × (t : T) × (rest : List T) × (v ∷ ts ≡ us ++ t ∷ rest) × (k ≡ suc (length rest)) × (opens t ≡ true)
      go (Some a) takes e = ([], v, ts, refl, let same : suc (length ts) ≡ k = cc in sym same, opening v a takes)
      go None takes e = deep_r (v ∷ ts) k fits e

  pub deep_choose : {A : Type 0} (n : ℕ) (c : List T → Bool) (p r : Reader T A) → DeepOpens n opens p → DeepOpens n opens r → DeepOpens n opens (choose c p r)
  deep_choose n c p r deep_p deep_r ts k fits e = go (c ts) e
    where
      go : (b : Bool) → cond b (p ts) (r ts) ≡ Err (Deep k) → (us : List T) × (t : T) × (rest : List T) × (ts ≡ us ++ t ∷ rest) × (k ≡ suc (length rest)) × (opens t ≡ true)
      go true e = deep_p ts k fits e
      go false e = deep_r ts k fits e

  module _ {A B : Type 0} (Stop StopQ : Option T → Type 0) (f : T → Option A) (S S' : A → List T → B → Type 0) (q : A → Reader T B)
      (right_q : (n : ℕ) (a : A) → ReadsRule n StopQ (S a) (S' a) (q a)) (some_q : (a : A) → (us : List T) × (b : B) × S a us b)
      (ended : Stop None) (stops : (t : T) (a : A) → Stop (Some t) → f t ≡ Some a → ⊥)
      (ends : (x : Option T) → Stop x → StopQ x) (next : (t : T) (a : A) → f t ≡ Some a → StopQ (Some t))
      (deep_q : (n : ℕ) (a : A) → DeepOpens n opens (q a)) where
    nothing_read : many f q [] ≡ Ok ([], [])
    unfolding many
    nothing_read = refl

    pub deep_many : (n : ℕ) → DeepOpens n opens (many f q)
    deep_many zero [] k fits e = absurd (let both = sym nothing_read ∙ e in cc)
    deep_many zero (t ∷ ts) k fits e = absurd (omega arith)
    deep_many (suc n) ts k fits e =
        deep_alt (suc n) f _ (pure []) (λ a. subst (λ m. DeepOpens m opens (q a >>= (λ b. many f q >>= (λ bs. pure (b ∷ bs))))) (let e : n ≡ suc n - 1 = omega arith in e)
        (deep_then n StopQ (S a) (S' a) (q a) _ (right_q n a) (deep_q n a)
        (λ b. deep_then n Stop (Many f S) (Many f S') (many f q) _ (right_many Stop StopQ f S S' q right_q some_q ended stops ends next n) (deep_many n) (λ bs. deep_pure n (b ∷ bs))))) (deep_pure (suc n) [])
        ts k fits (sym (many_step Stop StopQ f S S' q right_q some_q ended stops ends next ts) ∙ e)

-- ---- both together

led_one : {T A : Type 0} (f : T → Option A) (t : T) (ts : List T) → one f (t ∷ ts) ≡ branch (paired (f t) ts) pure (refuse (t ∷ ts))
unfolding lead
led_one f t ts = refl

led_none : {T A : Type 0} (f : T → Option A) → ◌≡◌ {A = Outcome T A} (one f []) (Err (Grammar 0))
unfolding lead
led_none f = refl

pub record Nest {T A : Type 0} (n : ℕ) (Q : Type 0) (opens : T → Bool) (S : List T → A → Type 0) (p : Reader T A) : Type 0 where
  pub keeps : Keeps n Q opens S p
  pub deep : DeepOpens n opens p

module _ {T : Type 0} (Q : Type 0) (opens : T → Bool) where
  pub nest_pure : {A : Type 0} (n : ℕ) (S : List T → A → Type 0) (a : A) → Nest n Q opens S (pure a)
  nest_pure n S a = record { keeps = keeps_pure Q opens n S a; deep = deep_pure opens n a }

  pub nest_refuse : {A : Type 0} (n : ℕ) (S : List T → A → Type 0) → Nest n Q opens S refuse
  nest_refuse n S = record { keeps = keeps_refuse Q opens n S; deep = deep_refuse opens n }

  pub nest_by : {A : Type 0} (n : ℕ) (S R : List T → A → Type 0) (p : Reader T A) → ((us : List T) (a : A) → S us a → R us a) → Nest n Q opens S p → Nest n Q opens R p
  nest_by n S R p to nest = record { keeps = keeps_by Q opens n S R p to nest.keeps; deep = nest.deep }

  pub nest_then : {A B : Type 0} (n : ℕ) (Stop : Option T → Type 0) (S S' : List T → A → Type 0) (R : A → List T → B → Type 0) (p : Reader T A) (q : A → Reader T B) → ReadsRule n Stop S S' p →
      Nest n Q opens S p → ((a : A) → Nest n Q opens (R a) (q a)) → (Q → (a : A) → SomeOf (R a)) → Nest n Q opens (Then S R) (p >>= q)
  nest_then n Stop S S' R p q right nest_p nest_q some = record {
    keeps = keeps_then Q opens n Stop S S' R p q right nest_p.keeps (λ a. (nest_q a).keeps) some;
    deep = deep_then opens n Stop S S' p q right nest_p.deep (λ a. (nest_q a).deep);
  }

  pub nest_map : {A B : Type 0} (n : ℕ) (Stop : Option T → Type 0) (S S' : List T → A → Type 0) (p : Reader T A) (g : A → B) → ReadsRule n Stop S S' p →
      Nest n Q opens S p → Nest n Q opens (Then S (λ a. Empty (g a))) (p >>= (λ a. pure (g a)))
  nest_map n Stop S S' p g right nest = nest_then n Stop S S' (λ a. Empty (g a)) p (λ a. pure (g a)) right nest (λ a. nest_pure n (Empty (g a)) (g a)) (λ held a. ([], g a, (refl, refl)))

  pub nest_alt : {A B : Type 0} (n : ℕ) (f : T → Option A) (S : A → List T → B → Type 0) (R : List T → B → Type 0) (q : A → Reader T B) (r : Reader T B) →
      ((a : A) → Nest (n - 1) Q opens (S a) (q a)) → Nest n Q opens R r → ((t : T) (a : A) → f t ≡ Some a → opens t ≡ true → Q × SomeOf (S a)) → Nest n Q opens (Or (TokenThen f S) R) (alt f q r)
  nest_alt n f S R q r nest_q nest_r some = record {
    keeps = keeps_alt Q opens n f S R q r (λ a. (nest_q a).keeps) nest_r.keeps some;
    deep = deep_alt opens n f q r (λ a. (nest_q a).deep) nest_r.deep;
  }

  -- by a token that opens nothing
  pub nest_quiet : {A B : Type 0} (n : ℕ) (f : T → Option A) (S : A → List T → B → Type 0) (R : List T → B → Type 0) (q : A → Reader T B) (r : Reader T B) →
      ((t : T) (a : A) → f t ≡ Some a → opens t ≡ true → ⊥) → ((a : A) → Nest (n - 1) Q opens (S a) (q a)) → Nest n Q opens R r → Nest n Q opens (Or (TokenThen f S) R) (alt f q r)
  nest_quiet n f S R q r quiet nest_q nest_r = nest_alt n f S R q r nest_q nest_r (λ t a takes is. absurd (quiet t a takes is))

  pub nest_bar : {A B : Type 0} (n : ℕ) (f : T → Option A) (R : List T → B → Type 0) (r : Reader T B) → ((t : T) (a : A) → f t ≡ Some a → opens t ≡ true) → Nest n Q opens R r → Nest n Q opens R (bar f r)
  nest_bar n f R r opening nest = record { keeps = keeps_bar Q opens n f R r nest.keeps; deep = deep_bar opens n f r opening nest.deep }

  pub nest_choose : {A : Type 0} (n : ℕ) (c : List T → Bool) (S R : List T → A → Type 0) (p r : Reader T A) → Nest n Q opens S p → Nest n Q opens R r → Nest n Q opens (Or S R) (choose c p r)
  nest_choose n c S R p r nest_p nest_r = record { keeps = keeps_choose Q opens n c S R p r nest_p.keeps nest_r.keeps; deep = deep_choose opens n c p r nest_p.deep nest_r.deep }

  -- a token that opens nothing, and then what follows it
  pub nest_led : {A B : Type 0} (n : ℕ) (f : T → Option A) (S : A → List T → B → Type 0) (q : A → Reader T B) →
      ((t : T) (a : A) → f t ≡ Some a → opens t ≡ true → ⊥) → ((a : A) → Nest n Q opens (S a) (q a)) → Nest n Q opens (TokenThen f S) (one f >>= q)
  nest_led {A} {B} n f S q quiet nest_q = record { keeps = keeps; deep = deep }
    where
      shorter : (us : List T) (t : T) (more : List T) (o : Option A) (u : T) → f u ≡ o → suc (length (us ++ t ∷ more)) ≤ n → opens t ≡ true →
          left_of (and_then (branch (paired o (us ++ t ∷ more)) pure (refuse (u ∷ (us ++ t ∷ more)))) q) ≤ length more → Q × IsViablePrefix (TokenThen f S) (u ∷ (us ++ t ∷ []))
      shorter us t more (Some a) u takes fits is le = let (held, goes) = (nest_q a).keeps us t more (omega arith) is le in (held, goes_led f S u a (us ++ t ∷ []) takes goes)
      shorter us t more None u takes fits is le = absurd (omega (arith, length-append us (t ∷ more)))

      first_at : (t : T) (more : List T) (o : Option A) → f t ≡ o → opens t ≡ true → left_of (and_then (branch (paired o more) pure (refuse (t ∷ more))) q) ≤ length more → Q × IsViablePrefix (TokenThen f S) (t ∷ [])
      first_at t more (Some a) takes is le = absurd (quiet t a takes is)
      first_at t more None takes is le = absurd (omega arith)

      keeps : Keeps n Q opens (TokenThen f S) (one f >>= q)
      keeps [] t more fits is le = first_at t more (f t) refl is (subst (λ o. left_of (and_then o q) ≤ length more) (led_one f t more) le)
      keeps (u ∷ us) t more fits is le = shorter us t more (f u) u refl fits is (subst (λ o. left_of (and_then o q) ≤ length more) (led_one f u (us ++ t ∷ more)) le)

      deep_at : (ts : List T) (k : ℕ) (o : Option A) (u : T) → suc (length ts) ≤ n → and_then (branch (paired o ts) pure (refuse (u ∷ ts))) q ≡ Err (Deep k) →
          (us : List T) × (t : T) × (rest : List T) × (u ∷ ts ≡ us ++ t ∷ rest) × (k ≡ suc (length rest)) × (opens t ≡ true)
      deep_at ts k (Some a) u fits e = front opens u ts k ((nest_q a).deep ts k (omega arith) e)
      deep_at ts k None u fits e = absurd cc

      deep : DeepOpens n opens (one f >>= q)
      deep [] k fits e = absurd (let both = sym (ap (λ o. and_then o q) (led_none f)) ∙ e in cc)
      deep (u ∷ ts) k fits e = deep_at ts k (f u) u fits (sym (ap (λ o. and_then o q) (led_one f u ts)) ∙ e)

  module _ {A B : Type 0} (Stop StopQ : Option T → Type 0) (f : T → Option A) (S S' : A → List T → B → Type 0) (q : A → Reader T B)
      (right_q : (n : ℕ) (a : A) → ReadsRule n StopQ (S a) (S' a) (q a)) (some_q : (a : A) → (us : List T) × (b : B) × S a us b)
      (ended : Stop None) (stops : (t : T) (a : A) → Stop (Some t) → f t ≡ Some a → ⊥)
      (ends : (x : Option T) → Stop x → StopQ x) (next : (t : T) (a : A) → f t ≡ Some a → StopQ (Some t))
      (quiet : (t : T) (a : A) → f t ≡ Some a → opens t ≡ true → ⊥) (nest_q : (n : ℕ) (a : A) → Nest n Q opens (S a) (q a)) where
    pub nest_many : (n : ℕ) → Nest n Q opens (Many f S) (many f q)
    nest_many n = record {
      keeps = keeps_many Q opens Stop StopQ f S S' q right_q some_q ended stops ends next (λ n a. (nest_q n a).keeps) (λ t a takes is. absurd (quiet t a takes is)) n;
      deep = deep_many opens Stop StopQ f S S' q right_q some_q ended stops ends next (λ n a. (nest_q n a).deep) n;
    }
