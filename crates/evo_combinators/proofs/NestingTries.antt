-- Which tokens open a nesting, through readers that try, look ahead or make something of what they read.
use Rattle.std.specs.Prelude.{◌≡◌, ℕ, zero, suc, ◌==◌, if◌then◌else◌, ◌≤◌, Bool, true, false, cond, List, [], ◌∷◌, ◌++◌, length, Option, Some, None, Ok, Err, refl}
use Rattle.std.proofs.Common.{sym, ◌∙◌, ap, subst, inl, inr, arith, append-nil, length-append}
use Rattle.evo_combinators.specs.declared.Fault.TheVariants.{Grammar, Deep}
use Rattle.evo_combinators.specs.Rule.{Empty, Or, Then, IsViablePrefix, SomeOf}
use Rattle.evo_combinators.specs.Reader.{Outcome, Reader, and_then, ◌>>=◌, pure}
use Rattle.evo_combinators.specs.Guard.{starts, ahead, On, Run}
use Rattle.evo_combinators.specs.Attempt.{attempted, attempt, further, tries_from, tries}
use Rattle.evo_combinators.specs.Laws.{Begins, ReadsRule}
use Rattle.evo_combinators.specs.Nesting.{left_of}
use Rattle.evo_combinators.proofs.Laws.{of_map}
use Rattle.evo_combinators.proofs.GuardLaws.{starts_is}
use Rattle.evo_combinators.proofs.Attempts.{right_attempt}
use Rattle.evo_combinators.proofs.Nesting.{Nest, nest_pure, nest_then, nest_by}

-- an outcome that something is made of
left_made : {T A B : Type 0} (g : A → B) (o : Outcome T A) → left_of (and_then o (λ a. pure (g a))) ≡ left_of o
left_made g (Ok x) = refl
left_made g (Err e) = refl

deep_made : {T A B : Type 0} (g : A → B) (o : Outcome T A) (k : ℕ) → and_then o (λ a. pure (g a)) ≡ Err (Deep k) → o ≡ Err (Deep k)
deep_made g (Ok x) k e = absurd cc
deep_made g (Err d) k e = let same : d ≡ Deep k = cc in ap (λ x. Err x) same

goes_made : {T A B : Type 0} (S : List T → A → Type 0) (g : A → B) (us : List T) → IsViablePrefix S us → IsViablePrefix (Then S (λ a. Empty (g a))) us
goes_made S g us (more, a, s) = (more, g a, (a, us ++ more, [], sym (append-nil (us ++ more)), s, (refl, refl)))

-- what was tried stands no further, unless nothing was read
left_attempted : {T A : Type 0} (o : Outcome T A) (ts : List T) (m : ℕ) → left_of (attempted o ts) ≤ m → suc m ≤ length ts → left_of o ≤ m
left_attempted (Ok x) ts m le short = le
left_attempted (Err (Deep k)) ts m le short = le
left_attempted {T} {A} (Err (Grammar k)) ts m le short = go (k == length ts) refl
  where
    go : (b : Bool) → (k == length ts) ≡ b → k ≤ m
    go true is =
        let e : ◌≡◌ {A = Outcome T (Option A)} (attempted {A = A} (Err (Grammar k)) ts) (Ok (None, ts)) = ap (λ b. if b then Ok (None, ts) else Err (Grammar k)) is in
        absurd (omega (arith, subst (λ (o : Outcome T (Option A)). left_of o ≤ m) e le))
    go false is =
        let e : ◌≡◌ {A = Outcome T (Option A)} (attempted {A = A} (Err (Grammar k)) ts) (Err (Grammar k)) = ap (λ b. if b then Ok (None, ts) else Err (Grammar k)) is in
        subst (λ (o : Outcome T (Option A)). left_of o ≤ m) e le

deep_attempted : {T A : Type 0} (o : Outcome T A) (ts : List T) (k : ℕ) → attempted o ts ≡ Err (Deep k) → o ≡ Err (Deep k)
deep_attempted (Ok x) ts k e = absurd cc
deep_attempted (Err (Deep j)) ts k e = let same : j ≡ k = cc in ap (λ x. Err (Deep x)) same
deep_attempted {T} {A} (Err (Grammar j)) ts k e = absurd (go (j == length ts) e)
  where
    go : (b : Bool) → ◌≡◌ {A = Outcome T (Option A)} (if b then Ok (None, ts) else Err (Grammar j)) (Err (Deep k)) → ⊥
    go true e = cc
    go false e = cc

module _ {T : Type 0} (Q : Type 0) (opens : T → Bool) where
  pub nest_made : {A B : Type 0} (n : ℕ) (S : List T → A → Type 0) (p : Reader T A) (g : A → B) → Nest n Q opens S p → Nest n Q opens (Then S (λ a. Empty (g a))) (p >>= (λ a. pure (g a)))
  nest_made n S p g nest = record {
    keeps = λ us t more fits is le.
        let (held, goes) = nest.keeps us t more fits is (subst (λ k. k ≤ length more) (left_made g (p (us ++ t ∷ more))) le) in
        (held, goes_made S g (us ++ t ∷ []) goes);
    deep = λ ts k fits e. nest.deep ts k fits (deep_made g (p ts) k e);
  }

  abbrev Maybe : {A : Type 0} → (List T → A → Type 0) → List T → Option A → Type 0
  Maybe S = Or (Then S (λ a. Empty (Some a))) (Empty None)

  pub nest_attempt : {A : Type 0} (n : ℕ) (S : List T → A → Type 0) (p : Reader T A) → Nest n Q opens S p → Nest n Q opens (Maybe S) (attempt p)
  nest_attempt {A} n S p nest = record {
    keeps = λ us t more fits is le.
        let (held, (w, a, s)) = nest.keeps us t more fits is (left_attempted (p (us ++ t ∷ more)) (us ++ t ∷ more) (length more) le (omega (arith, length-append us (t ∷ more)))) in
        (held, (w, Some a, inl (a, (us ++ t ∷ []) ++ w, [], sym (append-nil ((us ++ t ∷ []) ++ w)), s, (refl, refl))));
    deep = λ ts k fits e. nest.deep ts k fits (deep_attempted (p ts) ts k e);
  }

  -- a look at the first token
  module _ {A : Type 0} (n : ℕ) (g : T → Bool) (S : List T → A → Type 0) (p : Reader T A) (nest : Nest n Q opens S p) where
    looks : (ts : List T) (b : Bool) → starts g ts ≡ b → ◌≡◌ {A = Outcome T A} ((ahead g >>= (λ _. p)) ts) (cond b (p ts) (Err (Grammar (length ts))))
    unfolding ahead
    looks ts true is = ap (λ b. and_then (cond b (Ok (tt, ts)) (Err (Grammar (length ts)))) (λ _. p)) is
    looks ts false is = ap (λ b. and_then (cond b (Ok (tt, ts)) (Err (Grammar (length ts)))) (λ _. p)) is

    begun : (us w : List T) (t : T) (more : List T) (a : A) → starts g (us ++ t ∷ more) ≡ true → S ((us ++ t ∷ []) ++ w) a → On g S ((us ++ t ∷ []) ++ w) a
    begun [] w t more a is s = (t, w, refl, sym (starts_is g (t ∷ more)) ∙ is, s)
    begun (u ∷ us) w t more a is s = (u, (us ++ t ∷ []) ++ w, refl, sym (starts_is g (u ∷ (us ++ t ∷ more))) ∙ is, s)

    pub nest_ahead : Nest n Q opens (On g S) (ahead g >>= (λ _. p))
    nest_ahead = record { keeps = λ us t more fits is le. keeps us t more fits is le (starts g (us ++ t ∷ more)) refl; deep = λ ts k fits e. deep ts k fits e (starts g ts) refl }
      where
        keeps : (us : List T) (t : T) (more : List T) → length (us ++ t ∷ more) ≤ n → opens t ≡ true → left_of ((ahead g >>= (λ _. p)) (us ++ t ∷ more)) ≤ length more →
            (b : Bool) → starts g (us ++ t ∷ more) ≡ b → Q × IsViablePrefix (On g S) (us ++ t ∷ [])
        keeps us t more fits is le true begins =
            let (held, (w, a, s)) = nest.keeps us t more fits is (subst (λ o. left_of o ≤ length more) (looks (us ++ t ∷ more) true begins) le) in
            (held, (w, a, begun us w t more a begins s))
        keeps us t more fits is le false begins =
            absurd (omega (arith, length-append us (t ∷ more), subst (λ o. left_of o ≤ length more) (looks (us ++ t ∷ more) false begins) le))

        deep : (ts : List T) (k : ℕ) → length ts ≤ n → (ahead g >>= (λ _. p)) ts ≡ Err (Deep k) → (b : Bool) → starts g ts ≡ b →
            (us : List T) × (t : T) × (rest : List T) × (ts ≡ us ++ t ∷ rest) × (k ≡ suc (length rest)) × (opens t ≡ true)
        deep ts k fits e true begins = nest.deep ts k fits (sym (looks ts true begins) ∙ e)
        deep ts k fits e false begins = absurd (let both = sym (looks ts false begins) ∙ e in cc)

  -- any number
  module _ {B St : Type 0} (StopQ : Option T → Type 0) (S S' : St → List T → B → Type 0) (q : St → Reader T B) (next : St → B → St) (P : St → T → Type 0)
      (right_q : (n : ℕ) (s : St) → ReadsRule n StopQ (S s) (S' s) (q s)) (some : (s : St) (b : B) → S s [] b → ⊥)
      (begins : (s : St) → Begins (P s) (S' s)) (nest_q : (n : ℕ) (s : St) → Nest n Q opens (S s) (q s)) where
    -- one turn, as the parts have it
    abbrev More : (St → List T → B → Type 0) → St → Option B → List T → List B → Type 0
    More R s None = Empty []
    More R s (Some b) = Then (Run R next (next s b)) (λ bs. Empty (b ∷ bs))

    to_run : (s : St) (us : List T) (bs : List B) → Then (Maybe (S s)) (More S s) us bs → Run S next s us bs
    to_run s us bs (o, vs, ws, cut, inl (b, xs, ys, cut', r, (none, is)), m) = behind o is m
      where
        behind : (o : Option B) → o ≡ Some b → More S s o ws bs → Run S next s us bs
        behind None is m = absurd cc
        behind (Some c) is m =
            let same : c ≡ b = cc in
            let (bs', m', e) = of_map (Run S next (next s c)) (λ bs. c ∷ bs) ws bs m in
            subst (Run S next s us) (sym e) (xs, ws, cut ∙ ap (λ x. x ++ ws) (cut' ∙ ap (λ x. xs ++ x) none ∙ append-nil xs), subst (λ x. S s xs x) (sym same) r, m')
    to_run s us bs (o, vs, ws, cut, inr (none, is), m) = behind o is m
      where
        behind : (o : Option B) → o ≡ None → More S s o ws bs → Run S next s us bs
        behind None is (none', e) = subst (Run S next s us) (sym e) (cut ∙ ap (λ x. x ++ ws) none ∙ none')
        behind (Some c) is m = absurd cc

    End : Option T → Type 0
    End x = x ≡ None

    tried : (n : ℕ) (s : St) → ReadsRule n End (Maybe (S s)) (Maybe (S' s)) (attempt (q s))
    unfolding End
    tried n s = right_attempt StopQ (S s) (S' s) (q s) (λ n. right_q n s) (some s) End (P s) (begins s) refl
        (λ x e. subst StopQ (sym e) (right_q 0 s).ended) (λ t e h. cc) n

    nest_from : (m n : ℕ) (s : St) → Nest n Q opens (Run S next s) (tries_from q next m s)
    nest_from zero n s = nest_pure Q opens n (Run S next s) []
    nest_from (suc m) n s = nest_by Q opens n (Then (Maybe (S s)) (More S s)) (Run S next s) _ (to_run s)
        (nest_then Q opens n End (Maybe (S s)) (Maybe (S' s)) (More S s) (attempt (q s)) _ (tried n s) (nest_attempt n (S s) (q s) (nest_q n s))
        (nest_further n s (λ b. tries_from q next m (next s b) >>= (λ bs. pure (b ∷ bs))) (λ b. nest_made n (Run S next (next s b)) (tries_from q next m (next s b)) (λ bs. b ∷ bs) (nest_from m n (next s b)))) (λ held o. some_more s o))
      where
        nest_further : (n : ℕ) (s : St) (later : B → Reader T (List B)) → ((b : B) → Nest n Q opens (More S s (Some b)) (later b)) → (o : Option B) → Nest n Q opens (More S s o) (further later o)
        nest_further n s later nests None = nest_pure Q opens n (More S s None) []
        nest_further n s later nests (Some b) = nests b

        some_more : (s : St) (o : Option B) → SomeOf (More S s o)
        some_more s None = ([], [], (refl, refl))
        some_more s (Some b) = ([], b ∷ [], ([], [], [], refl, refl, (refl, refl)))

    pub nest_tries : (n : ℕ) (s : St) → Nest n Q opens (Run S next s) (tries q next s)
    unfolding tries
    nest_tries n s = record {
      keeps = λ us t more fits is le. (nest_from (length (us ++ t ∷ more)) n s).keeps us t more fits is le;
      deep = λ ts k fits e. (nest_from (length ts) n s).deep ts k fits e;
    }
