-- The laws of readers that try.
use Rattle.std.specs.Prelude.{◌≡◌, ℕ, zero, suc, ◌+◌, ◌≤◌, ◌==◌, if◌then◌else◌, Bool, true, false, cond, not, List, [], ◌∷◌, ◌++◌, length, Option, Some, None, Ok, Err, ◌⊎◌, refl}
use Rattle.std.proofs.Common.{sym, ◌∙◌, ap, subst, inl, inr, arith, length-append, append-nil}
use Rattle.std.proofs.lemmas.Bool.Decides.{Decides-eqb}
use Rattle.evo_combinators.specs.declared.Fault.TheVariants.{Grammar, Deep}
use Rattle.evo_combinators.specs.Reader.{Outcome, Reader, and_then, ◌>>=◌, pure}
use Rattle.evo_combinators.specs.Rule.{Empty, Or, Then, IsViablePrefix}
use Rattle.evo_combinators.specs.Guard.{starts, on, Run, run_from, run}
use Rattle.evo_combinators.specs.Attempt.{attempted, attempt, further, tries_from, tries}
use Rattle.evo_combinators.specs.Laws.{Begins, GrowsWithNesting, SameLookahead, ReadsRule, first, of_first}
use Rattle.evo_combinators.proofs.Laws.{SameLookahead-refl, right_ext, right_map, right_pure, right_stop, split_err}
use Rattle.evo_combinators.proofs.GuardLaws.{starts_is, right_on, which}
use Rattle.evo_combinators.proofs.RunLaws.{right_run}
use Rattle.evo_combinators.proofs.GrowsWithNesting.{deeper_then, same_refl}

-- the outcome of one token is that it is refused
abbrev is_refusal : {T A : Type 0} → Outcome T A → Bool
is_refusal (Ok x) = false
is_refusal (Err (Grammar k)) = k == 1
is_refusal (Err (Deep k)) = false

-- a token that a reader does not refuse
abbrev enters : {T A : Type 0} → Reader T A → T → Bool
enters p t = not (is_refusal (p (t ∷ [])))

refusal_is : {T A : Type 0} (o : Outcome T A) → not (is_refusal o) ≡ false → o ≡ Err (Grammar 1)
refusal_is (Ok x) e = absurd (cc)
refusal_is {T} {A} (Err (Grammar k)) e = one (k == 1) refl e
  where
    one : (b : Bool) → (k == 1) ≡ b → not b ≡ false → ◌≡◌ {A = Outcome T A} (Err (Grammar k)) (Err (Grammar 1))
    one true is e = ap (λ n. Err (Grammar n)) ((Decides-eqb k 1).0 is)
    one false is e = absurd (cc)
refusal_is (Err (Deep k)) e = absurd (cc)

kept : {T A : Type 0} (o : Outcome T A) (ts : List T) → (o ≡ Err (Grammar (length ts)) → ⊥) → attempted o ts ≡ and_then o (λ a. pure (Some a))
kept (Ok x) ts other = refl
kept {T} {A} (Err (Grammar k)) ts other = go (k == length ts) refl
  where
    go : (b : Bool) → (k == length ts) ≡ b → ◌≡◌ {A = Outcome T (Option A)} (attempted {T = T} {A = A} (Err (Grammar k)) ts) (Err (Grammar k))
    go true is = absurd (other (ap (λ n. Err (Grammar n)) ((Decides-eqb k (length ts)).0 is)))
    go false is = ap (λ b. if b then Ok (None, ts) else Err (Grammar k)) is
kept (Err (Deep k)) ts other = refl

pub attempted_none : {T A : Type 0} (ts : List T) → attempted {A = A} (Err (Grammar (length ts))) ts ≡ Ok (None, ts)
attempted_none ts = ap (λ b. if b then Ok (None, ts) else Err (Grammar (length ts))) ((Decides-eqb (length ts) (length ts)).1 refl)

first_same : {T : Type 0} (t u : T) (ts us rest vs : List T) → t ∷ ts ≡ us ++ rest → us ≡ u ∷ vs → u ≡ t
first_same t u ts us rest vs cut is = let both = sym (ap first (cut ∙ ap (λ x. x ++ rest) is)) in cc

module _ {T A : Type 0} (Stop : Option T → Type 0) (S W : List T → A → Type 0) (p : Reader T A)
    (right : (n : ℕ) → ReadsRule n Stop S W p) (some : (a : A) → S [] a → ⊥) where
  -- the first token is refused whatever follows
  at_first : (t : T) (us vs : List T) → p (t ∷ us) ≡ Err (Grammar (suc (length us))) → p (t ∷ vs) ≡ Err (Grammar (suc (length vs)))
  at_first t us vs e =
      let n = length (t ∷ us) + length (t ∷ vs) in
      let (us', rest, cut, goes, again) = (right n).refuses (t ∷ us) (suc (length us)) (omega arith) e in
      let here = again rest (subst (λ x. length x ≤ n) cut (omega arith)) (SameLookahead-refl rest) in
      let count : suc (length us) ≡ length rest = let both = sym e ∙ ap p cut ∙ here in cc in
      go us' rest cut count again
    where
      go : (us' rest : List T) → t ∷ us ≡ us' ++ rest → suc (length us) ≡ length rest →
          ((more : List T) → length (us' ++ more) ≤ length (t ∷ us) + length (t ∷ vs) → SameLookahead rest more → p (us' ++ more) ≡ Err (Grammar (length more))) →
          p (t ∷ vs) ≡ Err (Grammar (suc (length vs)))
      go [] rest cut count again = again (t ∷ vs) (omega arith) (inr (ap first cut))
      go (u ∷ us') rest cut count again = absurd (omega (arith, ap length cut, length-append us' rest))

  -- the end is refused
  at_end : p [] ≡ Err (Grammar 0)
  at_end = go (p []) refl
    where
      none : (us rest : List T) (a : A) → [] ≡ us ++ rest → S us a → ⊥
      none [] rest a cut s = some a s
      none (u ∷ us) rest a cut s = omega (arith, ap length cut)

      go : (o : Outcome T A) → p [] ≡ o → p [] ≡ Err (Grammar 0)
      go (Ok (a, rest)) e = let (us, cut, s, again) = (right 0).sound [] rest a (omega arith) e in absurd (none us rest a cut s)
      go (Err (Grammar k)) e =
          let (us, rest, cut, goes, again) = (right 0).refuses [] k (omega arith) e in
          let here = again rest (subst (λ x. length x ≤ 0) cut (omega arith)) (SameLookahead-refl rest) in
          let count : length rest ≡ 0 = omega (arith, ap length cut, length-append us rest) in
          ap p cut ∙ here ∙ ap (λ n. Err (Grammar n)) count
      go (Err (Deep k)) e =
          let (us, t, rest, cut, goes, opens, again) = (right 0).deepens [] k (omega arith) e in
          absurd (omega (arith, ap length cut, length-append us (t ∷ rest)))

  enters_no : (t : T) (us : List T) → enters p t ≡ false → p (t ∷ us) ≡ Err (Grammar (suc (length us)))
  enters_no t us is = at_first t [] us (refusal_is (p (t ∷ [])) is)

  enters_yes : (t : T) (us : List T) → enters p t ≡ true → p (t ∷ us) ≡ Err (Grammar (suc (length us))) → ⊥
  enters_yes t us is e = let bad = sym is ∙ ap (λ o. not (is_refusal o)) (at_first t us [] e) in cc

  -- a token with which a spelling begins is not refused
  enters_of : (t : T) (us : List T) (a : A) → S (t ∷ us) a → enters p t ≡ true
  enters_of t us a s = elim (which (enters p t)) [
    | inl is ↦ is
    | inr isnt ↦ absurd
        (let good = (right (length ((t ∷ us) ++ []))).complete (t ∷ us) [] a (omega arith) s (right 0).ended in
        let both = sym good ∙ ap p (append-nil (t ∷ us)) ∙ enters_no t us isnt in cc)
  ]

  -- a token that is not refused begins a spelling
  enters_begins : (P : T → Type 0) → Begins P W → (t : T) → enters p t ≡ true → P t
  enters_begins P begins t is = go (p (t ∷ [])) refl
    where
      refused : (us rest : List T) → t ∷ [] ≡ us ++ rest → p (us ++ rest) ≡ Err (Grammar (length rest)) → (us ≡ []) ⊎ IsViablePrefix W us → P t
      refused [] rest cut e goes = absurd (enters_yes t [] is (ap p cut ∙ e ∙ ap (λ x. Err (Grammar (length x))) (sym cut)))
      refused (u ∷ us) rest cut e (inl none) = absurd (cc)
      refused (u ∷ us) rest cut e (inr (more, a, w)) =
          let (t', vs, cut', h) = begins ((u ∷ us) ++ more) a w in
          let same : u ≡ t = first_same t u [] (u ∷ us) rest us cut refl in
          let same' : t' ≡ u = first_same u t' (us ++ more) ((u ∷ us) ++ more) [] vs (sym (append-nil ((u ∷ us) ++ more))) cut' in
          subst P (same' ∙ same) h

      deep : (us rest : List T) (t' : T) → t ∷ [] ≡ us ++ t' ∷ rest → IsViablePrefix W (us ++ t' ∷ []) → P t
      deep [] rest t' cut (more, a, w) =
          let (u, vs, cut', h) = begins (t' ∷ more) a w in
          let same : u ≡ t' = first_same t' u more (t' ∷ more) [] vs (sym (append-nil (t' ∷ more))) cut' in
          let same' : t' ≡ t = first_same t t' [] (t' ∷ rest) [] rest (cut ∙ sym (append-nil (t' ∷ rest))) refl in
          subst P (same ∙ same') h
      deep (v ∷ us) rest t' cut (more, a, w) =
          let all = ((v ∷ us) ++ t' ∷ []) ++ more in
          let (u, vs, cut', h) = begins all a w in
          let same : u ≡ v = first_same v u ((us ++ t' ∷ []) ++ more) all [] vs (sym (append-nil all)) cut' in
          let same' : v ≡ t = first_same t v [] (v ∷ us) (t' ∷ rest) us cut refl in
          subst P (same ∙ same') h

      go : (o : Outcome T A) → p (t ∷ []) ≡ o → P t
      go (Ok (a, rest)) e =
          let (us, cut, s, again) = (right 1).sound (t ∷ []) rest a (omega arith) e in
          let (u, vs, cut', h) = begins us a ((right 1).wider us a s) in
          subst P (first_same t u [] us rest vs cut cut') h
      go (Err (Grammar k)) e =
          let (us, rest, cut, goes, again) = (right 1).refuses (t ∷ []) k (omega arith) e in
          refused us rest cut (again rest (subst (λ x. length x ≤ 1) cut (omega arith)) (SameLookahead-refl rest)) goes
      go (Err (Deep k)) e =
          let (us, t', rest, cut, goes, opens, again) = (right 1).deepens (t ∷ []) k (omega arith) e in deep us rest t' cut opens

  attempt_yes : (t : T) (us : List T) → enters p t ≡ true → attempt p (t ∷ us) ≡ and_then (p (t ∷ us)) (λ a. pure (Some a))
  attempt_yes t us is = kept (p (t ∷ us)) (t ∷ us) (enters_yes t us is)

  attempt_no : (t : T) (us : List T) → enters p t ≡ false → attempt p (t ∷ us) ≡ Ok (None, t ∷ us)
  attempt_no t us is = ap (λ o. attempted o (t ∷ us)) (enters_no t us is) ∙ attempted_none (t ∷ us)

  attempt_end : attempt p [] ≡ Ok (None, [])
  attempt_end = ap (λ o. attempted o []) at_end ∙ attempted_none []

  abbrev Maybe : (List T → A → Type 0) → List T → Option A → Type 0
  Maybe R = Or (Then R (λ a. Empty (Some a))) (Empty None)

  module _ (End : Option T → Type 0) (P : T → Type 0) (begins : Begins P W) (ended : End None)
      (ends : (x : Option T) → End x → Stop x) (shut : (t : T) → End (Some t) → P t → ⊥) where
    attempt_is : (ts : List T) → attempt p ts ≡ on (enters p) (p >>= (λ a. pure (Some a))) (pure None) ts
    attempt_is [] = attempt_end ∙ sym (ap (λ b. cond b ((p >>= (λ a. pure (Some a))) []) (Ok (None, []))) (starts_is (enters p) []))
    attempt_is (t ∷ us) = go (enters p t) refl
      where
        go : (b : Bool) → enters p t ≡ b → attempt p (t ∷ us) ≡ on (enters p) (p >>= (λ a. pure (Some a))) (pure None) (t ∷ us)
        go true is = attempt_yes t us is ∙ sym (ap (λ b. cond b ((p >>= (λ a. pure (Some a))) (t ∷ us)) (Ok (None, t ∷ us))) (starts_is (enters p) (t ∷ us) ∙ is))
        go false is = attempt_no t us is ∙ sym (ap (λ b. cond b ((p >>= (λ a. pure (Some a))) (t ∷ us)) (Ok (None, t ∷ us))) (starts_is (enters p) (t ∷ us) ∙ is))

    stops : (x : Option T) → End x → of_first (enters p) x ≡ false
    stops None stop = refl
    stops (Some t) stop = elim (which (enters p t)) [ inl is ↦ absurd (shut t stop (enters_begins P begins t is)) | inr isnt ↦ isnt ]

    nonempty : (us : List T) (a : A) → S us a → (t : T) × (vs : List T) × (us ≡ t ∷ vs) × (enters p t ≡ true)
    nonempty [] a s = absurd (some a s)
    nonempty (t ∷ us) a s = (t, us, refl, enters_of t us a s)

    pub right_attempt : (n : ℕ) → ReadsRule n End (Maybe S) (Maybe W) (attempt p)
    right_attempt n =
        right_ext n End (Maybe S) (Maybe W) (on (enters p) (p >>= (λ a. pure (Some a))) (pure None)) (attempt p) (λ ts fits. attempt_is ts)
        (right_on n End (enters p) (Then S (λ a. Empty (Some a))) (Then W (λ a. Empty (Some a))) (Empty None) (Empty None) (p >>= (λ a. pure (Some a))) (pure None)
        (right_stop n Stop End _ _ _ ends ended (right_map n Stop S W p (λ a. Some a) (right n))) (right_pure n End ended None)
        (λ us b (a, vs, ws, cut, s, r). let (t, xs, cut', is) = nonempty vs a s in (t, xs ++ ws, cut ∙ ap (λ x. x ++ ws) cut', is))
        (λ t us fits is bad. elim (split_err (p (t ∷ us)) (λ a. pure (Some a)) (Grammar (suc (length us))) bad) [
          | inl here ↦ enters_yes t us is here
          | inr (a, mid, e, bad') ↦ cc
        ])
        (λ us rest b (e, e') stop. ap (λ x. starts (enters p) (x ++ rest)) e ∙ starts_is (enters p) rest ∙ stops (first rest) stop))

-- ---- any number

module _ {T B St : Type 0} (Stop StopQ : Option T → Type 0) (S S' : St → List T → B → Type 0) (q : St → Reader T B) (next : St → B → St) (P : St → T → Type 0)
    (right_q : (n : ℕ) (s : St) → ReadsRule n StopQ (S s) (S' s) (q s)) (some : (s : St) (b : B) → S s [] b → ⊥)
    (begins : (s : St) → Begins (P s) (S' s)) (ended : Stop None) (shut : (s : St) (t : T) → Stop (Some t) → P s t → ⊥)
    (ends : (x : Option T) → Stop x → StopQ x) (follow : (s : St) (b : B) (t : T) → P (next s b) t → StopQ (Some t)) where
  abbrev G : St → T → Bool
  G s = enters (q s)

  abbrev Later : ℕ → St → B → Reader T (List B)
  Later n s b = run_from G q next n (next s b) >>= (λ bs. pure (b ∷ bs))

  abbrev Tried : ℕ → St → B → Reader T (List B)
  Tried n s b = tries_from q next n (next s b) >>= (λ bs. pure (b ∷ bs))

  tries_is : (n : ℕ) (s : St) (ts : List T) → tries_from q next n s ts ≡ run_from G q next n s ts
  tries_is zero s ts = refl
  tries_is (suc n) s [] =
      ap (λ o. and_then o (further (Tried n s))) (attempt_end StopQ (S s) (S' s) (q s) (λ n. right_q n s) (some s))
      ∙ sym (ap (λ c. cond c ((q s >>= Later n s) []) (Ok ([], []))) (starts_is (G s) []))
  tries_is (suc n) s (t ∷ us) = go (G s t) refl (λ b rest. tries_is n (next s b) rest)
    where
      same_then : ((b : B) (rest : List T) → tries_from q next n (next s b) rest ≡ run_from G q next n (next s b) rest) → (o : Outcome T B) →
          and_then (and_then o (λ a. pure (Some a))) (further (Tried n s)) ≡ and_then o (Later n s)
      same_then later (Ok (b, rest)) = ap (λ o. and_then o (λ bs. pure (b ∷ bs))) (later b rest)
      same_then later (Err d) = refl

      go : (b : Bool) → G s t ≡ b → ((b : B) (rest : List T) → tries_from q next n (next s b) rest ≡ run_from G q next n (next s b) rest) →
          tries_from q next (suc n) s (t ∷ us) ≡ run_from G q next (suc n) s (t ∷ us)
      go true is later =
          ap (λ o. and_then o (further (Tried n s))) (attempt_yes StopQ (S s) (S' s) (q s) (λ n. right_q n s) (some s) t us is)
          ∙ same_then later (q s (t ∷ us))
          ∙ sym (ap (λ c. cond c ((q s >>= Later n s) (t ∷ us)) (Ok ([], t ∷ us))) (starts_is (G s) (t ∷ us) ∙ is))
      go false is later =
          ap (λ o. and_then o (further (Tried n s))) (attempt_no StopQ (S s) (S' s) (q s) (λ n. right_q n s) (some s) t us is)
          ∙ sym (ap (λ c. cond c ((q s >>= Later n s) (t ∷ us)) (Ok ([], t ∷ us))) (starts_is (G s) (t ∷ us) ∙ is))

  tries_same : (s : St) (ts : List T) → tries q next s ts ≡ run G q next s ts
  unfolding tries run
  tries_same s ts = tries_is (length ts) s ts

  abbrev enters_at : (s : St) (t : T) → G s t ≡ true → P s t
  enters_at s t is = enters_begins StopQ (S s) (S' s) (q s) (λ n. right_q n s) (some s) (P s) (begins s) t is

  begun : (s : St) → Begins (λ t. G s t ≡ true) (S s)
  begun s us b r = go us b r
    where
      go : (us : List T) (b : B) → S s us b → (t : T) × (vs : List T) × (us ≡ t ∷ vs) × (G s t ≡ true)
      go [] b r = absurd (some s b r)
      go (t ∷ us) b r = (t, us, refl, enters_of StopQ (S s) (S' s) (q s) (λ n. right_q n s) (some s) t us b r)

  entered : (s : St) (t : T) (us : List T) → G s t ≡ true → q s (t ∷ us) ≡ Err (Grammar (suc (length us))) → ⊥
  entered s t us is = enters_yes StopQ (S s) (S' s) (q s) (λ n. right_q n s) (some s) t us is

  stops_at : (s : St) (x : Option T) → Stop x → of_first (G s) x ≡ false
  stops_at s None stop = refl
  stops_at s (Some t) stop = elim (which (G s t)) [ inl is ↦ absurd (shut s t stop (enters_at s t is)) | inr isnt ↦ isnt ]

  pub right_tries : (n : ℕ) (s : St) → ReadsRule n Stop (Run S next s) (Run S' next s) (tries q next s)
  right_tries n s =
      right_ext n Stop (Run S next s) (Run S' next s) (run G q next s) (tries q next s) (λ ts fits. tries_same s ts)
      (right_run Stop StopQ G S S' q next right_q begun entered ended stops_at ends (λ s b t is. follow s b t (enters_at (next s b) t is)) n s)

-- ---- where more nesting is allowed

pub deeper_attempt : {T A : Type 0} (p p' : Reader T A) → GrowsWithNesting p p' → GrowsWithNesting (attempt p) (attempt p')
deeper_attempt p p' deeper ts = elim (deeper ts) [
  | inl e ↦ inl (ap (λ o. attempted o ts) e)
  | inr (k, e) ↦ inr (k, ap (λ o. attempted o ts) e)
]

deeper_further : {T B : Type 0} (later later' : B → Reader T (List B)) → ((b : B) → GrowsWithNesting (later b) (later' b)) → (o : Option B) → GrowsWithNesting (further later o) (further later' o)
deeper_further later later' deeper None = same_refl (pure [])
deeper_further later later' deeper (Some b) = deeper b

module _ {T B St : Type 0} (q q' : St → Reader T B) (next : St → B → St) (dq : (s : St) → GrowsWithNesting (q s) (q' s)) where
  deeper_from : (n : ℕ) (s : St) → GrowsWithNesting (tries_from q next n s) (tries_from q' next n s)
  deeper_from zero s = same_refl (pure [])
  deeper_from (suc n) s = deeper_then (attempt (q s)) (attempt (q' s)) _ _ (deeper_attempt (q s) (q' s) (dq s))
      (deeper_further _ _ (λ b. deeper_then (tries_from q next n (next s b)) (tries_from q' next n (next s b)) _ _ (deeper_from n (next s b)) (λ bs. same_refl (pure (b ∷ bs)))))

  pub deeper_tries : (s : St) → GrowsWithNesting (tries q next s) (tries q' next s)
  unfolding tries
  deeper_tries s ts = deeper_from (length ts) s ts
