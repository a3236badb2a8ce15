-- That a reader reads a rule: what each part keeps.
use Rattle.std.specs.Prelude.{◌≡◌, ℕ, zero, suc, ◌-◌, ◌≤◌, List, [], ◌∷◌, ◌++◌, length, Option, Some, None, Result, Ok, Err, ◌⊎◌, refl}
use Rattle.std.proofs.Common.{sym, ◌∙◌, ap, subst, inl, inr, arith, length-append, append_assoc, append-nil}
use Rattle.evo_combinators.specs.declared.Fault.{Fault}
use Rattle.evo_combinators.specs.declared.Fault.TheVariants.{Grammar, Deep}
use Rattle.evo_combinators.specs.Reader.{Outcome, Reader, and_then, ◌>>=◌, pure, refuse, paired, lead, branch, alt, barred, bar, many_from, many}
use Rattle.evo_combinators.specs.Rule.{Empty, Fail, TokenThen, Or, Then, Many, IsViablePrefix}
use Rattle.evo_combinators.specs.Laws.{Begins, SameLookahead, ReadsRule, Skips, first}

pub SameLookahead-append : {T : Type 0} (us rest more : List T) → SameLookahead rest more → SameLookahead (us ++ rest) (us ++ more)
SameLookahead-append [] rest more like = like
SameLookahead-append (u ∷ us) rest more like = inr refl

pub SameLookahead-refl : {T : Type 0} (ts : List T) → SameLookahead ts ts
SameLookahead-refl ts = inr refl

pub ok_parts : {T A : Type 0} {a b : A} {x y : List T} → ◌≡◌ {A = Result (A × List T) Fault} (Ok (a, x)) (Ok (b, y)) → (a ≡ b) × (x ≡ y)
ok_parts {T} {A} {a} {b} {x} {y} e = let same : ◌≡◌ {A = A × List T} (a, x) (b, y) = cc in (ap (λ p. p.0) same, ap (λ p. p.1) same)

pub ok_both : {T A : Type 0} {a b : A} {x y : List T} → a ≡ b → x ≡ y → ◌≡◌ {A = Result (A × List T) Fault} (Ok (a, x)) (Ok (b, y))
ok_both p q = cc

pub right_pure : {T A : Type 0} (n : ℕ) (Stop : Option T → Type 0) → Stop None → (a : A) → ReadsRule n Stop (Empty a) (Empty a) (pure a)
right_pure n Stop ended a = record {
  wider = λ us b s. s;
  ended = ended;
  sound = λ ts rest b fits e. let s = ok_parts e in ([], s.1, (refl, sym s.0), λ more fits like. ok_both s.0 refl);
  complete = λ us rest b fits s stop. ok_both (sym s.1) (ap (λ x. x ++ rest) s.0);
  refuses = λ ts k fits e. absurd (cc);
  deepens = λ ts k fits e. absurd (cc);
}

pub right_nothing : {T A : Type 0} (n : ℕ) (Stop : Option T → Type 0) → Stop None → ReadsRule {A = A} n Stop Fail Fail refuse
right_nothing n Stop ended = record {
  wider = λ us b s. s;
  ended = ended;
  sound = λ ts rest b fits e. absurd (cc);
  complete = λ us rest b fits s stop. absurd s;
  refuses = λ ts k fits e. ([], ts, refl, inl refl, λ more fits like. refl);
  deepens = λ ts k fits e. absurd (cc);
}

-- ---- one after the other

-- what a call before gave
pub split : {T A B : Type 0} (o : Outcome T A) (f : A → Reader T B) (b : B) (rest : List T) → and_then o f ≡ Ok (b, rest) →
    (a : A) × (mid : List T) × (o ≡ Ok (a, mid)) × (f a mid ≡ Ok (b, rest))
split (Ok x) f b rest e = (x.0, x.1, refl, e)
split (Err d) f b rest e = absurd (cc)

pub split_err : {T A B : Type 0} (o : Outcome T A) (f : A → Reader T B) (d : Fault) → and_then o f ≡ Err d →
    (o ≡ Err d) ⊎ ((a : A) × (mid : List T) × (o ≡ Ok (a, mid)) × (f a mid ≡ Err d))
split_err (Ok x) f d e = inr (x.0, x.1, refl, e)
split_err (Err c) f d e = let same : c ≡ d = cc in inl (ap (λ x. Err x) same)

goes_first : {T A B : Type 0} (S : List T → A → Type 0) (R : A → List T → B → Type 0) → ((a : A) → (vs : List T) × (b : B) × R a vs b) → (us : List T) → IsViablePrefix S us → IsViablePrefix (Then S R) us
goes_first S R some us g =
    let r = some g.1 in
    (g.0 ++ r.0, r.1, (g.1, us ++ g.0, r.0, sym (append_assoc us g.0 r.0), g.2, r.2))

goes_second : {T A B : Type 0} (S : List T → A → Type 0) (R : A → List T → B → Type 0) (us vs : List T) (a : A) → S us a → IsViablePrefix (R a) vs → IsViablePrefix (Then S R) (us ++ vs)
goes_second S R us vs a s g = (g.0, g.1, (a, us, vs ++ g.0, append_assoc us vs g.0, s, g.2))

module _ {T A B : Type 0} (n m : ℕ) (StopS StopR : Option T → Type 0) (S S' : List T → A → Type 0) (R R' : A → List T → B → Type 0)
    (p : Reader T A) (q : A → Reader T B)
    (right_p : ReadsRule n StopS S S' p) (right_q : (a : A) → ReadsRule m StopR (R a) (R' a) (q a))
    (shorter : (us vs : List T) (a : A) → S us a → length (us ++ vs) ≤ n → length vs ≤ m)
    (follow : (a : A) (vs rest : List T) (b : B) → R a vs b → StopR (first rest) → StopS (first (vs ++ rest)))
    (some' : (a : A) → (vs : List T) × (b : B) × R' a vs b) (ended : StopR None) where
  step : (us more : List T) (a : A) → p (us ++ more) ≡ Ok (a, more) → ◌≡◌ {A = Outcome T B} ((p >>= q) (us ++ more)) (q a more)
  step us more a e = ap (λ o. and_then o q) e

  then_sound : (ts rest : List T) (b : B) → length ts ≤ n → ◌≡◌ {A = Outcome T B} ((p >>= q) ts) (Ok (b, rest)) →
      (us : List T) × (ts ≡ us ++ rest) × Then S R us b × ((more : List T) → length (us ++ more) ≤ n → SameLookahead rest more → (p >>= q) (us ++ more) ≡ Ok (b, more))
  then_sound ts rest b fits e =
      let (a, mid, ep, eq) = split (p ts) q b rest e in
      let (us, cut, spells, again) = right_p.sound ts mid a fits ep in
      let fits' = shorter us mid a spells (subst (λ x. length x ≤ n) cut fits) in
      let (vs, cut', spells', again') = (right_q a).sound mid rest b fits' eq in (
        us ++ vs,
        cut ∙ ap (λ x. us ++ x) cut' ∙ sym (append_assoc us vs rest),
        (a, us, vs, refl, spells, spells'),
        λ more all like.
            let all' : length (us ++ (vs ++ more)) ≤ n = subst (λ x. length x ≤ n) (append_assoc us vs more) all in
            let like' : SameLookahead mid (vs ++ more) = subst (λ x. SameLookahead x (vs ++ more)) (sym cut') (SameLookahead-append vs rest more like) in
            ap (p >>= q) (append_assoc us vs more) ∙ step us (vs ++ more) a (again (vs ++ more) all' like') ∙ again' more (shorter us (vs ++ more) a spells all') like,
      )

  then_complete : (us rest : List T) (b : B) → length (us ++ rest) ≤ n → Then S R us b → StopR (first rest) → ◌≡◌ {A = Outcome T B} ((p >>= q) (us ++ rest)) (Ok (b, rest))
  then_complete us rest b fits (a, vs, ws, cut, spells, spells') stop =
      let whole : us ++ rest ≡ vs ++ (ws ++ rest) = ap (λ x. x ++ rest) cut ∙ append_assoc vs ws rest in
      let fits' : length (vs ++ (ws ++ rest)) ≤ n = subst (λ x. length x ≤ n) whole fits in
      ap (p >>= q) whole ∙ step vs (ws ++ rest) a (right_p.complete vs (ws ++ rest) a fits' spells (follow a ws rest b spells' stop))
      ∙ (right_q a).complete ws rest b (shorter vs (ws ++ rest) a spells fits') spells' stop

  wide : (us : List T) (b : B) → Then S R us b → Then S' R' us b
  wide us b (a, vs, ws, cut, s, r) = (a, vs, ws, cut, right_p.wider vs a s, (right_q a).wider ws b r)

  fails : (us more : List T) (d : Fault) → p (us ++ more) ≡ Err d → ◌≡◌ {A = Outcome T B} ((p >>= q) (us ++ more)) (Err d)
  fails us more d e = ap (λ o. and_then o q) e

  fault : List T → Fault → Type 0
  fault ts d = ◌≡◌ {A = Outcome T B} ((p >>= q) ts) (Err d)

  refused_first : (us : List T) → (us ≡ []) ⊎ IsViablePrefix S' us → (us ≡ []) ⊎ IsViablePrefix (Then S' R') us
  refused_first us (inl e) = inl e
  refused_first us (inr g) = inr (goes_first S' R' some' us g)

  refused_second : (us vs : List T) (a : A) → S us a → (vs ≡ []) ⊎ IsViablePrefix (R' a) vs → IsViablePrefix (Then S' R') (us ++ vs)
  refused_second us vs a s (inl e) = let r = some' a in
      goes_second S' R' us vs a (right_p.wider us a s) (r.0, r.1, subst (λ x. R' a (x ++ r.0) r.1) (sym e) r.2)
  refused_second us vs a s (inr g) = goes_second S' R' us vs a (right_p.wider us a s) g

  then_refuses : (ts : List T) (k : ℕ) → length ts ≤ n → ◌≡◌ {A = Outcome T B} ((p >>= q) ts) (Err (Grammar k)) →
      (us : List T) × (rest : List T) × (ts ≡ us ++ rest) × ((us ≡ []) ⊎ IsViablePrefix (Then S' R') us)
      × ((more : List T) → length (us ++ more) ≤ n → SameLookahead rest more → (p >>= q) (us ++ more) ≡ Err (Grammar (length more)))
  then_refuses ts k fits e = elim (split_err (p ts) q (Grammar k) e) [
    | inl here ↦
        let (us, rest, cut, goes, again) = right_p.refuses ts k fits here in
        (us, rest, cut, refused_first us goes, λ more all like. fails us more (Grammar (length more)) (again more all like))
    | inr later ↦
        let (a, mid, ep, eq) = later in
        let (us, cut, spells, again) = right_p.sound ts mid a fits ep in
        let fits' = shorter us mid a spells (subst (λ x. length x ≤ n) cut fits) in
        let (vs, rest, cut', goes, again') = (right_q a).refuses mid k fits' eq in (
          us ++ vs,
          rest,
          cut ∙ ap (λ x. us ++ x) cut' ∙ sym (append_assoc us vs rest),
          inr (refused_second us vs a spells goes),
          λ more all like.
              let all' : length (us ++ (vs ++ more)) ≤ n = subst (λ x. length x ≤ n) (append_assoc us vs more) all in
              let like' : SameLookahead mid (vs ++ more) = subst (λ x. SameLookahead x (vs ++ more)) (sym cut') (SameLookahead-append vs rest more like) in
              ap (p >>= q) (append_assoc us vs more) ∙ step us (vs ++ more) a (again (vs ++ more) all' like') ∙ again' more (shorter us (vs ++ more) a spells all') like,
        )
  ]

  then_deepens : (ts : List T) (k : ℕ) → length ts ≤ n → ◌≡◌ {A = Outcome T B} ((p >>= q) ts) (Err (Deep k)) →
      (us : List T) × (t : T) × (rest : List T) × (ts ≡ us ++ t ∷ rest) × ((us ≡ []) ⊎ IsViablePrefix (Then S' R') us) × IsViablePrefix (Then S' R') (us ++ t ∷ [])
      × ((more : List T) → length (us ++ t ∷ more) ≤ n → (p >>= q) (us ++ t ∷ more) ≡ Err (Deep (suc (length more))))
  then_deepens ts k fits e = elim (split_err (p ts) q (Deep k) e) [
    | inl here ↦
        let (us, t, rest, cut, goes, opens, again) = right_p.deepens ts k fits here in
        (us, t, rest, cut, refused_first us goes, goes_first S' R' some' (us ++ t ∷ []) opens, λ more all. fails us (t ∷ more) (Deep (suc (length more))) (again more all))
    | inr later ↦
        let (a, mid, ep, eq) = later in
        let (us, cut, spells, again) = right_p.sound ts mid a fits ep in
        let fits' = shorter us mid a spells (subst (λ x. length x ≤ n) cut fits) in
        let (vs, t, rest, cut', goes, opens, again') = (right_q a).deepens mid k fits' eq in (
          us ++ vs,
          t,
          rest,
          cut ∙ ap (λ x. us ++ x) cut' ∙ sym (append_assoc us vs (t ∷ rest)),
          inr (refused_second us vs a spells goes),
          subst (IsViablePrefix (Then S' R')) (sym (append_assoc us vs (t ∷ []))) (goes_second S' R' us (vs ++ t ∷ []) a (right_p.wider us a spells) opens),
          λ more all.
              let all' : length (us ++ (vs ++ t ∷ more)) ≤ n = subst (λ x. length x ≤ n) (append_assoc us vs (t ∷ more)) all in
              let like' : SameLookahead mid (vs ++ t ∷ more) = subst (λ x. SameLookahead x (vs ++ t ∷ more)) (sym cut') (SameLookahead-append vs (t ∷ rest) (t ∷ more) (inr refl)) in
              ap (p >>= q) (append_assoc us vs (t ∷ more)) ∙ step us (vs ++ t ∷ more) a (again (vs ++ t ∷ more) all' like') ∙ again' more (shorter us (vs ++ t ∷ more) a spells all'),
        )
  ]

  pub right_then_by : ReadsRule n StopR (Then S R) (Then S' R') (p >>= q)
  right_then_by = record { wider = wide; ended = ended; sound = then_sound; complete = then_complete; refuses = then_refuses; deepens = then_deepens }

pub right_then : {T A B : Type 0} (n : ℕ) (StopS StopR : Option T → Type 0) (S S' : List T → A → Type 0) (R R' : A → List T → B → Type 0)
    (p : Reader T A) (q : A → Reader T B) → ReadsRule n StopS S S' p → ((a : A) → ReadsRule n StopR (R a) (R' a) (q a)) →
    ((a : A) (vs rest : List T) (b : B) → R a vs b → StopR (first rest) → StopS (first (vs ++ rest))) →
    ((a : A) → (vs : List T) × (b : B) × R a vs b) → StopR None → ReadsRule n StopR (Then S R) (Then S' R') (p >>= q)
right_then n StopS StopR S S' R R' p q right_p right_q follow some = right_then_by n n StopS StopR S S' R R' p q right_p right_q (λ us vs a s fits. omega (arith, length-append us vs)) follow
    (λ a. let r = some a in (r.0, r.1, (right_q a).wider r.0 r.1 r.2))

-- ---- by the first token

Skips-like : {T A : Type 0} (f : T → Option A) (us rest more : List T) → SameLookahead rest more → Skips f (us ++ rest) → Skips f (us ++ more)
Skips-like f us rest more like skips = elim (SameLookahead-append us rest more like) [
  | inl e ↦ λ t a is takes. let none : first (us ++ more) ≡ None = ap first e in absurd (cc)
  | inr e ↦ λ t a is takes. skips t a (sym e ∙ is) takes
]

looked : {T A : Type 0} (f : T → Option A) (t : T) (us : List T) (o : Option A) → f t ≡ o →
    ((s : T) × (a : A) × (vs : List T) × (t ∷ us ≡ s ∷ vs) × (f s ≡ Some a)) ⊎ Skips f (t ∷ us)
looked f t us (Some a) e = inl (t, a, us, refl, e)
looked f t us None e = inr (λ s a is takes. let same : t ≡ s = cc in absurd (cc))

look : {T A : Type 0} (f : T → Option A) (ts : List T) → ((t : T) × (a : A) × (us : List T) × (ts ≡ t ∷ us) × (f t ≡ Some a)) ⊎ Skips f ts
look f [] = inr (λ t a is takes. absurd (cc))
look f (t ∷ us) = looked f t us (f t) refl

module _ {T A B : Type 0} (f : T → Option A) (q : A → Reader T B) (r : Reader T B) where
  taken : (t : T) (us : List T) (a : A) → f t ≡ Some a → alt f q r (t ∷ us) ≡ q a us
  unfolding lead
  taken t us a e = ap (λ o. branch (paired o us) q (r (t ∷ us))) e

  skipped_at : (t : T) (us : List T) (o : Option A) → f t ≡ o → Skips f (t ∷ us) → branch (paired o us) q (r (t ∷ us)) ≡ r (t ∷ us)
  skipped_at t us (Some a) e skips = absurd (skips t a refl e)
  skipped_at t us None e skips = refl

  skipped : (ts : List T) → Skips f ts → alt f q r ts ≡ r ts
  unfolding lead
  skipped [] skips = refl
  skipped (t ∷ us) skips = skipped_at t us (f t) refl skips

module _ {T A B : Type 0} (n : ℕ) (Stop : Option T → Type 0) (f : T → Option A) (S S' : A → List T → B → Type 0) (R R' : List T → B → Type 0)
    (q : A → Reader T B) (r : Reader T B)
    (right_q : (a : A) → ReadsRule (n - 1) Stop (S a) (S' a) (q a)) (right_r : ReadsRule n Stop R R' r)
    (some' : (a : A) → (us : List T) × (b : B) × S' a us b)
    (apart : (us rest : List T) (b : B) → R us b → Stop (first rest) → Skips f (us ++ rest)) where
  alt_wide : (us : List T) (b : B) → Or (TokenThen f S) R us b → Or (TokenThen f S') R' us b
  alt_wide us b (inl (t, a, vs, cut, takes, s)) = inl (t, a, vs, cut, takes, (right_q a).wider vs b s)
  alt_wide us b (inr s) = inr (right_r.wider us b s)

  alt_sound : (ts rest : List T) (b : B) → length ts ≤ n → alt f q r ts ≡ Ok (b, rest) →
      (us : List T) × (ts ≡ us ++ rest) × Or (TokenThen f S) R us b × ((more : List T) → length (us ++ more) ≤ n → SameLookahead rest more → alt f q r (us ++ more) ≡ Ok (b, more))
  alt_sound ts rest b fits e = elim (look f ts) [
    | inl (t, a, us, cut, takes) ↦
        let fits' : length us ≤ n - 1 = omega (arith, subst (λ x. length x ≤ n) cut fits) in
        let (vs, cut', s, again) = (right_q a).sound us rest b fits' (sym (taken f q r t us a takes) ∙ sym (ap (alt f q r) cut) ∙ e) in (
          t ∷ vs,
          cut ∙ ap (λ x. t ∷ x) cut',
          inl (t, a, vs, refl, takes, s),
          λ more all like. taken f q r t (vs ++ more) a takes ∙ again more (omega arith) like,
        )
    | inr skips ↦
        let (us, cut, s, again) = right_r.sound ts rest b fits (sym (skipped f q r ts skips) ∙ e) in
        (us, cut, inr s, λ more all like. skipped f q r (us ++ more) (Skips-like f us rest more like (subst (Skips f) cut skips)) ∙ again more all like)
  ]

  alt_complete : (us rest : List T) (b : B) → length (us ++ rest) ≤ n → Or (TokenThen f S) R us b → Stop (first rest) → alt f q r (us ++ rest) ≡ Ok (b, rest)
  alt_complete us rest b fits (inl (t, a, vs, cut, takes, s)) stop =
      let whole : us ++ rest ≡ t ∷ (vs ++ rest) = ap (λ x. x ++ rest) cut in
      let fits' : length (vs ++ rest) ≤ n - 1 = omega (arith, subst (λ x. length x ≤ n) whole fits) in
      ap (alt f q r) whole ∙ taken f q r t (vs ++ rest) a takes ∙ (right_q a).complete vs rest b fits' s stop
  alt_complete us rest b fits (inr s) stop =
      skipped f q r (us ++ rest) (apart us rest b s stop) ∙ right_r.complete us rest b fits s stop

  led_goes : (t : T) (a : A) (us : List T) → f t ≡ Some a → (us ≡ []) ⊎ IsViablePrefix (S' a) us → IsViablePrefix (Or (TokenThen f S') R') (t ∷ us)
  led_goes t a us takes (inl e) = let s = some' a in (s.0, s.1, inl (t, a, s.0, ap (λ x. t ∷ (x ++ s.0)) e, takes, s.2))
  led_goes t a us takes (inr g) = (g.0, g.1, inl (t, a, us ++ g.0, refl, takes, g.2))

  other_goes : (us : List T) → (us ≡ []) ⊎ IsViablePrefix R' us → (us ≡ []) ⊎ IsViablePrefix (Or (TokenThen f S') R') us
  other_goes us (inl e) = inl e
  other_goes us (inr g) = inr (g.0, g.1, inr g.2)

  alt_refuses : (ts : List T) (k : ℕ) → length ts ≤ n → alt f q r ts ≡ Err (Grammar k) →
      (us : List T) × (rest : List T) × (ts ≡ us ++ rest) × ((us ≡ []) ⊎ IsViablePrefix (Or (TokenThen f S') R') us)
      × ((more : List T) → length (us ++ more) ≤ n → SameLookahead rest more → alt f q r (us ++ more) ≡ Err (Grammar (length more)))
  alt_refuses ts k fits e = elim (look f ts) [
    | inl (t, a, us, cut, takes) ↦
        let fits' : length us ≤ n - 1 = omega (arith, subst (λ x. length x ≤ n) cut fits) in
        let (vs, rest, cut', goes, again) = (right_q a).refuses us k fits' (sym (taken f q r t us a takes) ∙ sym (ap (alt f q r) cut) ∙ e) in (
          t ∷ vs,
          rest,
          cut ∙ ap (λ x. t ∷ x) cut',
          inr (led_goes t a vs takes goes),
          λ more all like. taken f q r t (vs ++ more) a takes ∙ again more (omega arith) like,
        )
    | inr skips ↦
        let (us, rest, cut, goes, again) = right_r.refuses ts k fits (sym (skipped f q r ts skips) ∙ e) in
        (us, rest, cut, other_goes us goes, λ more all like. skipped f q r (us ++ more) (Skips-like f us rest more like (subst (Skips f) cut skips)) ∙ again more all like)
  ]

  alt_deepens : (ts : List T) (k : ℕ) → length ts ≤ n → alt f q r ts ≡ Err (Deep k) →
      (us : List T) × (t : T) × (rest : List T) × (ts ≡ us ++ t ∷ rest) × ((us ≡ []) ⊎ IsViablePrefix (Or (TokenThen f S') R') us) × IsViablePrefix (Or (TokenThen f S') R') (us ++ t ∷ [])
      × ((more : List T) → length (us ++ t ∷ more) ≤ n → alt f q r (us ++ t ∷ more) ≡ Err (Deep (suc (length more))))
  alt_deepens ts k fits e = elim (look f ts) [
    | inl (t, a, us, cut, takes) ↦
        let fits' : length us ≤ n - 1 = omega (arith, subst (λ x. length x ≤ n) cut fits) in
        let (vs, s, rest, cut', goes, (w, b, deep), again) = (right_q a).deepens us k fits' (sym (taken f q r t us a takes) ∙ sym (ap (alt f q r) cut) ∙ e) in (
          t ∷ vs,
          s,
          rest,
          cut ∙ ap (λ x. t ∷ x) cut',
          inr (led_goes t a vs takes goes),
          (w, b, inl (t, a, (vs ++ s ∷ []) ++ w, refl, takes, deep)),
          λ more all. taken f q r t (vs ++ s ∷ more) a takes ∙ again more (omega arith),
        )
    | inr skips ↦
        let (us, s, rest, cut, goes, (w, b, deep), again) = right_r.deepens ts k fits (sym (skipped f q r ts skips) ∙ e) in (
          us,
          s,
          rest,
          cut,
          other_goes us goes,
          (w, b, inr deep),
          λ more all. skipped f q r (us ++ s ∷ more) (Skips-like f us (s ∷ rest) (s ∷ more) (inr refl) (subst (Skips f) cut skips)) ∙ again more all,
        )
  ]

  pub right_alt_by : ReadsRule n Stop (Or (TokenThen f S) R) (Or (TokenThen f S') R') (alt f q r)
  right_alt_by = record { wider = alt_wide; ended = right_r.ended; sound = alt_sound; complete = alt_complete; refuses = alt_refuses; deepens = alt_deepens }

pub right_alt : {T A B : Type 0} (n : ℕ) (Stop : Option T → Type 0) (f : T → Option A) (S S' : A → List T → B → Type 0) (R R' : List T → B → Type 0)
    (q : A → Reader T B) (r : Reader T B) → ((a : A) → ReadsRule (n - 1) Stop (S a) (S' a) (q a)) → ReadsRule n Stop R R' r →
    ((a : A) → (us : List T) × (b : B) × S a us b) →
    ((us rest : List T) (b : B) → R us b → Stop (first rest) → Skips f (us ++ rest)) → ReadsRule n Stop (Or (TokenThen f S) R) (Or (TokenThen f S') R') (alt f q r)
right_alt n Stop f S S' R R' q r right_q right_r some = right_alt_by n Stop f S S' R R' q r right_q right_r
    (λ a. let s = some a in (s.0, s.1, (right_q a).wider s.0 s.1 s.2))

-- ---- another reader that gives the same, another rule that says the same

pub right_ext : {T A : Type 0} (n : ℕ) (Stop : Option T → Type 0) (S W : List T → A → Type 0) (p q : Reader T A) →
    ((ts : List T) → length ts ≤ n → q ts ≡ p ts) → ReadsRule n Stop S W p → ReadsRule n Stop S W q
right_ext n Stop S W p q same right = record {
  wider = right.wider;
  ended = right.ended;
  sound = λ ts rest a fits e.
      let (us, cut, s, again) = right.sound ts rest a fits (sym (same ts fits) ∙ e) in
      (us, cut, s, λ more all like. same (us ++ more) all ∙ again more all like);
  complete = λ us rest a fits s stop. same (us ++ rest) fits ∙ right.complete us rest a fits s stop;
  refuses = λ ts k fits e.
      let (us, rest, cut, goes, again) = right.refuses ts k fits (sym (same ts fits) ∙ e) in
      (us, rest, cut, goes, λ more all like. same (us ++ more) all ∙ again more all like);
  deepens = λ ts k fits e.
      let (us, t, rest, cut, goes, opens, again) = right.deepens ts k fits (sym (same ts fits) ∙ e) in
      (us, t, rest, cut, goes, opens, λ more all. same (us ++ t ∷ more) all ∙ again more all);
}

pub goes_by : {T A : Type 0} (S R : List T → A → Type 0) → ((us : List T) (a : A) → S us a → R us a) → (us : List T) → IsViablePrefix S us → IsViablePrefix R us
goes_by S R to us g = (g.0, g.1, to (us ++ g.0) g.1 g.2)

pub maybe_by : {T A : Type 0} (S R : List T → A → Type 0) → ((us : List T) (a : A) → S us a → R us a) → (us : List T) → (us ≡ []) ⊎ IsViablePrefix S us → (us ≡ []) ⊎ IsViablePrefix R us
maybe_by S R to us (inl e) = inl e
maybe_by S R to us (inr g) = inr (goes_by S R to us g)

pub right_same : {T A : Type 0} (n : ℕ) (Stop : Option T → Type 0) (S S' R R' : List T → A → Type 0) (p : Reader T A) →
    ((us : List T) (a : A) → S us a → R us a) → ((us : List T) (a : A) → R us a → S us a) →
    ((us : List T) (a : A) → S' us a → R' us a) → ReadsRule n Stop S S' p → ReadsRule n Stop R R' p
right_same n Stop S S' R R' p to from to' right = record {
  wider = λ us a s. to' us a (right.wider us a (from us a s));
  ended = right.ended;
  sound = λ ts rest a fits e. let (us, cut, s, again) = right.sound ts rest a fits e in (us, cut, to us a s, again);
  complete = λ us rest a fits s stop. right.complete us rest a fits (from us a s) stop;
  refuses = λ ts k fits e. let (us, rest, cut, goes, again) = right.refuses ts k fits e in (us, rest, cut, maybe_by S' R' to' us goes, again);
  deepens = λ ts k fits e. let (us, t, rest, cut, goes, opens, again) = right.deepens ts k fits e in
      (us, t, rest, cut, maybe_by S' R' to' us goes, goes_by S' R' to' (us ++ t ∷ []) opens, again);
}

pub right_stop : {T A : Type 0} (n : ℕ) (Stop Less : Option T → Type 0) (S W : List T → A → Type 0) (p : Reader T A) →
    ((x : Option T) → Less x → Stop x) → Less None → ReadsRule n Stop S W p → ReadsRule n Less S W p
right_stop n Stop Less S W p sub ended right = record {
  wider = right.wider;
  ended = ended;
  sound = right.sound;
  complete = λ us rest a fits s stop. right.complete us rest a fits s (sub (first rest) stop);
  refuses = right.refuses;
  deepens = right.deepens;
}

pub right_pred : {T A : Type 0} {Stop : Option T → Type 0} {S W : List T → A → Type 0} {p : List T → Outcome T A} (n : ℕ) → ReadsRule n Stop S W p → ReadsRule (suc n - 1) Stop S W p
right_pred {T} {A} {Stop} {S} {W} {p} n right = let same : n ≡ suc n - 1 = omega arith in subst (λ k. ReadsRule k Stop S W p) same right

-- ---- one nesting too many

module _ {T A B : Type 0} (f : T → Option A) (r : Reader T B) where
  barred_at : (t : T) (us : List T) (a : A) → f t ≡ Some a → bar f r (t ∷ us) ≡ Err (Deep (suc (length us)))
  unfolding lead
  barred_at t us a e = ap (λ o. barred (paired o us) (suc (length us)) (r (t ∷ us))) e

  passed_at : (t : T) (us : List T) (o : Option A) → f t ≡ o → Skips f (t ∷ us) → barred (paired o us) (suc (length us)) (r (t ∷ us)) ≡ r (t ∷ us)
  passed_at t us (Some a) e skips = absurd (skips t a refl e)
  passed_at t us None e skips = refl

  passed : (ts : List T) → Skips f ts → bar f r ts ≡ r ts
  unfolding lead
  passed [] skips = refl
  passed (t ∷ us) skips = passed_at t us (f t) refl skips

pub right_bar : {T A B : Type 0} (n : ℕ) (Stop : Option T → Type 0) (f : T → Option A) (S' : A → List T → B → Type 0) (R R' : List T → B → Type 0) (r : Reader T B) →
    ReadsRule n Stop R R' r → ((a : A) → (us : List T) × (b : B) × S' a us b) →
    ((us rest : List T) (b : B) → R us b → Stop (first rest) → Skips f (us ++ rest)) → ReadsRule n Stop R (Or (TokenThen f S') R') (bar f r)
right_bar n Stop f S' R R' r right opens apart = record {
  wider = λ us b s. inr (right.wider us b s);
  ended = right.ended;
  sound = λ ts rest b fits e. elim (look f ts) [
    | inl (t, a, us, cut, takes) ↦ absurd (let bad = sym (barred_at f r t us a takes) ∙ sym (ap (bar f r) cut) ∙ e in cc)
    | inr skips ↦
        let (us, cut, s, again) = right.sound ts rest b fits (sym (passed f r ts skips) ∙ e) in
        (us, cut, s, λ more all like. passed f r (us ++ more) (Skips-like f us rest more like (subst (Skips f) cut skips)) ∙ again more all like)
  ];
  complete = λ us rest b fits s stop. passed f r (us ++ rest) (apart us rest b s stop) ∙ right.complete us rest b fits s stop;
  refuses = λ ts k fits e. elim (look f ts) [
    | inl (t, a, us, cut, takes) ↦ absurd (let bad = sym (barred_at f r t us a takes) ∙ sym (ap (bar f r) cut) ∙ e in cc)
    | inr skips ↦
        let (us, rest, cut, goes, again) = right.refuses ts k fits (sym (passed f r ts skips) ∙ e) in
        (us, rest, cut, maybe_by R' (Or (TokenThen f S') R') (λ us b s. inr s) us goes, λ more all like. passed f r (us ++ more) (Skips-like f us rest more like (subst (Skips f) cut skips)) ∙ again more all like)
  ];
  deepens = λ ts k fits e. elim (look f ts) [
    | inl (t, a, us, cut, takes) ↦
        let (vs, b, s) = opens a in
        ([], t, us, cut, inl refl, (vs, b, inl (t, a, vs, refl, takes, s)), λ more all. barred_at f r t more a takes)
    | inr skips ↦
        let (us, s, rest, cut, goes, (w, b, deep), again) = right.deepens ts k fits (sym (passed f r ts skips) ∙ e) in (
          us,
          s,
          rest,
          cut,
          maybe_by R' (Or (TokenThen f S') R') (λ us b s. inr s) us goes,
          (w, b, inr deep),
          λ more all. passed f r (us ++ s ∷ more) (Skips-like f us (s ∷ rest) (s ∷ more) (inr refl) (subst (Skips f) cut skips)) ∙ again more all,
        )
  ];
}

-- ---- any number

module _ {T A B : Type 0} (Stop StopQ : Option T → Type 0) (f : T → Option A) (S S' : A → List T → B → Type 0) (q : A → Reader T B)
    (right_q : (n : ℕ) (a : A) → ReadsRule n StopQ (S a) (S' a) (q a)) (some : (a : A) → (us : List T) × (b : B) × S a us b)
    (ended : Stop None) (stops : (t : T) (a : A) → Stop (Some t) → f t ≡ Some a → ⊥)
    (ends : (x : Option T) → Stop x → StopQ x) (next : (t : T) (a : A) → f t ≡ Some a → StopQ (Some t)) where
  -- one turn, as the parts have it
  abbrev Turn : (A → List T → B → Type 0) → List T → List B → Type 0
  Turn R = Or (TokenThen f (λ a. Then (R a) (λ b. Then (Many f R) (λ bs. Empty (b ∷ bs))))) (Empty [])

  to_many : (R : A → List T → B → Type 0) (us : List T) (bs : List B) → Turn R us bs → Many f R us bs
  to_many R us bs (inl (t, a, vs, cut, takes, (b, ws, xs, cut', s, (bs', ys, zs, cut'', m, (e, e'))))) =
      let same : xs ≡ ys = cut'' ∙ ap (λ x. ys ++ x) e ∙ append-nil ys in
      subst (Many f R us) (sym e') (t, a, ws, xs, cut ∙ ap (λ x. t ∷ x) cut', takes, s, subst (λ x. Many f R x bs') (sym same) m)
  to_many R us bs (inr (e, e')) = subst (Many f R us) (sym e') e

  from_many : (R : A → List T → B → Type 0) (us : List T) (bs : List B) → Many f R us bs → Turn R us bs
  from_many R us [] e = inr (e, refl)
  from_many R us (b ∷ bs) (t, a, vs, ws, cut, takes, s, m) = inl (t, a, vs ++ ws, cut, takes, (b, vs, ws, refl, s, (bs, ws, [], sym (append-nil ws), m, (refl, refl))))

  many_begins : (us : List T) (bs : List B) (rest : List T) → Many f S us bs → Stop (first rest) → StopQ (first (us ++ rest))
  many_begins us [] rest e stop = subst (λ x. StopQ (first (x ++ rest))) (sym e) (ends (first rest) stop)
  many_begins us (b ∷ bs) rest (t, a, vs, ws, cut, takes, s, m) stop = subst (λ x. StopQ (first (x ++ rest))) (sym cut) (next t a takes)

  no_turn : (us rest : List T) (bs : List B) → Empty [] us bs → Stop (first rest) → Skips f (us ++ rest)
  no_turn us rest bs (e, e') stop = λ t a is takes. stops t a (subst Stop (ap (λ x. first (x ++ rest)) (sym e) ∙ is) stop) takes

  right_from : (n : ℕ) → ReadsRule n Stop (Many f S) (Many f S') (many_from f q n)
  right_from zero = right_zero
    where
      nothing : (us : List T) (bs : List B) → length us ≤ 0 → Many f S us bs → (us ≡ []) × (bs ≡ [])
      nothing us [] fits e = (e, refl)
      nothing us (b ∷ bs) fits (t, a, vs, ws, cut, takes, s, m) = absurd (omega (arith, ap length cut))

      wide : (us : List T) (bs : List B) → Many f S us bs → Many f S' us bs
      wide us [] e = e
      wide us (b ∷ bs) (t, a, vs, ws, cut, takes, s, m) = (t, a, vs, ws, cut, takes, (right_q 0 a).wider vs b s, wide ws bs m)

      right_zero : ReadsRule 0 Stop (Many f S) (Many f S') (many_from f q 0)
      right_zero = record {
        wider = wide;
        ended = ended;
        sound = λ ts rest bs fits e. let s = ok_parts e in ([], s.1, subst (Many f S []) s.0 refl, λ more all like. ok_both s.0 refl);
        complete = λ us rest bs fits m stop. let (e, e') = nothing us bs (omega (arith, length-append us rest)) m in ok_both (sym e') (ap (λ x. x ++ rest) e);
        refuses = λ ts k fits e. absurd (cc);
        deepens = λ ts k fits e. absurd (cc);
      }
  right_from (suc n) =
      right_same (suc n) Stop (Turn S) (Turn S') (Many f S) (Many f S') _ (to_many S) (from_many S) (to_many S')
      (right_alt (suc n) Stop f _ _ _ _ _ _
      (λ a. right_pred n
      (right_then n StopQ Stop (S a) (S' a) _ _ (q a) _ (right_q n a)
      (λ b. right_then n Stop Stop (Many f S) (Many f S') _ _ (many_from f q n) _ (right_from n) (λ bs. right_pure n Stop ended (b ∷ bs))
      (λ bs vs rest x e stop. subst (λ y. Stop (first (y ++ rest))) (sym e.0) stop) (λ bs. ([], b ∷ bs, (refl, refl))) ended)
      (λ b vs rest bs s stop. let (bs', ys, zs, cut, m, (e, e')) = s in
      subst (λ y. StopQ (first (y ++ rest))) (sym (cut ∙ ap (λ x. ys ++ x) e ∙ append-nil ys)) (many_begins ys bs' rest m stop))
      (λ b. ([], b ∷ [], ([], [], [], refl, refl, (refl, refl)))) ended))
      (right_pure (suc n) Stop ended []) (λ a. let (us, b, s) = some a in (us, b ∷ [], (b, us, [], sym (append-nil us), s, ([], [], [], refl, refl, (refl, refl))))) no_turn)

  -- the bound is no matter
  same_from : (n m : ℕ) (ts : List T) → length ts ≤ n → length ts ≤ m → many_from f q n ts ≡ many_from f q m ts
  unfolding lead
  same_from zero zero ts a b = refl
  same_from zero (suc m) [] a b = refl
  same_from zero (suc m) (t ∷ ts) a b = absurd (omega arith)
  same_from (suc n) zero [] a b = refl
  same_from (suc n) zero (t ∷ ts) a b = absurd (omega arith)
  same_from (suc n) (suc m) [] a b = refl
  same_from (suc n) (suc m) (t ∷ ts) a b = same_led (λ rest fits. same_from n m rest (omega arith) (omega arith)) (f t)
    where
      same_then : ((rest : List T) → length rest ≤ length ts → many_from f q n rest ≡ many_from f q m rest) → (x : A) (o : Outcome T B) → q x ts ≡ o →
          and_then o (λ b. many_from f q n >>= (λ bs. pure (b ∷ bs))) ≡ and_then o (λ b. many_from f q m >>= (λ bs. pure (b ∷ bs)))
      same_then later x (Ok (y, rest)) e =
          let (us, cut, s, again) = (right_q (length ts) x).sound ts rest y (omega arith) e in
          ap (λ o. and_then o (λ bs. pure (y ∷ bs))) (later rest (omega (arith, ap length cut, length-append us rest)))
      same_then later x (Err d) e = refl

      same_led : ((rest : List T) → length rest ≤ length ts → many_from f q n rest ≡ many_from f q m rest) → (o : Option A) →
          branch (paired o ts) (λ a. q a >>= (λ b. many_from f q n >>= (λ bs. pure (b ∷ bs)))) (Ok ([], t ∷ ts))
          ≡ branch (paired o ts) (λ a. q a >>= (λ b. many_from f q m >>= (λ bs. pure (b ∷ bs)))) (Ok ([], t ∷ ts))
      same_led later (Some x) = same_then later x (q x ts) refl
      same_led later None = refl

  pub right_many : (n : ℕ) → ReadsRule n Stop (Many f S) (Many f S') (many f q)
  unfolding many
  right_many n = right_ext n Stop (Many f S) (Many f S') (many_from f q n) (many f q)
      (λ ts fits. same_from (length ts) n ts (omega arith) fits) (right_from n)

  -- a turn of a loop
  pub many_step : (ts : List T) → many f q ts ≡ alt f (λ a. q a >>= (λ b. many f q >>= (λ bs. pure (b ∷ bs)))) (pure []) ts
  unfolding many lead
  many_step [] = refl
  many_step (t ∷ ts) = step_led (f t)
    where
      step_then : (x : A) (o : Outcome T B) → q x ts ≡ o →
          and_then o (λ b. many_from f q (length ts) >>= (λ bs. pure (b ∷ bs))) ≡ and_then o (λ b. many f q >>= (λ bs. pure (b ∷ bs)))
      step_then x (Ok (y, rest)) e =
          let (us, cut, s, again) = (right_q (length ts) x).sound ts rest y (omega arith) e in
          ap (λ o. and_then o (λ bs. pure (y ∷ bs)))
          (same_from (length ts) (length rest) rest (omega (arith, ap length cut, length-append us rest)) (omega arith))
      step_then x (Err d) e = refl

      step_led : (o : Option A) → branch (paired o ts) (λ a. q a >>= (λ b. many_from f q (length ts) >>= (λ bs. pure (b ∷ bs)))) (Ok ([], t ∷ ts))
          ≡ branch (paired o ts) (λ a. q a >>= (λ b. many f q >>= (λ bs. pure (b ∷ bs)))) (Ok ([], t ∷ ts))
      step_led (Some x) = step_then x (q x ts) refl
      step_led None = refl

-- ---- first tokens

pub begins_then : {T A B : Type 0} (P : T → Type 0) (S : List T → A → Type 0) (R : A → List T → B → Type 0) → Begins P S → Begins P (Then S R)
begins_then P S R begins us b (a, vs, ws, cut, s, r) =
    let (t, xs, cut', h) = begins vs a s in (t, xs ++ ws, cut ∙ ap (λ x. x ++ ws) cut', h)

pub begins_led : {T A B : Type 0} (P : T → Type 0) (f : T → Option A) (S : A → List T → B → Type 0) → ((t : T) (a : A) → f t ≡ Some a → P t) → Begins P (TokenThen f S)
begins_led P f S to us b (t, a, vs, cut, takes, s) = (t, vs, cut, to t a takes)

pub begins_or : {T B : Type 0} (P : T → Type 0) (S R : List T → B → Type 0) → Begins P S → Begins P R → Begins P (Or S R)
begins_or P S R bs br us b (inl s) = bs us b s
begins_or P S R bs br us b (inr r) = br us b r

pub begins_nothing : {T B : Type 0} (P : T → Type 0) → Begins {A = B} P Fail
begins_nothing P us b s = absurd s

pub begins_as : {T B : Type 0} (P Q : T → Type 0) (S : List T → B → Type 0) → ((t : T) → P t → Q t) → Begins P S → Begins Q S
begins_as P Q S to begins us b s = let (t, vs, cut, h) = begins us b s in (t, vs, cut, to t h)

-- no spelling begins with a token that `f` takes
pub begins_skips : {T A B : Type 0} (P : T → Type 0) (f : T → Option A) (S : List T → B → Type 0) → Begins P S → ((t : T) (a : A) → P t → f t ≡ Some a → ⊥) →
    (us rest : List T) (b : B) → S us b → Skips f (us ++ rest)
begins_skips P f S begins not us rest b s =
    let (t, vs, cut, h) = begins us b s in
    λ t' a is takes. let same : t ≡ t' = let eq = sym (ap (λ x. first (x ++ rest)) cut) ∙ is in cc in not t' a (subst P same h) takes

pub stop_skips : {T A B : Type 0} (Stop : Option T → Type 0) (f : T → Option A) → ((t : T) (a : A) → Stop (Some t) → f t ≡ Some a → ⊥) → (b : B) →
    (us rest : List T) (c : B) → Empty b us c → Stop (first rest) → Skips f (us ++ rest)
stop_skips Stop f not b us rest c (e, e') stop = λ t a is takes. not t a (subst Stop (ap (λ x. first (x ++ rest)) (sym e) ∙ is) stop) takes

-- ---- a value made of what was read

pub right_map : {T A B : Type 0} (n : ℕ) (Stop : Option T → Type 0) (S S' : List T → A → Type 0) (p : Reader T A) (g : A → B) →
    ReadsRule n Stop S S' p → ReadsRule n Stop (Then S (λ a. Empty (g a))) (Then S' (λ a. Empty (g a))) (p >>= (λ a. pure (g a)))
right_map n Stop S S' p g right = right_then n Stop Stop S S' (λ a. Empty (g a)) (λ a. Empty (g a)) p (λ a. pure (g a)) right (λ a. right_pure n Stop right.ended (g a))
    (λ a vs rest b e stop. subst (λ x. Stop (first (x ++ rest))) (sym e.0) stop) (λ a. ([], g a, (refl, refl))) right.ended

-- what a rule and a value made of it say
pub of_map : {T A B : Type 0} (S : List T → A → Type 0) (g : A → B) (us : List T) (b : B) → Then S (λ a. Empty (g a)) us b → (a : A) × S us a × (b ≡ g a)
of_map S g us b (a, vs, ws, cut, s, (e, e')) = (a, subst (λ x. S x a) (sym (cut ∙ ap (λ x. vs ++ x) e ∙ append-nil vs)) s, e')

pub to_map : {T A B : Type 0} (S : List T → A → Type 0) (g : A → B) (us : List T) (a : A) → S us a → Then S (λ a. Empty (g a)) us (g a)
to_map S g us a s = (a, us, [], sym (append-nil us), s, (refl, refl))

-- what stands first in any number of turns and behind them
pub many_first : {T A B : Type 0} (Stop StopQ : Option T → Type 0) (f : T → Option A) (S : A → List T → B → Type 0) →
    ((x : Option T) → Stop x → StopQ x) → ((t : T) (a : A) → f t ≡ Some a → StopQ (Some t)) →
    (us rest : List T) (bs : List B) → Many f S us bs → Stop (first rest) → StopQ (first (us ++ rest))
many_first Stop StopQ f S ends next us rest [] e stop = subst (λ x. StopQ (first (x ++ rest))) (sym e) (ends (first rest) stop)
many_first Stop StopQ f S ends next us rest (b ∷ bs) (t, a, vs, ws, cut, takes, s, m) stop = subst (λ x. StopQ (first (x ++ rest))) (sym cut) (next t a takes)

-- one token
pub right_one : {T A : Type 0} (n : ℕ) (Stop : Option T → Type 0) → Stop None → (f : T → Option A) →
    ReadsRule n Stop (TokenThen f (λ a. Empty a)) (TokenThen f (λ a. Empty a)) (alt f pure refuse)
right_one {T} {A} n Stop ended f =
    let R : List T → A → Type 0 = TokenThen f (λ a. Empty a) in
    right_same n Stop (Or R Fail) (Or R Fail) R R (alt f pure refuse) (λ us b s. elim s [ inl r ↦ r | inr none ↦ absurd none ]) (λ us b s. inl s)
    (λ us b s. elim s [ inl r ↦ r | inr none ↦ absurd none ])
    (right_alt n Stop f (λ a. Empty a) (λ a. Empty a) Fail Fail pure refuse
    (λ a. right_pure (n - 1) Stop ended a) (right_nothing n Stop ended) (λ a. ([], a, (refl, refl))) (λ us rest b s stop. absurd s))
