-- The laws of readers that look ahead.
use Rattle.std.specs.Prelude.{◌≡◌, ℕ, suc, ◌+◌, ◌≤◌, Bool, true, false, cond, List, [], ◌∷◌, ◌++◌, length, Option, Some, Ok, Err, ◌⊎◌, refl}
use Rattle.std.proofs.Common.{sym, ◌∙◌, ap, subst, inl, inr, arith, length-append, append-nil}
use Rattle.evo_combinators.specs.declared.Fault.TheVariants.{Grammar, Deep}
use Rattle.evo_combinators.specs.Reader.{Reader, Outcome, and_then, ◌>>=◌}
use Rattle.evo_combinators.specs.Rule.{Or, IsViablePrefix}
use Rattle.evo_combinators.specs.Guard.{choose, starts, on, ahead, starts_two, second, two, On}
use Rattle.evo_combinators.proofs.Laws.{SameLookahead-append, SameLookahead-refl, goes_by, maybe_by}
use Rattle.evo_combinators.specs.Laws.{Begins, Enters, SameLookahead, ReadsRule, first, of_first}

pub which : (b : Bool) → (b ≡ true) ⊎ (b ≡ false)
which true = inl refl
which false = inr refl

module _ {T B : Type 0} (n : ℕ) (Stop : Option T → Type 0) (c : List T → Bool) (S S' R R' : List T → B → Type 0) (p r : Reader T B)
    (right_p : ReadsRule n Stop S S' p) (right_r : ReadsRule n Stop R R' r)
    (apart_p : (us rest : List T) (b : B) → S us b → Stop (first rest) → c (us ++ rest) ≡ true)
    (apart_r : (us rest : List T) (b : B) → R us b → Stop (first rest) → c (us ++ rest) ≡ false)
    (keep_p : (us rest more : List T) (b : B) → S us b → c (us ++ rest) ≡ true → SameLookahead rest more → c (us ++ more) ≡ true)
    (keep_r : (us rest more : List T) (b : B) → R us b → c (us ++ rest) ≡ false → SameLookahead rest more → r (us ++ more) ≡ Ok (b, more) → c (us ++ more) ≡ false)
    (stay_p : (us rest more : List T) → length (us ++ rest) ≤ n → p (us ++ rest) ≡ Err (Grammar (length rest)) → c (us ++ rest) ≡ true → SameLookahead rest more →
    (c (us ++ more) ≡ true) ⊎ ((c (us ++ more) ≡ false) × (r (us ++ more) ≡ Err (Grammar (length more)))))
    (stay_r : (us rest more : List T) → r (us ++ rest) ≡ Err (Grammar (length rest)) → c (us ++ rest) ≡ false → SameLookahead rest more → r (us ++ more) ≡ Err (Grammar (length more)) → c (us ++ more) ≡ false)
    (deep_p : (us rest more : List T) (t : T) → p (us ++ t ∷ rest) ≡ Err (Deep (suc (length rest))) → c (us ++ t ∷ rest) ≡ true → c (us ++ t ∷ more) ≡ true)
    (deep_r : (us rest more : List T) (t : T) → r (us ++ t ∷ rest) ≡ Err (Deep (suc (length rest))) → c (us ++ t ∷ rest) ≡ false → r (us ++ t ∷ more) ≡ Err (Deep (suc (length more))) →
    c (us ++ t ∷ more) ≡ false) where
  yes : (ts : List T) → c ts ≡ true → choose c p r ts ≡ p ts
  yes ts e = ap (λ b. cond b (p ts) (r ts)) e

  no : (ts : List T) → c ts ≡ false → choose c p r ts ≡ r ts
  no ts e = ap (λ b. cond b (p ts) (r ts)) e

  wide : (us : List T) (b : B) → Or S R us b → Or S' R' us b
  wide us b (inl s) = inl (right_p.wider us b s)
  wide us b (inr s) = inr (right_r.wider us b s)

  sound : (ts rest : List T) (b : B) → length ts ≤ n → choose c p r ts ≡ Ok (b, rest) →
      (us : List T) × (ts ≡ us ++ rest) × Or S R us b × ((more : List T) → length (us ++ more) ≤ n → SameLookahead rest more → choose c p r (us ++ more) ≡ Ok (b, more))
  sound ts rest b fits e = elim (which (c ts)) [
    | inl is ↦
        let (us, cut, s, again) = right_p.sound ts rest b fits (sym (yes ts is) ∙ e) in
        (us, cut, inl s, λ more all like. yes (us ++ more) (keep_p us rest more b s (subst (λ x. c x ≡ true) cut is) like) ∙ again more all like)
    | inr is ↦
        let (us, cut, s, again) = right_r.sound ts rest b fits (sym (no ts is) ∙ e) in
        (us, cut, inr s, λ more all like. no (us ++ more) (keep_r us rest more b s (subst (λ x. c x ≡ false) cut is) like (again more all like)) ∙ again more all like)
  ]

  complete : (us rest : List T) (b : B) → length (us ++ rest) ≤ n → Or S R us b → Stop (first rest) → choose c p r (us ++ rest) ≡ Ok (b, rest)
  complete us rest b fits (inl s) stop = yes (us ++ rest) (apart_p us rest b s stop) ∙ right_p.complete us rest b fits s stop
  complete us rest b fits (inr s) stop = no (us ++ rest) (apart_r us rest b s stop) ∙ right_r.complete us rest b fits s stop

  refuses : (ts : List T) (k : ℕ) → length ts ≤ n → choose c p r ts ≡ Err (Grammar k) →
      (us : List T) × (rest : List T) × (ts ≡ us ++ rest) × ((us ≡ []) ⊎ IsViablePrefix (Or S' R') us)
      × ((more : List T) → length (us ++ more) ≤ n → SameLookahead rest more → choose c p r (us ++ more) ≡ Err (Grammar (length more)))
  refuses ts k fits e = elim (which (c ts)) [
    | inl is ↦
        let (us, rest, cut, goes, again) = right_p.refuses ts k fits (sym (yes ts is) ∙ e) in
        let here = again rest (subst (λ x. length x ≤ n) cut fits) (SameLookahead-refl rest) in (
          us,
          rest,
          cut,
          maybe_by S' (Or S' R') (λ us b s. inl s) us goes,
          λ more all like. elim (stay_p us rest more (subst (λ x. length x ≤ n) cut fits) here (subst (λ x. c x ≡ true) cut is) like) [
            | inl true' ↦ yes (us ++ more) true' ∙ again more all like
            | inr (false', bad) ↦ no (us ++ more) false' ∙ bad
          ],
        )
    | inr is ↦
        let (us, rest, cut, goes, again) = right_r.refuses ts k fits (sym (no ts is) ∙ e) in
        let here = again rest (subst (λ x. length x ≤ n) cut fits) (SameLookahead-refl rest) in (
          us,
          rest,
          cut,
          maybe_by R' (Or S' R') (λ us b s. inr s) us goes,
          λ more all like. no (us ++ more) (stay_r us rest more here (subst (λ x. c x ≡ false) cut is) like (again more all like)) ∙ again more all like,
        )
  ]

  deepens : (ts : List T) (k : ℕ) → length ts ≤ n → choose c p r ts ≡ Err (Deep k) →
      (us : List T) × (t : T) × (rest : List T) × (ts ≡ us ++ t ∷ rest) × ((us ≡ []) ⊎ IsViablePrefix (Or S' R') us) × IsViablePrefix (Or S' R') (us ++ t ∷ [])
      × ((more : List T) → length (us ++ t ∷ more) ≤ n → choose c p r (us ++ t ∷ more) ≡ Err (Deep (suc (length more))))
  deepens ts k fits e = elim (which (c ts)) [
    | inl is ↦
        let (us, t, rest, cut, goes, opens, again) = right_p.deepens ts k fits (sym (yes ts is) ∙ e) in
        let here = again rest (subst (λ x. length x ≤ n) cut fits) in (
          us,
          t,
          rest,
          cut,
          maybe_by S' (Or S' R') (λ us b s. inl s) us goes,
          goes_by S' (Or S' R') (λ us b s. inl s) (us ++ t ∷ []) opens,
          λ more all. yes (us ++ t ∷ more) (deep_p us rest more t here (subst (λ x. c x ≡ true) cut is)) ∙ again more all,
        )
    | inr is ↦
        let (us, t, rest, cut, goes, opens, again) = right_r.deepens ts k fits (sym (no ts is) ∙ e) in
        let here = again rest (subst (λ x. length x ≤ n) cut fits) in (
          us,
          t,
          rest,
          cut,
          maybe_by R' (Or S' R') (λ us b s. inr s) us goes,
          goes_by R' (Or S' R') (λ us b s. inr s) (us ++ t ∷ []) opens,
          λ more all. no (us ++ t ∷ more) (deep_r us rest more t here (subst (λ x. c x ≡ false) cut is) (again more all)) ∙ again more all,
        )
  ]

  pub right_choose : ReadsRule n Stop (Or S R) (Or S' R') (choose c p r)
  right_choose = record { wider = wide; ended = right_r.ended; sound = sound; complete = complete; refuses = refuses; deepens = deepens }

-- ---- by the first token

pub starts_is : {T : Type 0} (g : T → Bool) (ts : List T) → starts g ts ≡ of_first g (first ts)
unfolding starts
starts_is g [] = refl
starts_is g (t ∷ ts) = refl

pub starts_still : {T : Type 0} (g : T → Bool) (us rest more : List T) → starts g (us ++ rest) ≡ false → SameLookahead rest more → starts g (us ++ more) ≡ false
starts_still g us rest more e like = elim (SameLookahead-append us rest more like) [
  | inl none ↦ ap (starts g) none ∙ starts_is g []
  | inr same ↦ starts_is g (us ++ more) ∙ ap (of_first g) same ∙ sym (starts_is g (us ++ rest)) ∙ e
]

pub starts_same : {T : Type 0} (g : T → Bool) (t : T) (us more : List T) → starts g (t ∷ us) ≡ starts g (t ∷ more)
starts_same g t us more = starts_is g (t ∷ us) ∙ sym (starts_is g (t ∷ more))

starts_deep : {T : Type 0} (g : T → Bool) (us rest more : List T) (t : T) (b : Bool) → starts g (us ++ t ∷ rest) ≡ b → starts g (us ++ t ∷ more) ≡ b
starts_deep g [] rest more t b is = starts_same g t more rest ∙ is
starts_deep g (u ∷ us) rest more t b is = starts_same g u (us ++ t ∷ more) (us ++ t ∷ rest) ∙ is

-- a token with which a spelling begins is not refused, and opens nothing too deep
module _ {T A : Type 0} (Stop : Option T → Type 0) (S W : List T → A → Type 0) (p : Reader T A) (right : (n : ℕ) → ReadsRule n Stop S W p) where
  entered : (t : T) (us w us' rest : List T) (a : A) → S (t ∷ w) a → t ∷ us ≡ us' ++ rest → suc (length us) ≡ length rest →
      ((more : List T) → length (us' ++ more) ≤ length (t ∷ us) + length (t ∷ w) → SameLookahead rest more → p (us' ++ more) ≡ Err (Grammar (length more))) → ⊥
  entered t us w [] rest a s cut count again =
      let bad = again (t ∷ w) (omega arith) (inr (ap first cut)) in
      let good = (right (length ((t ∷ w) ++ []))).complete (t ∷ w) [] a (omega arith) s (right 0).ended in
      let both = sym good ∙ ap p (append-nil (t ∷ w)) ∙ bad in cc
  entered t us w (u ∷ us') rest a s cut count again = absurd (omega (arith, ap length cut, length-append us' rest))

  pub enters_by : (t : T) → IsViablePrefix S (t ∷ []) → (us : List T) → p (t ∷ us) ≡ Err (Grammar (suc (length us))) → ⊥
  enters_by t (w, a, s) us e =
      let n = length (t ∷ us) + length (t ∷ w) in
      let (us', rest, cut, goes, again) = (right n).refuses (t ∷ us) (suc (length us)) (omega arith) e in
      let here = again rest (subst (λ x. length x ≤ n) cut (omega arith)) (SameLookahead-refl rest) in
      let count : suc (length us) ≡ length rest = let both = sym e ∙ ap p cut ∙ here in cc in
      entered t us w us' rest a s cut count again

  opened : (t : T) (us w us' rest : List T) (u : T) (a : A) → S (t ∷ w) a → t ∷ us ≡ us' ++ u ∷ rest → suc (length us) ≡ suc (length rest) →
      ((more : List T) → length (us' ++ u ∷ more) ≤ length (t ∷ us) + length (t ∷ w) → p (us' ++ u ∷ more) ≡ Err (Deep (suc (length more)))) → ⊥
  opened t us w [] rest u a s cut count again =
      let bad = again w (omega arith) in
      let same : t ≡ u = let h = ap first cut in cc in
      let good = (right (length ((t ∷ w) ++ []))).complete (t ∷ w) [] a (omega arith) s (right 0).ended in
      let both = sym good ∙ ap p (append-nil (t ∷ w)) ∙ ap (λ x. p (x ∷ w)) same ∙ bad in cc
  opened t us w (v ∷ us') rest u a s cut count again = absurd (omega (arith, ap length cut, length-append us' (u ∷ rest)))

  pub opens_by : (t : T) → IsViablePrefix S (t ∷ []) → (us : List T) → p (t ∷ us) ≡ Err (Deep (suc (length us))) → ⊥
  opens_by t (w, a, s) us e =
      let n = length (t ∷ us) + length (t ∷ w) in
      let (us', u, rest, cut, goes, opens, again) = (right n).deepens (t ∷ us) (suc (length us)) (omega arith) e in
      let here = again rest (subst (λ x. length x ≤ n) cut (omega arith)) in
      let count : suc (length us) ≡ suc (length rest) = let both = sym e ∙ ap p cut ∙ here in cc in
      opened t us w us' rest u a s cut count again

  -- where a spelling may be followed by a token, no spelling goes on with it
  pub no_longer : (us w : List T) (t : T) (a b : A) → S us a → Stop (Some t) → S (us ++ t ∷ w) b → ⊥
  no_longer us w t a b s stop s' =
      let n = length (us ++ t ∷ w) in
      let n' = length ((us ++ t ∷ w) ++ []) in
      let one = (right n).complete us (t ∷ w) a (omega arith) s stop in
      let other = (right n').complete (us ++ t ∷ w) [] b (omega arith) s' (right 0).ended in
      let both = sym one ∙ ap p (sym (append-nil (us ++ t ∷ w))) ∙ other in
      let rests : ◌≡◌ {A = A × List T} (a, t ∷ w) (b, []) = cc in
      let none : ◌≡◌ {A = List T} (t ∷ w) [] = ap (λ x. x.1) rests in cc

module _ {T B : Type 0} (n : ℕ) (Stop : Option T → Type 0) (g : T → Bool) (S S' R R' : List T → B → Type 0) (p r : Reader T B)
    (right_p : ReadsRule n Stop S S' p) (right_r : ReadsRule n Stop R R' r)
    (begins : Begins (λ t. g t ≡ true) S) (enters : Enters n g p)
    (apart : (us rest : List T) (b : B) → R us b → Stop (first rest) → starts g (us ++ rest) ≡ false) where
  taken : (us more : List T) (b : B) → S us b → starts g (us ++ more) ≡ true
  taken us more b s =
      let (t, vs, cut, is) = begins us b s in
      ap (λ x. starts g (x ++ more)) cut ∙ starts_is g (t ∷ (vs ++ more)) ∙ is

  on_stay : (us rest more : List T) → length (us ++ rest) ≤ n → p (us ++ rest) ≡ Err (Grammar (length rest)) → starts g (us ++ rest) ≡ true → SameLookahead rest more →
      (starts g (us ++ more) ≡ true) ⊎ ((starts g (us ++ more) ≡ false) × (r (us ++ more) ≡ Err (Grammar (length more))))
  on_stay [] [] more fits bad is like = absurd (let none = sym (starts_is g []) ∙ is in cc)
  on_stay [] (t ∷ rest) more fits bad is like = absurd (enters t rest (omega arith) (sym (starts_is g (t ∷ rest)) ∙ is) bad)
  on_stay (u ∷ us) rest more fits bad is like = inl (starts_same g u (us ++ more) (us ++ rest) ∙ is)

  pub right_on : ReadsRule n Stop (Or S R) (Or S' R') (on g p r)
  right_on = right_choose n Stop (starts g) S S' R R' p r right_p right_r
      (λ us rest b s stop. taken us rest b s) apart
      (λ us rest more b s is like. taken us more b s) (λ us rest more b s is like good. starts_still g us rest more is like)
      on_stay (λ us rest more bad is like bad'. starts_still g us rest more is like)
      (λ us rest more t bad is. starts_deep g us rest more t true is) (λ us rest more t bad is bad'. starts_deep g us rest more t false is)

-- ---- a look at the first token before a reader

module _ {T A : Type 0} (g : T → Bool) (p : Reader T A) where
  pub ahead_yes : (ts : List T) → starts g ts ≡ true → ◌≡◌ {A = Outcome T A} ((ahead g >>= (λ _. p)) ts) (p ts)
  unfolding ahead
  ahead_yes ts e = ap (λ b. and_then (cond b (Ok (tt, ts)) (Err (Grammar (length ts)))) (λ _. p)) e

  ahead_no : (ts : List T) → starts g ts ≡ false → ◌≡◌ {A = Outcome T A} ((ahead g >>= (λ _. p)) ts) (Err (Grammar (length ts)))
  unfolding ahead
  ahead_no ts e = ap (λ b. and_then (cond b (Ok (tt, ts)) (Err (Grammar (length ts)))) (λ _. p)) e

module _ {T A : Type 0} (n : ℕ) (Stop : Option T → Type 0) (g : T → Bool) (S S' : List T → A → Type 0) (p : Reader T A)
    (right : ReadsRule n Stop S S' p) (some : (a : A) → S [] a → ⊥) where
  abbrev Looks : Reader T A
  Looks = ahead g >>= (λ _. p)

  held : (us rest : List T) (a : A) → S us a → starts g (us ++ rest) ≡ true → On g S us a
  held [] rest a s is = absurd (some a s)
  held (t ∷ us) rest a s is = (t, us, refl, sym (starts_is g (t ∷ (us ++ rest))) ∙ is, s)

  holds : (us more : List T) (a : A) → On g S us a → starts g (us ++ more) ≡ true
  holds us more a (t, vs, cut, is, s) = ap (λ x. starts g (x ++ more)) cut ∙ starts_is g (t ∷ (vs ++ more)) ∙ is

  goes_on : (us rest : List T) → starts g (us ++ rest) ≡ true → (us ≡ []) ⊎ IsViablePrefix S' us → (us ≡ []) ⊎ IsViablePrefix (On g S') us
  goes_on [] rest is goes = inl refl
  goes_on (u ∷ us) rest is (inl e) = absurd (cc)
  goes_on (u ∷ us) rest is (inr (w, a, s)) = inr (w, a, (u, us ++ w, refl, sym (starts_is g (u ∷ (us ++ rest))) ∙ is, s))

  opens_on : (us rest : List T) (t : T) → starts g (us ++ t ∷ rest) ≡ true → IsViablePrefix S' (us ++ t ∷ []) → IsViablePrefix (On g S') (us ++ t ∷ [])
  opens_on [] rest t is (w, a, s) = (w, a, (t, w, refl, sym (starts_is g (t ∷ rest)) ∙ is, s))
  opens_on (u ∷ us) rest t is (w, a, s) = (w, a, (u, (us ++ t ∷ []) ++ w, refl, sym (starts_is g (u ∷ (us ++ t ∷ rest))) ∙ is, s))

  refuses_on : (us rest more : List T) → starts g (us ++ rest) ≡ true → p (us ++ more) ≡ Err (Grammar (length more)) → Looks (us ++ more) ≡ Err (Grammar (length more))
  refuses_on [] rest more is bad = elim (which (starts g more)) [ inl yes ↦ ahead_yes g p more yes ∙ bad | inr no ↦ ahead_no g p more no ]
  refuses_on (u ∷ us) rest more is bad = ahead_yes g p (u ∷ (us ++ more)) (starts_same g u (us ++ more) (us ++ rest) ∙ is) ∙ bad

  pub right_ahead : ReadsRule n Stop (On g S) (On g S') Looks
  right_ahead = record {
    wider = λ us a (t, vs, cut, is, s). (t, vs, cut, is, right.wider us a s);
    ended = right.ended;
    sound = λ ts rest a fits e. elim (which (starts g ts)) [
      | inl is ↦
          let (us, cut, s, again) = right.sound ts rest a fits (sym (ahead_yes g p ts is) ∙ e) in
          let on_it = held us rest a s (subst (λ x. starts g x ≡ true) cut is) in
          (us, cut, on_it, λ more all like. ahead_yes g p (us ++ more) (holds us more a on_it) ∙ again more all like)
      | inr is ↦ absurd (let bad = sym (ahead_no g p ts is) ∙ e in cc)
    ];
    complete = λ us rest a fits s stop. ahead_yes g p (us ++ rest) (holds us rest a s) ∙ right.complete us rest a fits (s.4) stop;
    refuses = λ ts k fits e. elim (which (starts g ts)) [
      | inl is ↦
          let (us, rest, cut, goes, again) = right.refuses ts k fits (sym (ahead_yes g p ts is) ∙ e) in
          let is' = subst (λ x. starts g x ≡ true) cut is in
          (us, rest, cut, goes_on us rest is' goes, λ more all like. refuses_on us rest more is' (again more all like))
      | inr is ↦ ([], ts, refl, inl refl, λ more all like. ahead_no g p more (starts_still g [] ts more is like))
    ];
    deepens = λ ts k fits e. elim (which (starts g ts)) [
      | inl is ↦
          let (us, t, rest, cut, goes, opens, again) = right.deepens ts k fits (sym (ahead_yes g p ts is) ∙ e) in
          let is' = subst (λ x. starts g x ≡ true) cut is in (
            us,
            t,
            rest,
            cut,
            goes_on us (t ∷ rest) is' goes,
            opens_on us rest t is' opens,
            λ more all. ahead_yes g p (us ++ t ∷ more) (starts_deep g us rest more t true is') ∙ again more all,
          )
      | inr is ↦ absurd (let bad = sym (ahead_no g p ts is) ∙ e in cc)
    ];
  }

-- ---- by the first two tokens

two_still : {T : Type 0} (f g : T → Bool) (u : T) (us rest more : List T) → starts_two f g (u ∷ (us ++ rest)) ≡ false → SameLookahead rest more → starts_two f g (u ∷ (us ++ more)) ≡ false
unfolding starts_two
two_still f g u us rest more e like = go (f u) e
  where
    go : (b : Bool) → second b g (us ++ rest) ≡ false → second b g (us ++ more) ≡ false
    go true e = starts_still g us rest more e like
    go false e = refl

two_none : {T : Type 0} (f g : T → Bool) (ts : List T) → starts f ts ≡ false → starts_two f g ts ≡ false
unfolding starts_two starts
two_none f g [] e = refl
two_none f g (t ∷ ts) e = ap (λ b. second b g ts) e

two_yes : {T : Type 0} (f g : T → Bool) (t : T) (ts : List T) → f t ≡ true → starts g ts ≡ true → starts_two f g (t ∷ ts) ≡ true
unfolding starts_two
two_yes f g t ts e is = ap (λ b. second b g ts) e ∙ is

two_short : {T : Type 0} (f g : T → Bool) (t : T) → starts_two f g (t ∷ []) ≡ false
unfolding starts_two starts
two_short f g t = go (f t)
  where
    go : (b : Bool) → second b g [] ≡ false
    go true = refl
    go false = refl

two_parts : {T : Type 0} (f g : T → Bool) (t : T) (ts : List T) → starts_two f g (t ∷ ts) ≡ true → (f t ≡ true) × (starts g ts ≡ true)
unfolding starts_two
two_parts f g t ts e = go (f t) refl e
  where
    go : (b : Bool) → f t ≡ b → second b g ts ≡ true → (f t ≡ true) × (starts g ts ≡ true)
    go true is e = (is, e)
    go false is e = absurd (cc)

module _ {T B : Type 0} (n : ℕ) (Stop : Option T → Type 0) (f g : T → Bool) (S S' R R' : List T → B → Type 0) (p r : Reader T B)
    (right_p : ReadsRule n Stop S S' p) (right_r : ReadsRule n Stop R R' r)
    (pair : (us : List T) (b : B) → S us b → (t : T) × (s : T) × (vs : List T) × (us ≡ t ∷ (s ∷ vs)) × (f t ≡ true) × (g s ≡ true))
    (some_r : (b : B) → R [] b → ⊥)
    (apart : (us rest : List T) (b : B) → R us b → Stop (first rest) → starts_two f g (us ++ rest) ≡ false)
    (enters_p : Enters n f p) (enters_r : (t : T) (us : List T) → f t ≡ true → r (t ∷ us) ≡ Err (Grammar (suc (length us))) → ⊥)
    (opens_p : (t : T) (us : List T) → f t ≡ true → p (t ∷ us) ≡ Err (Deep (suc (length us))) → ⊥)
    (opens_r : (t : T) (us : List T) → f t ≡ true → r (t ∷ us) ≡ Err (Deep (suc (length us))) → ⊥)
    (at_end : (t : T) (rest : List T) → f t ≡ true → starts g rest ≡ true → p (t ∷ rest) ≡ Err (Grammar (length rest)) → r (t ∷ []) ≡ Err (Grammar 0)) where
  two_taken : (us more : List T) (b : B) → S us b → starts_two f g (us ++ more) ≡ true
  two_taken us more b s =
      let (t, u, vs, cut, is, is') = pair us b s in
      ap (λ x. starts_two f g (x ++ more)) cut ∙ two_yes f g t (u ∷ (vs ++ more)) is (starts_is g (u ∷ (vs ++ more)) ∙ is')

  two_keep : (us rest more : List T) (b : B) → R us b → starts_two f g (us ++ rest) ≡ false → SameLookahead rest more → starts_two f g (us ++ more) ≡ false
  two_keep [] rest more b s is like = absurd (some_r b s)
  two_keep (u ∷ us) rest more b s is like = two_still f g u us rest more is like

  two_stay_p : (us rest more : List T) → length (us ++ rest) ≤ n → p (us ++ rest) ≡ Err (Grammar (length rest)) → starts_two f g (us ++ rest) ≡ true → SameLookahead rest more →
      (starts_two f g (us ++ more) ≡ true) ⊎ ((starts_two f g (us ++ more) ≡ false) × (r (us ++ more) ≡ Err (Grammar (length more))))
  two_stay_p [] [] more fits bad is like = absurd (let none = sym (two_none f g [] (starts_is f [])) ∙ is in cc)
  two_stay_p [] (t ∷ rest) more fits bad is like = absurd (enters_p t rest (omega arith) (two_parts f g t rest is).0 bad)
  two_stay_p (t ∷ []) rest more fits bad is like =
      let (is_f, is_g) = two_parts f g t rest is in elim like [
        | inl none ↦ inr (ap (λ x. starts_two f g (t ∷ x)) none ∙ two_short f g t, ap (λ x. r (t ∷ x)) none ∙ at_end t rest is_f is_g bad ∙ ap (λ x. Err (Grammar (length x))) (sym none))
        | inr same ↦ inl (two_yes f g t more is_f (starts_is g more ∙ ap (of_first g) same ∙ sym (starts_is g rest) ∙ is_g))
      ]
  two_stay_p (t ∷ (s ∷ us)) rest more fits bad is like =
      let (is_f, is_g) = two_parts f g t (s ∷ (us ++ rest)) is in
      inl (two_yes f g t (s ∷ (us ++ more)) is_f (starts_same g s (us ++ more) (us ++ rest) ∙ is_g))

  two_stay_r : (us rest more : List T) → r (us ++ rest) ≡ Err (Grammar (length rest)) → starts_two f g (us ++ rest) ≡ false → SameLookahead rest more → starts_two f g (us ++ more) ≡ false
  two_stay_r [] rest more bad is like = elim (which (starts f rest)) [
    | inl yes ↦ absurd (first_is rest yes bad)
    | inr no ↦ two_none f g more (starts_still f [] rest more no like)
  ]
    where
      first_is : (rest : List T) → starts f rest ≡ true → r rest ≡ Err (Grammar (length rest)) → ⊥
      first_is [] yes bad = let none = sym (starts_is f []) ∙ yes in cc
      first_is (t ∷ rest) yes bad = enters_r t rest (sym (starts_is f (t ∷ rest)) ∙ yes) bad
  two_stay_r (u ∷ us) rest more bad is like = two_still f g u us rest more is like

  two_deep_p : (us rest more : List T) (t : T) → p (us ++ t ∷ rest) ≡ Err (Deep (suc (length rest))) → starts_two f g (us ++ t ∷ rest) ≡ true → starts_two f g (us ++ t ∷ more) ≡ true
  two_deep_p [] rest more t bad is = absurd (opens_p t rest (two_parts f g t rest is).0 bad)
  two_deep_p (u ∷ []) rest more t bad is =
      let (is_f, is_g) = two_parts f g u (t ∷ rest) is in two_yes f g u (t ∷ more) is_f (starts_same g t more rest ∙ is_g)
  two_deep_p (u ∷ (s ∷ us)) rest more t bad is =
      let (is_f, is_g) = two_parts f g u (s ∷ (us ++ t ∷ rest)) is in two_yes f g u (s ∷ (us ++ t ∷ more)) is_f (starts_same g s (us ++ t ∷ more) (us ++ t ∷ rest) ∙ is_g)

  two_deep_r : (us rest more : List T) (t : T) → r (us ++ t ∷ rest) ≡ Err (Deep (suc (length rest))) → starts_two f g (us ++ t ∷ rest) ≡ false → starts_two f g (us ++ t ∷ more) ≡ false
  two_deep_r [] rest more t bad is = elim (which (f t)) [
    | inl yes ↦ absurd (opens_r t rest yes bad)
    | inr no ↦ two_none f g (t ∷ more) (starts_is f (t ∷ more) ∙ no)
  ]
  two_deep_r (u ∷ us) rest more t bad is = two_still f g u us (t ∷ rest) (t ∷ more) is (inr refl)

  pub right_two : ReadsRule n Stop (Or S R) (Or S' R') (two f g p r)
  right_two = right_choose n Stop (starts_two f g) S S' R R' p r right_p right_r
      (λ us rest b s stop. two_taken us rest b s) apart
      (λ us rest more b s is like. two_taken us more b s) (λ us rest more b s is like good. two_keep us rest more b s is like) two_stay_p
      (λ us rest more bad is like bad'. two_stay_r us rest more bad is like) two_deep_p (λ us rest more t bad is bad'. two_deep_r us rest more t bad is)

-- where the second token is another one
pub two_taken_not : {T : Type 0} (f g : T → Bool) (t : T) (ts : List T) → (f t ≡ true → starts g ts ≡ false) → starts_two f g (t ∷ ts) ≡ false
unfolding starts_two
two_taken_not f g t ts h = go (f t) refl
  where
    go : (b : Bool) → f t ≡ b → second b g ts ≡ false
    go true is = h is
    go false is = refl
