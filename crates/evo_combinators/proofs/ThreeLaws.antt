-- The laws of readers that look ahead by three tokens.
use Rattle.std.specs.Prelude.{◌≡◌, ℕ, suc, ◌≤◌, Bool, true, false, cond, List, [], ◌∷◌, ◌++◌, length, Option, Some, Ok, Err, ◌⊎◌, refl}
use Rattle.std.proofs.Common.{sym, ◌∙◌, ap, inl, inr, arith, length-append}
use Rattle.evo_combinators.specs.declared.Fault.TheVariants.{Grammar, Deep}
use Rattle.evo_combinators.specs.Reader.{Outcome, Reader, and_then, ◌>>=◌, one, pure, refuse, lead, paired, branch}
use Rattle.evo_combinators.specs.Rule.{Or}
use Rattle.evo_combinators.specs.Guard.{starts, starts_two, second}
use Rattle.evo_combinators.specs.Three.{starts_three, behind_first, three}
use Rattle.evo_combinators.specs.Laws.{SameLookahead, ReadsRule, first}
use Rattle.evo_combinators.proofs.GuardLaws.{starts_is, right_choose, which}
use Rattle.evo_combinators.proofs.Entered.{refused_within}

-- what is too deep stands among the tokens
module _ {T A : Type 0} (Stop : Option T → Type 0) (S W : List T → A → Type 0) (p : Reader T A) (right : (n : ℕ) → ReadsRule n Stop S W p) where
  pub deep_within : (ts : List T) (k : ℕ) → p ts ≡ Err (Deep k) → k ≤ length ts
  deep_within ts k e =
      let n = length ts in
      let (us, t, rest, cut, goes, opens, again) = (right n).deepens ts k (omega arith) e in
      let here = again rest (omega (arith, ap length cut)) in
      let count : k ≡ suc (length rest) = let both = sym e ∙ ap p cut ∙ here in cc in
      omega (arith, ap length cut, length-append us (t ∷ rest))

pub one_takes : {T A : Type 0} (f : T → Option A) (t : T) (a : A) (us : List T) → f t ≡ Some a → one f (t ∷ us) ≡ Ok (a, us)
unfolding lead
one_takes f t a us e = ap (λ o. branch (paired o us) pure (refuse (t ∷ us))) e

-- readers of three tokens and something behind them do not stop at these
module _ {T A B C D : Type 0} (Stop : Option T → Type 0) (S W : A → List T → D → Type 0) (f : T → Option A) (g : T → Option B) (h : T → Option C) (q : A → Reader T D)
    (right : (a : A) (n : ℕ) → ReadsRule n Stop (S a) (W a) (q a)) (t s u : T) (a : A) (b : B) (c : C) (takes : f t ≡ Some a) (takes' : g s ≡ Some b) (takes'' : h u ≡ Some c) (us : List T) where
  abbrev Behind : Reader T D
  Behind = one f >>= (λ x. one g >>= (λ _. one h >>= (λ _. q x)))

  taken_three : Behind (t ∷ (s ∷ (u ∷ us))) ≡ q a us
  taken_three =
      ap (λ o. and_then o (λ x. one g >>= (λ _. one h >>= (λ _. q x)))) (one_takes f t a (s ∷ (u ∷ us)) takes)
      ∙ ap (λ o. and_then o (λ _. one h >>= (λ _. q a))) (one_takes g s b (u ∷ us) takes')
      ∙ ap (λ o. and_then o (λ _. q a)) (one_takes h u c us takes'')

  pub far_refused : (k : ℕ) → Behind (t ∷ (s ∷ (u ∷ us))) ≡ Err (Grammar k) → k ≤ length us
  far_refused k e = refused_within Stop (S a) (W a) (q a) (right a) us k (sym taken_three ∙ e)

  pub far_deep : (k : ℕ) → Behind (t ∷ (s ∷ (u ∷ us))) ≡ Err (Deep k) → k ≤ length us
  far_deep k e = deep_within Stop (S a) (W a) (q a) (right a) us k (sym taken_three ∙ e)

-- ---- the tests

module _ {T : Type 0} (f g h : T → Bool) where
  three_yes : (t s u : T) (us : List T) → f t ≡ true → g s ≡ true → h u ≡ true → starts_three f g h (t ∷ (s ∷ (u ∷ us))) ≡ true
  unfolding starts_three starts_two
  three_yes t s u us is is' is'' =
      ap (λ b. behind_first b g h (s ∷ (u ∷ us))) is ∙ ap (λ b. second b h (u ∷ us)) is' ∙ starts_is h (u ∷ us) ∙ is''

  two_parts : (ts : List T) → starts_two g h ts ≡ true → (s : T) × (u : T) × (us : List T) × (ts ≡ s ∷ (u ∷ us)) × (g s ≡ true) × (h u ≡ true)
  unfolding starts_two starts
  two_parts [] e = absurd (cc)
  two_parts (s ∷ []) e = absurd (go (g s) e)
    where
      go : (b : Bool) → second b h [] ≡ true → ⊥
      go true e = cc
      go false e = cc
  two_parts (s ∷ (u ∷ us)) e = go (g s) refl e
    where
      go : (b : Bool) → g s ≡ b → second b h (u ∷ us) ≡ true → (s' : T) × (u' : T) × (us' : List T) × (s ∷ (u ∷ us) ≡ s' ∷ (u' ∷ us')) × (g s' ≡ true) × (h u' ≡ true)
      go true is e = (s, u, us, refl, is, e)
      go false is e = absurd (cc)

  three_parts : (ts : List T) → starts_three f g h ts ≡ true → (t : T) × (s : T) × (u : T) × (us : List T) × (ts ≡ t ∷ (s ∷ (u ∷ us))) × (f t ≡ true) × (g s ≡ true) × (h u ≡ true)
  unfolding starts_three
  three_parts [] e = absurd (cc)
  three_parts (t ∷ ts) e = go (f t) refl e
    where
      go : (b : Bool) → f t ≡ b → behind_first b g h ts ≡ true →
          (t' : T) × (s : T) × (u : T) × (us : List T) × (t ∷ ts ≡ t' ∷ (s ∷ (u ∷ us))) × (f t' ≡ true) × (g s ≡ true) × (h u ≡ true)
      go true is e = let (s, u, us, cut, is', is'') = two_parts ts e in (t, s, u, us, ap (λ x. t ∷ x) cut, is, is', is'')
      go false is e = absurd (cc)

-- where the first token is another one
pub three_other : {T B : Type 0} (f g h : T → Bool) (p r : Reader T B) (t : T) (us : List T) → f t ≡ false → three f g h p r (t ∷ us) ≡ r (t ∷ us)
unfolding starts_three
three_other f g h p r t us isnt = ap (λ b. cond (behind_first b g h us) (p (t ∷ us)) (r (t ∷ us))) isnt

-- `blocked`: the second reader refuses the third of three such tokens.
-- `far`, `deep`: the first reader does not stop at one of them.
module _ {T B : Type 0} (n : ℕ) (Stop : Option T → Type 0) (f g h : T → Bool) (S S' R R' : List T → B → Type 0) (p r : Reader T B)
    (right_p : ReadsRule n Stop S S' p) (right_r : (n : ℕ) → ReadsRule n Stop R R' r)
    (triple : (us : List T) (b : B) → S us b → (t : T) × (s : T) × (u : T) × (vs : List T) × (us ≡ t ∷ (s ∷ (u ∷ vs))) × (f t ≡ true) × (g s ≡ true) × (h u ≡ true))
    (blocked : (t s u : T) (us : List T) → f t ≡ true → g s ≡ true → h u ≡ true → r (t ∷ (s ∷ (u ∷ us))) ≡ Err (Grammar (suc (length us))))
    (far : (t s u : T) (us : List T) (k : ℕ) → f t ≡ true → g s ≡ true → h u ≡ true → p (t ∷ (s ∷ (u ∷ us))) ≡ Err (Grammar k) → k ≤ length us)
    (deep : (t s u : T) (us : List T) (k : ℕ) → f t ≡ true → g s ≡ true → h u ≡ true → p (t ∷ (s ∷ (u ∷ us))) ≡ Err (Deep k) → k ≤ length us) where
  abbrev C : List T → Bool
  C = starts_three f g h

  refused : (ts : List T) → C ts ≡ true → (k : ℕ) × (r ts ≡ Err (Grammar k)) × (suc (suc k) ≡ length ts)
  refused ts is =
      let (t, s, u, us, cut, is', is'', is3) = three_parts f g h ts is in
      (suc (length us), ap r cut ∙ blocked t s u us is' is'' is3, sym (ap length cut))

  -- the second reader reads something, so that no three such tokens stand there
  other : (ts : List T) (o : Outcome T B) → r ts ≡ o → ((k : ℕ) → o ≡ Err (Grammar k) → ⊥) → C ts ≡ false
  other ts o e not = elim (which (C ts)) [
    | inl is ↦ let (k, bad, count) = refused ts is in absurd (not k (sym e ∙ bad))
    | inr isnt ↦ isnt
  ]

  taken : (us more : List T) (b : B) → S us b → C (us ++ more) ≡ true
  taken us more b s =
      let (t, s', u, vs, cut, is, is', is'') = triple us b s in
      ap (λ x. C (x ++ more)) cut ∙ three_yes f g h t s' u (vs ++ more) is is' is''

  apart : (us rest : List T) (b : B) → R us b → Stop (first rest) → C (us ++ rest) ≡ false
  apart us rest b s stop =
      other (us ++ rest) (Ok (b, rest)) ((right_r (length (us ++ rest))).complete us rest b (omega arith) s stop) (λ k bad. cc)

  -- where the first reader stops, three tokens were taken
  longer : (us rest more : List T) → C (us ++ rest) ≡ true → ((xs : List T) (t s u : T) → us ++ rest ≡ t ∷ (s ∷ (u ∷ xs)) → f t ≡ true → g s ≡ true → h u ≡ true → length rest ≤ length xs) →
      C (us ++ more) ≡ true
  longer us rest more is short = let (t, s, u, xs, cut, is', is'', is3) = three_parts f g h (us ++ rest) is in go us t s u xs cut is' is'' is3 (short xs t s u cut is' is'' is3)
    where
      go : (us : List T) (t s u : T) (xs : List T) → us ++ rest ≡ t ∷ (s ∷ (u ∷ xs)) → f t ≡ true → g s ≡ true → h u ≡ true → length rest ≤ length xs → C (us ++ more) ≡ true
      go [] t s u xs cut is is' is'' fits = absurd (omega (arith, ap length cut))
      go (a ∷ []) t s u xs cut is is' is'' fits = absurd (omega (arith, ap length cut))
      go (a ∷ (b ∷ [])) t s u xs cut is is' is'' fits = absurd (omega (arith, ap length cut))
      go (a ∷ (b ∷ (c ∷ us))) t s u xs cut is is' is'' fits =
          let one : a ≡ t = cc in
          let two : b ≡ s = cc in
          let three : c ≡ u = cc in
          three_yes f g h a b c (us ++ more) (ap f one ∙ is) (ap g two ∙ is') (ap h three ∙ is'')

  stay_p : (us rest more : List T) → length (us ++ rest) ≤ n → p (us ++ rest) ≡ Err (Grammar (length rest)) → C (us ++ rest) ≡ true → SameLookahead rest more →
      (C (us ++ more) ≡ true) ⊎ ((C (us ++ more) ≡ false) × (r (us ++ more) ≡ Err (Grammar (length more))))
  stay_p us rest more fits bad is like =
      inl (longer us rest more is (λ xs t s u cut is' is'' is3. far t s u xs (length rest) is' is'' is3 (sym (ap p cut) ∙ bad)))

  deep_p : (us rest more : List T) (t : T) → p (us ++ t ∷ rest) ≡ Err (Deep (suc (length rest))) → C (us ++ t ∷ rest) ≡ true → C (us ++ t ∷ more) ≡ true
  deep_p us rest more t bad is =
      longer us (t ∷ rest) (t ∷ more) is (λ xs t' s u cut is' is'' is3. deep t' s u xs (suc (length rest)) is' is'' is3 (sym (ap p cut) ∙ bad))

  stay_r : (us rest more : List T) → r (us ++ rest) ≡ Err (Grammar (length rest)) → C (us ++ rest) ≡ false → SameLookahead rest more → r (us ++ more) ≡ Err (Grammar (length more)) → C (us ++ more) ≡ false
  stay_r us rest more bad isnt like bad' = elim (which (C (us ++ more))) [
    | inl is ↦
        let (t, s, u, xs, cut, is', is'', is3) = three_parts f g h (us ++ more) is in
        let count : length more ≡ suc (length xs) = let both = sym bad' ∙ ap r cut ∙ blocked t s u xs is' is'' is3 in cc in
        absurd (go us t s u xs cut is' is'' is3 count isnt)
    | inr isnt' ↦ isnt'
  ]
    where
      third : (t s u : T) (more rest : List T) → f t ≡ true → g s ≡ true → h u ≡ true → first more ≡ Some u → SameLookahead rest more → C (t ∷ (s ∷ rest)) ≡ false → ⊥
      third t s u more [] is is' is'' next (inl none) isnt = let both = sym next ∙ ap first none in cc
      third t s u more [] is is' is'' next (inr same) isnt = let both = sym next ∙ same in cc
      third t s u more (v ∷ rest) is is' is'' next (inl none) isnt = let both = sym next ∙ ap first none in cc
      third t s u more (v ∷ rest) is is' is'' next (inr same) isnt =
          let at : v ≡ u = let both = sym same ∙ next in cc in
          let bad = sym (three_yes f g h t s v rest is is' (ap h at ∙ is'')) ∙ isnt in cc

      go : (us : List T) (t s u : T) (xs : List T) → us ++ more ≡ t ∷ (s ∷ (u ∷ xs)) → f t ≡ true → g s ≡ true → h u ≡ true → length more ≡ suc (length xs) → C (us ++ rest) ≡ false → ⊥
      go [] t s u xs cut is is' is'' count isnt = omega (arith, ap length cut)
      go (a ∷ []) t s u xs cut is is' is'' count isnt = omega (arith, ap length cut)
      go (a ∷ (b ∷ [])) t s u xs cut is is' is'' count isnt =
          let one : a ≡ t = cc in
          let two : b ≡ s = cc in
          let rests : more ≡ u ∷ xs = cc in
          third a b u more rest (ap f one ∙ is) (ap g two ∙ is') is'' (ap first rests) like isnt
      go (a ∷ (b ∷ (c ∷ us))) t s u xs cut is is' is'' count isnt = omega (arith, ap length cut, length-append us more)

  pub right_three : ReadsRule n Stop (Or S R) (Or S' R') (three f g h p r)
  right_three = right_choose n Stop C S S' R R' p r right_p (right_r n)
      (λ us rest b s stop. taken us rest b s) apart
      (λ us rest more b s is like. taken us more b s) (λ us rest more b s is like good. other (us ++ more) (Ok (b, more)) good (λ k bad. cc))
      stay_p stay_r deep_p (λ us rest more t bad is bad'. other (us ++ t ∷ more) (Err (Deep (suc (length more)))) bad' (λ k bad. cc))
