-- The laws of a repetition with a state.
use Rattle.std.specs.Prelude.{◌≡◌, ℕ, zero, suc, ◌≤◌, Bool, true, false, cond, List, [], ◌∷◌, ◌++◌, length, Option, Some, None, Ok, Err, refl}
use Rattle.std.proofs.Common.{sym, ◌∙◌, ap, subst, inl, inr, arith, length-append}
use Rattle.evo_combinators.specs.declared.Fault.TheVariants.{Grammar}
use Rattle.evo_combinators.specs.Reader.{Outcome, Reader, and_then, ◌>>=◌, pure}
use Rattle.evo_combinators.specs.Rule.{Empty, Or, Then}
use Rattle.evo_combinators.specs.Guard.{starts, Run, run_from, run}
use Rattle.evo_combinators.proofs.Laws.{SameLookahead-refl, right_same, right_then_by, right_map, right_pure, right_ext, ok_parts, ok_both, split_err, to_map, of_map}
use Rattle.evo_combinators.proofs.GuardLaws.{starts_is, right_on}
use Rattle.evo_combinators.specs.Laws.{Begins, Enters, ReadsRule, first, of_first}

module _ {T B St : Type 0} (Stop StopQ : Option T → Type 0) (g : St → T → Bool) (S S' : St → List T → B → Type 0) (q : St → Reader T B) (next : St → B → St)
    (right_q : (n : ℕ) (s : St) → ReadsRule n StopQ (S s) (S' s) (q s))
    (begins : (s : St) → Begins (λ t. g s t ≡ true) (S s)) (entered : (s : St) (t : T) (us : List T) → g s t ≡ true → q s (t ∷ us) ≡ Err (Grammar (suc (length us))) → ⊥)
    (ended : Stop None) (stops : (s : St) (x : Option T) → Stop x → of_first (g s) x ≡ false)
    (ends : (x : Option T) → Stop x → StopQ x) (follow : (s : St) (b : B) (t : T) → g (next s b) t ≡ true → StopQ (Some t)) where
  -- one turn, as the parts have it
  abbrev Turn : (St → List T → B → Type 0) → St → List T → List B → Type 0
  Turn R s = Or (Then (R s) (λ b. Then (Run R next (next s b)) (λ bs. Empty (b ∷ bs)))) (Empty [])

  to_run : (R : St → List T → B → Type 0) (s : St) (us : List T) (bs : List B) → Turn R s us bs → Run R next s us bs
  to_run R s us bs (inl (b, vs, ws, cut, r, m)) =
      let (bs', m', e) = of_map (Run R next (next s b)) (λ bs. b ∷ bs) ws bs m in
      subst (Run R next s us) (sym e) (vs, ws, cut, r, m')
  to_run R s us bs (inr (e, e')) = subst (Run R next s us) (sym e') e

  of_run : (R : St → List T → B → Type 0) (s : St) (us : List T) (bs : List B) → Run R next s us bs → Turn R s us bs
  of_run R s us [] e = inr (e, refl)
  of_run R s us (b ∷ bs) (vs, ws, cut, r, m) = inl (b, vs, ws, cut, r, to_map (Run R next (next s b)) (λ bs. b ∷ bs) ws bs m)

  -- what stands first in any number of turns behind one, and behind them
  pub run_first : (s : St) (b : B) (us rest : List T) (bs : List B) → Run S next (next s b) us bs → Stop (first rest) → StopQ (first (us ++ rest))
  run_first s b us rest [] e stop = subst (λ x. StopQ (first (x ++ rest))) (sym e) (ends (first rest) stop)
  run_first s b us rest (c ∷ bs) (vs, ws, cut, r, m) stop =
      let (t, xs, cut', is) = begins (next s b) vs c r in
      subst (λ x. StopQ (first (x ++ rest))) (sym (cut ∙ ap (λ x. x ++ ws) cut')) (follow s b t is)

  no_turn : (s : St) (us rest : List T) (bs : List B) → Empty [] us bs → Stop (first rest) → starts (g s) (us ++ rest) ≡ false
  no_turn s us rest bs (e, e') stop = ap (λ x. starts (g s) (x ++ rest)) e ∙ starts_is (g s) rest ∙ stops s (first rest) stop

  less : (s : St) (n : ℕ) (us vs : List T) (b : B) → S s us b → length (us ++ vs) ≤ suc n → length vs ≤ n
  less s n us vs b r fits = let (t, xs, cut, is) = begins s us b r in omega (arith, length-append us vs, ap length cut)

  enters : (n : ℕ) (s : St) (later : B → Reader T (List B)) (L W : B → List T → List B → Type 0) → ((b : B) → ReadsRule n Stop (L b) (W b) (later b)) →
      Enters (suc n) (g s) (q s >>= later)
  enters n s later L W right t us fits is bad = elim (split_err (q s (t ∷ us)) later (Grammar (suc (length us))) bad) [
    | inl here ↦ entered s t us is here
    | inr (b, mid, e, bad') ↦
        let m = length (t ∷ us) in
        let (vs, cut, r, again) = (right_q m s).sound (t ∷ us) mid b (omega arith) e in
        let (x, xs, cut', is') = begins s vs b r in
        let short : length mid ≤ length us = omega (arith, ap length cut, length-append vs mid, ap length cut') in
        let (us', rest, cut'', goes, again') = (right b).refuses mid (suc (length us)) (omega arith) bad' in
        let here = again' rest (subst (λ x. length x ≤ n) cut'' (omega arith)) (SameLookahead-refl rest) in
        let count : suc (length us) ≡ length rest = let both = sym bad' ∙ ap (later b) cut'' ∙ here in cc in
        omega (arith, ap length cut'', length-append us' rest)
  ]

  right_from : (n : ℕ) (s : St) → ReadsRule n Stop (Run S next s) (Run S' next s) (run_from g q next n s)
  right_from zero s = right_zero
    where
      nothing : (us : List T) (bs : List B) → length us ≤ 0 → Run S next s us bs → (us ≡ []) × (bs ≡ [])
      nothing us [] fits e = (e, refl)
      nothing us (b ∷ bs) fits (vs, ws, cut, r, m) = let (t, xs, cut', is) = begins s vs b r in absurd (omega (arith, ap length cut, length-append vs ws, ap length cut'))

      wide : (s : St) (us : List T) (bs : List B) → Run S next s us bs → Run S' next s us bs
      wide s us [] e = e
      wide s us (b ∷ bs) (vs, ws, cut, r, m) = (vs, ws, cut, (right_q 0 s).wider vs b r, wide (next s b) ws bs m)

      right_zero : ReadsRule 0 Stop (Run S next s) (Run S' next s) (run_from g q next 0 s)
      right_zero = record {
        wider = wide s;
        ended = ended;
        sound = λ ts rest bs fits e. let p = ok_parts e in ([], p.1, subst (Run S next s []) p.0 refl, λ more all like. ok_both p.0 refl);
        complete = λ us rest bs fits m stop. let (e, e') = nothing us bs (omega (arith, length-append us rest)) m in ok_both (sym e') (ap (λ x. x ++ rest) e);
        refuses = λ ts k fits e. absurd (cc);
        deepens = λ ts k fits e. absurd (cc);
      }
  right_from (suc n) s =
      let later : B → Reader T (List B) = λ b. run_from g q next n (next s b) >>= (λ bs. pure (b ∷ bs)) in
      let right_later = λ (b : B). right_map n Stop (Run S next (next s b)) (Run S' next (next s b)) (run_from g q next n (next s b)) (λ bs. b ∷ bs) (right_from n (next s b)) in
      right_same (suc n) Stop (Turn S s) (Turn S' s) (Run S next s) (Run S' next s) _ (to_run S s) (of_run S s) (to_run S' s)
      (right_on (suc n) Stop (g s) _ _ _ _ (q s >>= later) (pure [])
      (right_then_by (suc n) n StopQ Stop (S s) (S' s) _ _ (q s) later (right_q (suc n) s) right_later (λ us vs b r fits. less s n us vs b r fits)
      (λ b vs rest bs m stop. let (bs', m', e) = of_map (Run S next (next s b)) (λ bs. b ∷ bs) vs bs m in run_first s b vs rest bs' m' stop)
      (λ b. ([], b ∷ [], to_map (Run S' next (next s b)) (λ bs. b ∷ bs) [] [] refl)) ended)
      (right_pure (suc n) Stop ended [])
      (λ us bs (b, vs, ws, cut, r, m). let (t, xs, cut', is) = begins s vs b r in (t, xs ++ ws, cut ∙ ap (λ x. x ++ ws) cut', is))
      (enters n s later _ _ right_later) (no_turn s))

  run_nil : (n : ℕ) (s : St) → run_from g q next n s [] ≡ Ok ([], [])
  run_nil zero s = refl
  run_nil (suc n) s = ap (λ c. cond c ((q s >>= (λ b. run_from g q next n (next s b) >>= (λ bs. pure (b ∷ bs)))) []) (Ok ([], []))) (starts_is (g s) [])

  -- the bound is no matter
  same_from : (n m : ℕ) (s : St) (ts : List T) → length ts ≤ n → length ts ≤ m → run_from g q next n s ts ≡ run_from g q next m s ts
  same_from zero zero s ts a b = refl
  same_from zero (suc m) s [] a b = sym (run_nil (suc m) s)
  same_from zero (suc m) s (t ∷ ts) a b = absurd (omega arith)
  same_from (suc n) zero s [] a b = run_nil (suc n) s
  same_from (suc n) zero s (t ∷ ts) a b = absurd (omega arith)
  same_from (suc n) (suc m) s ts low high = same_turn (starts (g s) ts) (λ b rest fits. same_from n m (next s b) rest (omega arith) (omega arith)) (q s ts) refl
    where
      same_then : ((b : B) (rest : List T) → suc (length rest) ≤ length ts → run_from g q next n (next s b) rest ≡ run_from g q next m (next s b) rest) →
          (o : Outcome T B) → q s ts ≡ o →
          and_then o (λ b. run_from g q next n (next s b) >>= (λ bs. pure (b ∷ bs))) ≡ and_then o (λ b. run_from g q next m (next s b) >>= (λ bs. pure (b ∷ bs)))
      same_then later (Ok (y, rest)) e =
          let (us, cut, r, again) = (right_q (length ts) s).sound ts rest y (omega arith) e in
          let (t, xs, cut', is) = begins s us y r in
          ap (λ o. and_then o (λ bs. pure (y ∷ bs))) (later y rest (omega (arith, ap length cut, length-append us rest, ap length cut')))
      same_then later (Err d) e = refl

      same_turn : (c : Bool) → ((b : B) (rest : List T) → suc (length rest) ≤ length ts → run_from g q next n (next s b) rest ≡ run_from g q next m (next s b) rest) →
          (o : Outcome T B) → q s ts ≡ o →
          cond c (and_then (q s ts) (λ b. run_from g q next n (next s b) >>= (λ bs. pure (b ∷ bs)))) (Ok ([], ts))
          ≡ cond c (and_then (q s ts) (λ b. run_from g q next m (next s b) >>= (λ bs. pure (b ∷ bs)))) (Ok ([], ts))
      same_turn true later o e = same_then later (q s ts) refl
      same_turn false later o e = refl

  pub right_run : (n : ℕ) (s : St) → ReadsRule n Stop (Run S next s) (Run S' next s) (run g q next s)
  unfolding run
  right_run n s = right_ext n Stop (Run S next s) (Run S' next s) (run_from g q next n s) (run g q next s)
      (λ ts fits. same_from (length ts) n s ts (omega arith) fits) (right_from n s)
