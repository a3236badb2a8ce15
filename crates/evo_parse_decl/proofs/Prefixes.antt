-- What a reader does with tokens with which a spelling goes on.
use Rattle.std.proofs.Common.{◌≡◌, ℕ, suc, ◌+◌, ◌≤◌, List, [], ◌∷◌, ◌++◌, length, Option, Ok, Err, refl, sym, ◌∙◌, ap, subst, arith, inl, inr, append-nil, append_assoc, length-append}
use Rattle.evo_combinators.specs.declared.Fault.TheVariants.{Grammar, Deep}
use Rattle.evo_combinators.specs.Rule.{IsViablePrefix}
use Rattle.evo_combinators.specs.Reader.{Reader, ◌>>=◌}
use Rattle.evo_combinators.specs.Laws.{SameLookahead, ReadsRule, Takes, first}
use Rattle.evo_combinators.proofs.Laws.{SameLookahead-refl, split_err}
use Rattle.evo_combinators.proofs.Entered.{refused_within}

-- two cuts with rests of one length are the same
pub same_cut : {T : Type 0} (us us' rest rest' : List T) → us ++ rest ≡ us' ++ rest' → length rest ≡ length rest' → (us ≡ us') × (rest ≡ rest')
same_cut [] [] rest rest' cut long = (refl, cut)
same_cut [] (u ∷ us') rest rest' cut long = absurd (omega (arith, ap length cut, length-append us' rest'))
same_cut (u ∷ us) [] rest rest' cut long = absurd (omega (arith, ap length cut, length-append us rest))
same_cut {T} (u ∷ us) (v ∷ us') rest rest' cut long =
    let both : (u ≡ v) × (us ++ rest ≡ us' ++ rest') = (cc, cc) in
    let (same, same') = same_cut us us' rest rest' both.1 long in
    (cc, same')

module _ {T A : Type 0} (Stop : Option T → Type 0) (S W : List T → A → Type 0) (p : Reader T A) (right : (n : ℕ) → ReadsRule n Stop S W p) where
  read_whole : (ts w : List T) (a : A) → S (ts ++ w) a → p (ts ++ w) ≡ Ok (a, [])
  read_whole ts w a s = ap p (sym (append-nil (ts ++ w))) ∙ (right (length ((ts ++ w) ++ []))).complete (ts ++ w) [] a (omega arith) s (right 0).ended

  -- they are refused at their end alone
  pub goes_end : (ts : List T) (k : ℕ) → IsViablePrefix S ts → p ts ≡ Err (Grammar k) → k ≡ 0
  goes_end ts k (w, a, s) bad =
      let n = length ts + length w in
      let (us, rest, cut, g, again) = (right n).refuses ts k (omega arith) bad in
      let here = again rest (subst (λ x. length x ≤ n) cut (omega arith)) (SameLookahead-refl rest) in
      let count : k ≡ length rest = let e = sym bad ∙ ap p cut ∙ here in cc in
      go us rest cut count again
    where
      go : (us rest : List T) → ts ≡ us ++ rest → k ≡ length rest →
          ((more : List T) → length (us ++ more) ≤ length ts + length w → SameLookahead rest more → p (us ++ more) ≡ Err (Grammar (length more))) → k ≡ 0
      go us [] cut count again = count
      go us (t ∷ rest) cut count again =
          let whole : ts ++ w ≡ us ++ (t ∷ (rest ++ w)) = ap (λ x. x ++ w) cut ∙ append_assoc us (t ∷ rest) w in
          let bad' = again (t ∷ (rest ++ w)) (omega (arith, ap length whole, length-append ts w)) (inr refl) in
          let both = sym (read_whole ts w a s) ∙ ap p whole ∙ bad' in absurd (cc)

  -- and open nothing too deep
  pub goes_shallow : (ts : List T) (k : ℕ) → IsViablePrefix S ts → p ts ≡ Err (Deep k) → ⊥
  goes_shallow ts k (w, a, s) bad =
      let n = length ts + length w in
      let (us, t, rest, cut, g, o, again) = (right n).deepens ts k (omega arith) bad in
      let whole : ts ++ w ≡ us ++ (t ∷ (rest ++ w)) = ap (λ x. x ++ w) cut ∙ append_assoc us (t ∷ rest) w in
      let bad' = again (rest ++ w) (omega (arith, ap length whole, length-append ts w)) in
      let both = sym (read_whole ts w a s) ∙ ap p whole ∙ bad' in cc

  -- a token with which a spelling goes on is not refused
  pub goes_through : (us rest : List T) (t : T) → IsViablePrefix S (us ++ t ∷ []) → p (us ++ t ∷ rest) ≡ Err (Grammar (suc (length rest))) → ⊥
  goes_through us rest t g bad =
      let n = length (us ++ t ∷ rest) in
      let (us', rest', cut, g', again) = (right n).refuses (us ++ t ∷ rest) (suc (length rest)) (omega arith) bad in
      let here = again rest' (subst (λ x. length x ≤ n) cut (omega arith)) (SameLookahead-refl rest') in
      let count : suc (length rest) ≡ length rest' = let e = sym bad ∙ ap p cut ∙ here in cc in
      let (same, same') = same_cut us us' (t ∷ rest) rest' cut count in
      let short : length (us' ++ t ∷ []) ≤ n = subst (λ x. length (x ++ t ∷ []) ≤ n) same (omega (arith, length-append us (t ∷ []), length-append us (t ∷ rest))) in
      let bad' = again (t ∷ []) short (inr (ap first same')) in
      let none = goes_end (us ++ t ∷ []) 1 g (ap (λ x. p (x ++ t ∷ [])) same ∙ bad') in
      omega arith

  pub goes_under : (us rest : List T) (t : T) → IsViablePrefix S (us ++ t ∷ []) → p (us ++ t ∷ rest) ≡ Err (Deep (suc (length rest))) → ⊥
  goes_under us rest t g bad =
      let n = length (us ++ t ∷ rest) in
      let (us', t', rest', cut, g', o, again) = (right n).deepens (us ++ t ∷ rest) (suc (length rest)) (omega arith) bad in
      let here = again rest' (subst (λ x. length x ≤ n) cut (omega arith)) in
      let count : suc (length rest) ≡ suc (length rest') = let e = sym bad ∙ ap p cut ∙ here in cc in
      let (same, same') = same_cut us us' (t ∷ rest) (t' ∷ rest') cut count in
      let short : length (us' ++ t' ∷ []) ≤ n = omega (arith, ap length cut, length-append us' (t' ∷ []), length-append us' (t' ∷ rest')) in
      let bad' = again [] short in
      let token : t ≡ t' = cc in
      goes_shallow (us ++ t ∷ []) 1 g (ap (λ x. p (x ++ t ∷ [])) same ∙ ap (λ x. p (us' ++ x ∷ [])) token ∙ bad')

  -- what is too deep stands among the tokens
  pub deep_within : (ts : List T) (k : ℕ) → p ts ≡ Err (Deep k) → k ≤ length ts
  deep_within ts k bad =
      let n = length ts in
      let (us, t, rest, cut, g, o, again) = (right n).deepens ts k (omega arith) bad in
      let here = again rest (subst (λ x. length x ≤ n) cut (omega arith)) in
      let count : k ≡ suc (length rest) = let e = sym bad ∙ ap p cut ∙ here in cc in
      omega (arith, ap length cut, length-append us (t ∷ rest))

  -- a token with which a spelling begins is taken
  pub goes_reads : (t : T) (us mid : List T) (a : A) → IsViablePrefix S (t ∷ []) → p (t ∷ us) ≡ Ok (a, mid) → length mid ≤ length us
  goes_reads t us mid a (w, b, s) good =
      let n = length (t ∷ us) + length (t ∷ w) in
      let (vs, cut, s', again) = (right n).sound (t ∷ us) mid a (omega arith) good in
      go vs cut again
    where
      go : (vs : List T) → t ∷ us ≡ vs ++ mid → ((more : List T) → length (vs ++ more) ≤ length (t ∷ us) + length (t ∷ w) → SameLookahead mid more → p (vs ++ more) ≡ Ok (a, more)) → length mid ≤ length us
      go [] cut again =
          let kept = again (t ∷ w) (omega arith) (inr (ap first cut)) in
          let both = sym (read_whole (t ∷ []) w b s) ∙ kept in
          let rests : ◌≡◌ {A = A × List T} (b, []) (a, t ∷ w) = cc in
          let none : ◌≡◌ {A = List T} [] (t ∷ w) = ap (λ x. x.1) rests in absurd (cc)
      go (v ∷ vs) cut again = omega (arith, ap length cut, length-append vs mid)

-- so it is not refused, whatever is read behind
pub takes_begun : {T A B : Type 0} (Stop StopR : Option T → Type 0) (S W : List T → A → Type 0) (R R' : A → List T → B → Type 0) (p : Reader T A) (q : A → Reader T B) →
    ((n : ℕ) → ReadsRule n Stop S W p) → ((a : A) (n : ℕ) → ReadsRule n StopR (R a) (R' a) (q a)) → (t : T) → IsViablePrefix S (t ∷ []) → Takes (p >>= q) t
takes_begun Stop StopR S W R R' p q right right' t g us bad = elim (split_err (p (t ∷ us)) q (Grammar (suc (length us))) bad) [
  | inl here ↦ goes_through Stop S W p right [] us t g here
  | inr (a, mid, is, e) ↦
      let short = goes_reads Stop S W p right t us mid a g is in
      let within = refused_within StopR (R a) (R' a) (q a) (right' a) mid (suc (length us)) e in
      omega (arith, short, within)
]
