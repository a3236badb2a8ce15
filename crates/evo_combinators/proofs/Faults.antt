-- What the answers of a reader say of its rule, at any nesting.
use Rattle.std.specs.Prelude.{◌≡◌, ℕ, zero, suc, ◌+◌, ◌≤◌, List, [], ◌∷◌, ◌++◌, length, Option, Ok, Err, ◌⊎◌, refl}
use Rattle.std.proofs.Common.{sym, ◌∙◌, ap, ap₂, subst, inl, inr, arith, length-append, append_assoc, append-nil}
use Rattle.std.proofs.Math.Nat.{le_refl}
use Rattle.std.proofs.lemmas.List.{append_cancel_right}
use Rattle.evo_combinators.specs.declared.Fault.TheVariants.{Grammar, Deep}
use Rattle.evo_combinators.specs.Reader.{Outcome, Reader}
use Rattle.evo_combinators.specs.Rule.{IsViablePrefix}
use Rattle.evo_combinators.proofs.Laws.{SameLookahead-refl}
use Rattle.evo_combinators.specs.Laws.{Ends, GrammarOf, SameLookahead}

cut_same : {T : Type 0} (us vs xs ys : List T) → us ++ xs ≡ vs ++ ys → length xs ≡ length ys → (us ≡ vs) × (xs ≡ ys)
cut_same [] [] xs ys e is = (refl, e)
cut_same [] (v ∷ vs) xs ys e is = absurd (omega (arith, ap length e, length-append vs ys))
cut_same (u ∷ us) [] xs ys e is = absurd (omega (arith, ap length e, length-append us xs))
cut_same (u ∷ us) (v ∷ vs) xs ys e is =
    let head : u ≡ v = cc in
    let tail : us ++ xs ≡ vs ++ ys = cc in
    let parts = cut_same us vs xs ys tail is in
    (ap₂ (λ x y. x ∷ y) head parts.0, parts.1)

module _ {T A : Type 0} (Stop : Option T → Type 0) (S : ℕ → List T → A → Type 0) (p : ℕ → Reader T A) (gram : GrammarOf Stop S p) where
  wider_by : (d k : ℕ) (us : List T) (a : A) → S d us a → S (d + k) us a
  wider_by d zero us a s = let e : d ≡ d + 0 = omega arith in subst (λ x. S x us a) e s
  wider_by d (suc k) us a s = let e : suc (d + k) ≡ d + suc k = omega arith in
      subst (λ x. S x us a) e ((gram.right (d + k) 0).wider us a (wider_by d k us a s))

  pub same_by : (d k : ℕ) (ts : List T) (o : Outcome T A) → p d ts ≡ o → ((n : ℕ) → o ≡ Err (Deep n) → ⊥) → p (d + k) ts ≡ o
  same_by d zero ts o e fine = let z : d + 0 ≡ d = omega arith in ap (λ x. p x ts) z ∙ e
  same_by d (suc k) ts o e fine =
      let z : d + suc k ≡ suc (d + k) = omega arith in
      let before = same_by d k ts o e fine in
      ap (λ x. p x ts) z ∙ elim (gram.deeper (d + k) ts) [ inl same ↦ same ∙ before | inr (n, bad) ↦ absurd (fine n (sym before ∙ bad)) ]

  whole : (d : ℕ) (us : List T) (a : A) → S d us a → p d us ≡ Ok (a, [])
  whole d us a s =
      let right = gram.right d (length (us ++ [])) in
      ap (p d) (sym (append-nil us)) ∙ right.complete us [] a (le_refl (length (us ++ []))) s right.ended

  -- a text spells at most one value
  pub one_value : (d e : ℕ) (us : List T) (a b : A) → S d us a → S e us b → a ≡ b
  one_value d e us a b s r =
      let swap : e + d ≡ d + e = omega arith in
      let both = sym (whole (d + e) us a (wider_by d e us a s)) ∙ whole (d + e) us b (subst (λ x. S x us b) swap (wider_by e d us b r)) in
      let same : ◌≡◌ {A = A × List T} (a, []) (b, []) = cc in ap (λ x. x.0) same

  -- what a reader answers to a front of a spelling, whatever follows, is that spelling's own answer
  clash : (d m : ℕ) (us : List T) (a : A) (o : Outcome T A) → p d us ≡ o → ((n : ℕ) → o ≡ Err (Deep n) → ⊥) → S m us a → o ≡ Ok (a, [])
  clash d m us a o e fine s =
      let swap : m + d ≡ d + m = omega arith in
      sym (same_by d m us o e fine) ∙ whole (d + m) us a (subst (λ x. S x us a) swap (wider_by m d us a s))

  -- a reader that stops with an answer before more tokens gives the same answer there, so none of them goes on
  stuck : (d m : ℕ) (us more : List T) (a : A) (o : Outcome T A) → p d (us ++ more) ≡ o → ((n : ℕ) → o ≡ Err (Deep n) → ⊥) →
      ((b : A) → o ≡ Ok (b, []) → ⊥) → S m (us ++ more) a → ⊥
  stuck d m us more a o e fine not s = not a (clash d m (us ++ more) a o e fine s)

  ok_again : (d : ℕ) (ts rest us : List T) (a : A) → p d ts ≡ Ok (a, rest) → ts ≡ us ++ rest → (more : List T) → SameLookahead rest more → p d (us ++ more) ≡ Ok (a, more)
  ok_again d ts rest us a e cut more like =
      let n = length ts + length (us ++ more) in
      let (us', cut', s', again') = (gram.right d n).sound ts rest a (omega arith) e in
      let same : us' ≡ us = append_cancel_right us' us rest (sym cut' ∙ cut) in
      ap (λ x. p d (x ++ more)) (sym same) ∙ again' more (subst (λ x. length (x ++ more) ≤ n) (sym same) (omega arith)) like

  -- what is read is a spelling, and no spelling goes on with the next token
  pub ok_says : (d : ℕ) (ts rest : List T) (a : A) → p d ts ≡ Ok (a, rest) → (us : List T) × (ts ≡ us ++ rest) × S d us a × Ends S us rest
  ok_says d ts rest a e =
      let (us, cut, s, again) = (gram.right d (length ts)).sound ts rest a (le_refl (length ts)) e in (
        us,
        cut,
        s,
        λ g is m (w, b, r).
            stuck d m us (g ∷ w) b (Ok (a, g ∷ w)) (ok_again d ts rest us a e cut (g ∷ w) (inr (sym is))) (λ n bad. cc)
            (λ c bad. let same : ◌≡◌ {A = A × List T} (a, g ∷ w) (c, []) = cc in let none : ◌≡◌ {A = List T} (g ∷ w) [] = ap (λ x. x.1) same in cc)
            (subst (λ x. S m x b) (append_assoc us (g ∷ []) w) r),
      )

  grammar_again : (d : ℕ) (ts us rest : List T) (k : ℕ) → p d ts ≡ Err (Grammar k) → ts ≡ us ++ rest → k ≡ length rest → (more : List T) → SameLookahead rest more →
      p d (us ++ more) ≡ Err (Grammar (length more))
  grammar_again d ts us rest k e cut is more like =
      let n = length ts + length (us ++ more) in
      let (us', rest', cut', goes', again') = (gram.right d n).refuses ts k (omega arith) e in
      let here = ap (p d) (sym cut') ∙ e in
      let there = again' rest' (subst (λ x. length x ≤ n) cut' (omega arith)) (SameLookahead-refl rest') in
      let size : length rest' ≡ k = let eq = sym there ∙ here in cc in
      let parts = cut_same us' us rest' rest (sym cut' ∙ cut) (size ∙ is) in
      ap (λ x. p d (x ++ more)) (sym parts.0) ∙ again' more (subst (λ x. length (x ++ more) ≤ n) (sym parts.0) (omega arith)) (subst (λ x. SameLookahead x more) (sym parts.1) like)

  -- where nothing is read, spellings go on with the tokens before that place, none with the next one too, and none ends there
  pub grammar_says : (d : ℕ) (ts : List T) (k : ℕ) → p d ts ≡ Err (Grammar k) →
      (us : List T) × (rest : List T) × (ts ≡ us ++ rest) × (k ≡ length rest) × ((us ≡ []) ⊎ IsViablePrefix (S (suc d)) us) × Ends S us rest × ((m : ℕ) (a : A) → S m us a → ⊥)
  grammar_says d ts k e =
      let n = length ts in
      let (us, rest, cut, goes, again) = (gram.right d n).refuses ts k (le_refl n) e in
      let there = again rest (subst (λ x. length x ≤ n) cut (le_refl n)) (SameLookahead-refl rest) in
      let is : k ≡ length rest = let eq = sym e ∙ ap (p d) cut ∙ there in cc in (
        us,
        rest,
        cut,
        is,
        goes,
        (λ g first_is m (w, b, r).
            stuck d m us (g ∷ w) b (Err (Grammar (length (g ∷ w)))) (grammar_again d ts us rest k e cut is (g ∷ w) (inr (sym first_is))) (λ n bad. cc) (λ c bad. cc)
            (subst (λ x. S m x b) (append_assoc us (g ∷ []) w) r)),
        (λ m a s.
            stuck d m us [] a (Err (Grammar 0)) (grammar_again d ts us rest k e cut is [] (inl refl)) (λ n bad. cc) (λ c bad. cc)
            (subst (λ x. S m x a) (sym (append-nil us)) s)),
      )

  deep_again : (d : ℕ) (ts us rest : List T) (t : T) (k : ℕ) → p d ts ≡ Err (Deep k) → ts ≡ us ++ t ∷ rest → k ≡ suc (length rest) → (more : List T) →
      p d (us ++ t ∷ more) ≡ Err (Deep (suc (length more)))
  deep_again d ts us rest t k e cut is more =
      let n = length ts + length (us ++ t ∷ more) in
      let (us', t', rest', cut', goes', opens', again') = (gram.right d n).deepens ts k (omega arith) e in
      let here = ap (p d) (sym cut') ∙ e in
      let there = again' rest' (subst (λ x. length x ≤ n) cut' (omega arith)) in
      let size : suc (length rest') ≡ k = let eq = sym there ∙ here in cc in
      let parts = cut_same us' us (t' ∷ rest') (t ∷ rest) (sym cut' ∙ cut) (size ∙ is) in
      let same : t' ≡ t = let eq = parts.1 in cc in
      ap₂ (λ x y. p d (x ++ y ∷ more)) (sym parts.0) (sym same) ∙ again' more (subst (λ x. length (x ++ t' ∷ more) ≤ n) (sym parts.0) (subst (λ x. length (us ++ x ∷ more) ≤ n) (sym same) (omega arith)))

  -- where nesting is too deep, spellings of more nesting go on with the token, and none of this nesting does
  pub deep_says : (d : ℕ) (ts : List T) (k : ℕ) → p d ts ≡ Err (Deep k) →
      (us : List T) × (t : T) × (rest : List T) × (ts ≡ us ++ t ∷ rest) × (k ≡ suc (length rest)) × ((us ≡ []) ⊎ IsViablePrefix (S (suc d)) us)
      × IsViablePrefix (S (suc d)) (us ++ t ∷ []) × (IsViablePrefix (S d) (us ++ t ∷ []) → ⊥)
  deep_says d ts k e =
      let n = length ts in
      let (us, t, rest, cut, goes, opens, again) = (gram.right d n).deepens ts k (le_refl n) e in
      let there = again rest (subst (λ x. length x ≤ n) cut (le_refl n)) in
      let is : k ≡ suc (length rest) = let eq = sym e ∙ ap (p d) cut ∙ there in cc in (
        us,
        t,
        rest,
        cut,
        is,
        goes,
        opens,
        λ (w, b, r).
            let bad = sym (whole d (us ++ t ∷ w) b (subst (λ x. S d x b) (append_assoc us (t ∷ []) w) r)) ∙ deep_again d ts us rest t k e cut is w in
            cc,
      )
