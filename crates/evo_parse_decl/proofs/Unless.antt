-- A reader that looks at the tokens before it chooses, where the second rule leaves to the first what it looks for.
use Rattle.std.proofs.Common.{◌≡◌, ℕ, suc, ◌≤◌, Bool, true, false, List, [], ◌∷◌, ◌++◌, length, Option, Ok, Err, refl, sym, ◌∙◌, ap, subst, ◌⊎◌, inl, inr, append_assoc}
use Rattle.std.specs.Prelude.{cond}
use Rattle.evo_combinators.specs.declared.Fault.TheVariants.{Grammar, Deep}
use Rattle.evo_combinators.specs.Rule.{Or, IsViablePrefix}
use Rattle.evo_combinators.specs.Reader.{Reader}
use Rattle.evo_combinators.specs.Guard.{choose}
use Rattle.evo_combinators.specs.Laws.{SameLookahead, ReadsRule, first}
use Rattle.evo_combinators.proofs.Laws.{SameLookahead-refl, goes_by, maybe_by}
use Rattle.evo_combinators.proofs.GuardLaws.{which}
use Rattle.evo_tree.specs.Pieces.{Piece}
use Rattle.evo_tree.specs.Declarations.{Unless}

module _ {B : Type 0} (n : ℕ) (Stop : Option Piece → Type 0) (c : List Piece → Bool) (S S' R R' : List Piece → B → Type 0) (p r : Reader Piece B)
    (right_p : ReadsRule n Stop S S' p) (right_r : ReadsRule n Stop R R' r)
    (grows : (us more : List Piece) → c us ≡ true → c (us ++ more) ≡ true)
    (taken : (us : List Piece) (b : B) → S us b → c us ≡ true)
    (kept : (us more : List Piece) (b : B) → R us b → c us ≡ false → c (us ++ more) ≡ false)
    (goes : (us rest : List Piece) → c (us ++ rest) ≡ false → IsViablePrefix R' us → IsViablePrefix (Or S' (Unless c R')) us)
    (stay_p : (us rest more : List Piece) → length (us ++ rest) ≤ n → p (us ++ rest) ≡ Err (Grammar (length rest)) → c (us ++ rest) ≡ true → SameLookahead rest more →
    (c (us ++ more) ≡ true) ⊎ ((c (us ++ more) ≡ false) × (r (us ++ more) ≡ Err (Grammar (length more)))))
    (stay_r : (us rest more : List Piece) → r (us ++ rest) ≡ Err (Grammar (length rest)) → c (us ++ rest) ≡ false → SameLookahead rest more → c (us ++ more) ≡ false)
    (deep_p : (us rest more : List Piece) (t : Piece) → p (us ++ t ∷ rest) ≡ Err (Deep (suc (length rest))) → c (us ++ t ∷ rest) ≡ true → c (us ++ t ∷ more) ≡ true)
    (deep_r : (us rest more : List Piece) (t : Piece) → r (us ++ t ∷ rest) ≡ Err (Deep (suc (length rest))) → c (us ++ t ∷ rest) ≡ false → c (us ++ t ∷ more) ≡ false) where
  yes : (ts : List Piece) → c ts ≡ true → choose c p r ts ≡ p ts
  yes ts e = ap (λ b. cond b (p ts) (r ts)) e

  no : (ts : List Piece) → c ts ≡ false → choose c p r ts ≡ r ts
  no ts e = ap (λ b. cond b (p ts) (r ts)) e

  wide : (us : List Piece) (b : B) → Or S (Unless c R) us b → Or S' (Unless c R') us b
  wide us b (inl s) = inl (right_p.wider us b s)
  wide us b (inr (is, s)) = inr (is, right_r.wider us b s)

  shorter : (us rest : List Piece) → c (us ++ rest) ≡ false → c us ≡ false
  shorter us rest is = go (c us) refl
    where
      go : (b : Bool) → c us ≡ b → b ≡ false
      go true yes = let both = sym is ∙ grows us rest yes in cc
      go false yes = refl

  sound : (ts rest : List Piece) (b : B) → length ts ≤ n → choose c p r ts ≡ Ok (b, rest) →
      (us : List Piece) × (ts ≡ us ++ rest) × Or S (Unless c R) us b × ((more : List Piece) → length (us ++ more) ≤ n → SameLookahead rest more → choose c p r (us ++ more) ≡ Ok (b, more))
  sound ts rest b fits e = elim (which (c ts)) [
    | inl is ↦
        let (us, cut, s, again) = right_p.sound ts rest b fits (sym (yes ts is) ∙ e) in
        (us, cut, inl s, λ more all like. yes (us ++ more) (grows us more (taken us b s)) ∙ again more all like)
    | inr is ↦
        let (us, cut, s, again) = right_r.sound ts rest b fits (sym (no ts is) ∙ e) in
        let isnt = shorter us rest (subst (λ x. c x ≡ false) cut is) in
        (us, cut, inr (isnt, s), λ more all like. no (us ++ more) (kept us more b s isnt) ∙ again more all like)
  ]

  complete : (us rest : List Piece) (b : B) → length (us ++ rest) ≤ n → Or S (Unless c R) us b → Stop (first rest) → choose c p r (us ++ rest) ≡ Ok (b, rest)
  complete us rest b fits (inl s) stop = yes (us ++ rest) (grows us rest (taken us b s)) ∙ right_p.complete us rest b fits s stop
  complete us rest b fits (inr (is, s)) stop = no (us ++ rest) (kept us rest b s is) ∙ right_r.complete us rest b fits s stop

  maybe_goes : (us rest : List Piece) → c (us ++ rest) ≡ false → (us ≡ []) ⊎ IsViablePrefix R' us → (us ≡ []) ⊎ IsViablePrefix (Or S' (Unless c R')) us
  maybe_goes us rest is (inl e) = inl e
  maybe_goes us rest is (inr g) = inr (goes us rest is g)

  refuses : (ts : List Piece) (k : ℕ) → length ts ≤ n → choose c p r ts ≡ Err (Grammar k) →
      (us : List Piece) × (rest : List Piece) × (ts ≡ us ++ rest) × ((us ≡ []) ⊎ IsViablePrefix (Or S' (Unless c R')) us)
      × ((more : List Piece) → length (us ++ more) ≤ n → SameLookahead rest more → choose c p r (us ++ more) ≡ Err (Grammar (length more)))
  refuses ts k fits e = elim (which (c ts)) [
    | inl is ↦
        let (us, rest, cut, g, again) = right_p.refuses ts k fits (sym (yes ts is) ∙ e) in
        let here = again rest (subst (λ x. length x ≤ n) cut fits) (SameLookahead-refl rest) in (
          us,
          rest,
          cut,
          maybe_by S' (Or S' (Unless c R')) (λ us b s. inl s) us g,
          λ more all like. elim (stay_p us rest more (subst (λ x. length x ≤ n) cut fits) here (subst (λ x. c x ≡ true) cut is) like) [
            | inl true' ↦ yes (us ++ more) true' ∙ again more all like
            | inr (false', bad) ↦ no (us ++ more) false' ∙ bad
          ],
        )
    | inr is ↦
        let (us, rest, cut, g, again) = right_r.refuses ts k fits (sym (no ts is) ∙ e) in
        let here = again rest (subst (λ x. length x ≤ n) cut fits) (SameLookahead-refl rest) in
        let is' = subst (λ x. c x ≡ false) cut is in
        (us, rest, cut, maybe_goes us rest is' g, λ more all like. no (us ++ more) (stay_r us rest more here is' like) ∙ again more all like)
  ]

  opens : (us rest : List Piece) (t : Piece) → c (us ++ t ∷ rest) ≡ false → IsViablePrefix R' (us ++ t ∷ []) → IsViablePrefix (Or S' (Unless c R')) (us ++ t ∷ [])
  opens us rest t is g = goes (us ++ t ∷ []) rest (subst (λ x. c x ≡ false) (sym (append_assoc us (t ∷ []) rest)) is) g

  deepens : (ts : List Piece) (k : ℕ) → length ts ≤ n → choose c p r ts ≡ Err (Deep k) →
      (us : List Piece) × (t : Piece) × (rest : List Piece) × (ts ≡ us ++ t ∷ rest) × ((us ≡ []) ⊎ IsViablePrefix (Or S' (Unless c R')) us) × IsViablePrefix (Or S' (Unless c R')) (us ++ t ∷ [])
      × ((more : List Piece) → length (us ++ t ∷ more) ≤ n → choose c p r (us ++ t ∷ more) ≡ Err (Deep (suc (length more))))
  deepens ts k fits e = elim (which (c ts)) [
    | inl is ↦
        let (us, t, rest, cut, g, o, again) = right_p.deepens ts k fits (sym (yes ts is) ∙ e) in
        let here = again rest (subst (λ x. length x ≤ n) cut fits) in (
          us,
          t,
          rest,
          cut,
          maybe_by S' (Or S' (Unless c R')) (λ us b s. inl s) us g,
          goes_by S' (Or S' (Unless c R')) (λ us b s. inl s) (us ++ t ∷ []) o,
          λ more all. yes (us ++ t ∷ more) (deep_p us rest more t here (subst (λ x. c x ≡ true) cut is)) ∙ again more all,
        )
    | inr is ↦
        let (us, t, rest, cut, g, o, again) = right_r.deepens ts k fits (sym (no ts is) ∙ e) in
        let here = again rest (subst (λ x. length x ≤ n) cut fits) in
        let is' = subst (λ x. c x ≡ false) cut is in
        (us, t, rest, cut, maybe_goes us (t ∷ rest) is' g, opens us rest t is' o, λ more all. no (us ++ t ∷ more) (deep_r us rest more t here is') ∙ again more all)
  ]

  pub right_unless : ReadsRule n Stop (Or S (Unless c R)) (Or S' (Unless c R')) (choose c p r)
  right_unless = record { wider = wide; ended = right_r.ended; sound = sound; complete = complete; refuses = refuses; deepens = deepens }
