-- The laws of a rule that begins with one of some tokens, and what a token enters at any nesting.
use Rattle.std.specs.Prelude.{◌≡◌, ℕ, suc, ◌+◌, ◌≤◌, Bool, true, false, cond, List, [], ◌∷◌, ◌++◌, length, Option, Err, ◌⊎◌, refl}
use Rattle.std.proofs.Common.{sym, ◌∙◌, ap, subst, inl, inr, arith}
use Rattle.evo_combinators.specs.declared.Fault.TheVariants.{Grammar}
use Rattle.evo_combinators.specs.Reader.{Reader, refuse}
use Rattle.evo_combinators.specs.Rule.{IsViablePrefix}
use Rattle.evo_combinators.specs.Guard.{starts, on, On}
use Rattle.evo_combinators.proofs.GuardLaws.{which, starts_is, starts_still, starts_same, enters_by}
use Rattle.evo_combinators.proofs.Faults.{same_by}
use Rattle.evo_combinators.specs.Laws.{GrammarOf, SameLookahead, ReadsRule}

module _ {T B : Type 0} (n : ℕ) (Stop : Option T → Type 0) (g : T → Bool) (S S' : List T → B → Type 0) (p : Reader T B) (right : ReadsRule n Stop S S' p) (some : (b : B) → S [] b → ⊥) where
  yes : (ts : List T) → starts g ts ≡ true → on g p refuse ts ≡ p ts
  yes ts e = ap (λ b. cond b (p ts) (Err (Grammar (length ts)))) e

  no : (ts : List T) → starts g ts ≡ false → on g p refuse ts ≡ Err (Grammar (length ts))
  no ts e = ap (λ b. cond b (p ts) (Err (Grammar (length ts)))) e

  front : (us rest : List T) (b : B) → S us b → starts g (us ++ rest) ≡ true → On g S us b
  front [] rest b s is = absurd (some b s)
  front (u ∷ us) rest b s is = (u, us, refl, sym (starts_is g (u ∷ (us ++ rest))) ∙ is, s)

  begun : (us more : List T) (b : B) → On g S us b → starts g (us ++ more) ≡ true
  begun us more b (t, vs, cut, is, s) = ap (λ x. starts g (x ++ more)) cut ∙ starts_is g (t ∷ (vs ++ more)) ∙ is

  goes : (us rest : List T) → starts g (us ++ rest) ≡ true → (us ≡ []) ⊎ IsViablePrefix S' us → (us ≡ []) ⊎ IsViablePrefix (On g S') us
  goes us rest is (inl e) = inl e
  goes [] rest is (inr w) = inl refl
  goes (u ∷ us) rest is (inr (w, b, s)) = inr (w, b, (u, us ++ w, refl, sym (starts_is g (u ∷ (us ++ rest))) ∙ is, s))

  again : (us rest more : List T) → starts g (us ++ rest) ≡ true → SameLookahead rest more → ((length more ≤ length more) → p (us ++ more) ≡ Err (Grammar (length more))) →
      on g p refuse (us ++ more) ≡ Err (Grammar (length more))
  again [] rest more is like bad = elim (which (starts g more)) [
    | inl e ↦ yes more e ∙ bad (omega arith)
    | inr e ↦ no more e
  ]
  again (u ∷ us) rest more is like bad = yes (u ∷ (us ++ more)) (starts_same g u (us ++ more) (us ++ rest) ∙ is) ∙ bad (omega arith)

  opens : (us rest : List T) (t : T) → starts g (us ++ t ∷ rest) ≡ true → IsViablePrefix S' (us ++ t ∷ []) → IsViablePrefix (On g S') (us ++ t ∷ [])
  opens [] rest t is (w, b, s) = (w, b, (t, w, refl, sym (starts_is g (t ∷ rest)) ∙ is, s))
  opens (u ∷ us) rest t is (w, b, s) = (w, b, (u, (us ++ t ∷ []) ++ w, refl, sym (starts_is g (u ∷ (us ++ t ∷ rest))) ∙ is, s))

  still : (us rest more : List T) (t : T) → starts g (us ++ t ∷ rest) ≡ true → starts g (us ++ t ∷ more) ≡ true
  still [] rest more t is = starts_same g t more rest ∙ is
  still (u ∷ us) rest more t is = starts_same g u (us ++ t ∷ more) (us ++ t ∷ rest) ∙ is

  pub right_filter : ReadsRule n Stop (On g S) (On g S') (on g p refuse)
  right_filter = record {
    wider = λ us b (t, vs, cut, is, s). (t, vs, cut, is, right.wider us b s);
    ended = right.ended;
    sound = λ ts rest b fits e. elim (which (starts g ts)) [
      | inl is ↦
          let (us, cut, s, back) = right.sound ts rest b fits (sym (yes ts is) ∙ e) in
          let o = front us rest b s (subst (λ x. starts g x ≡ true) cut is) in
          (us, cut, o, λ more all like. yes (us ++ more) (begun us more b o) ∙ back more all like)
      | inr is ↦ absurd (let bad = sym (no ts is) ∙ e in cc)
    ];
    complete = λ us rest b fits o stop. yes (us ++ rest) (begun us rest b o) ∙ right.complete us rest b fits (o.4) stop;
    refuses = λ ts k fits e. elim (which (starts g ts)) [
      | inl is ↦
          let (us, rest, cut, w, back) = right.refuses ts k fits (sym (yes ts is) ∙ e) in
          let is' = subst (λ x. starts g x ≡ true) cut is in
          (us, rest, cut, goes us rest is' w, λ more all like. again us rest more is' like (λ _. back more all like))
      | inr is ↦ ([], ts, refl, inl refl, λ more all like. no more (starts_still g [] ts more is like))
    ];
    deepens = λ ts k fits e. elim (which (starts g ts)) [
      | inl is ↦
          let (us, t, rest, cut, w, o, back) = right.deepens ts k fits (sym (yes ts is) ∙ e) in
          let is' = subst (λ x. starts g x ≡ true) cut is in
          (us, t, rest, cut, goes us (t ∷ rest) is' w, opens us rest t is' o, λ more all. yes (us ++ t ∷ more) (still us rest more t is') ∙ back more all)
      | inr is ↦ absurd (let bad = sym (no ts is) ∙ e in cc)
    ];
  }

-- a token with which spellings of some nesting begin is not refused at any nesting
module _ {T A : Type 0} (Stop : Option T → Type 0) (S : ℕ → List T → A → Type 0) (p : ℕ → Reader T A) (gram : GrammarOf Stop S p) where
  pub enters_at : (d m : ℕ) (t : T) → IsViablePrefix (S (d + m)) (t ∷ []) → (us : List T) → p d (t ∷ us) ≡ Err (Grammar (suc (length us))) → ⊥
  enters_at d m t w us e =
      enters_by Stop (S (d + m)) (S (suc (d + m))) (p (d + m)) (λ n. gram.right (d + m) n) t w us
      (same_by Stop S p gram d m (t ∷ us) (Err (Grammar (suc (length us)))) e (λ n bad. cc))
