-- A label before what is read: a name and a mark behind it, which the first two tokens decide.
use Rattle.std.specs.Prelude.{◌≡◌, ℕ, suc, ◌+◌, ◌≤◌, Bool, true, false, List, [], ◌∷◌, ◌++◌, length, Option, Some, None, Err, refl}
use Rattle.std.proofs.Common.{sym, ◌∙◌, ap, subst, inr, arith, append-nil, append_assoc, length-append}
use Rattle.evo_combinators.specs.declared.Fault.TheVariants.{Grammar}
use Rattle.evo_combinators.specs.Rule.{Empty, TokenThen, Or, Then, IsViablePrefix, SomeOf}
use Rattle.evo_combinators.specs.Reader.{Reader, ◌>>=◌, pure, one}
use Rattle.evo_combinators.specs.Guard.{two, starts, starts_two}
use Rattle.evo_combinators.specs.Laws.{first, ReadsRule, SameLookahead, of_first}
use Rattle.evo_combinators.proofs.Laws.{right_stop, right_map, of_map}
use Rattle.evo_combinators.proofs.GuardLaws.{starts_is, opens_by, no_longer, two_taken_not, right_two}
use Rattle.evo_combinators.proofs.Sequences.{right_led, some_only, some_led, some_then}

-- where spellings go on with a token, it is not refused
module _ {T A : Type 0} (Stop : Option T → Type 0) (S W : List T → A → Type 0) (p : Reader T A) (right : (n : ℕ) → ReadsRule n Stop S W p) where
  pub not_refused : (us : List T) (t : T) → IsViablePrefix S (us ++ t ∷ []) → (rest : List T) → p (us ++ t ∷ rest) ≡ Err (Grammar (suc (length rest))) → ⊥
  not_refused us t (more, a, s) rest bad =
      let n = length (us ++ t ∷ rest) + length ((us ++ t ∷ []) ++ more) in
      let (vs, left, cut, goes, again) = (right n).refuses (us ++ t ∷ rest) (suc (length rest)) (omega arith) bad in
      let here = again left (subst (λ x. length x ≤ n) cut (omega arith)) (inr refl) in
      let count : suc (length rest) ≡ length left = let both = sym bad ∙ ap p cut ∙ here in cc in
      let parts = same_cut us vs (t ∷ rest) left cut count in
      let regroup : (us ++ t ∷ []) ++ more ≡ us ++ t ∷ more = append_assoc us (t ∷ []) more in
      let like : SameLookahead left (t ∷ more) = inr (ap first parts.1) in
      let refused = again (t ∷ more) (subst (λ x. length x ≤ n) (regroup ∙ ap (λ x. x ++ t ∷ more) parts.0) (omega arith)) like in
      let read = (right n).complete ((us ++ t ∷ []) ++ more) [] a (subst (λ x. length x ≤ n) (sym (append-nil ((us ++ t ∷ []) ++ more))) (omega arith)) s (right n).ended in
      let both = sym read ∙ ap p (append-nil ((us ++ t ∷ []) ++ more) ∙ regroup ∙ ap (λ x. x ++ t ∷ more) parts.0) ∙ refused in
      cc
    where
      same_cut : (us vs xs ys : List T) → us ++ xs ≡ vs ++ ys → length xs ≡ length ys → (us ≡ vs) × (xs ≡ ys)
      same_cut [] [] xs ys e l = (refl, e)
      same_cut [] (v ∷ vs) xs ys e l = absurd (omega (arith, ap length e, length-append vs ys))
      same_cut (u ∷ us) [] xs ys e l = absurd (omega (arith, ap length e, length-append us xs))
      same_cut (u ∷ us) (v ∷ vs) xs ys e l =
          let rest : us ++ xs ≡ vs ++ ys = cc in
          let head : u ≡ v = cc in
          let parts = same_cut us vs xs ys rest l in
          (ap (λ x. u ∷ x) parts.0 ∙ ap (λ x. x ∷ vs) head, parts.1)

module _ {T N C A B : Type 0} (Stop : Option T → Type 0) (E E' : List T → A → Type 0) (e : Reader T A) (name : T → Option N) (colon : T → Option C) (f g : T → Bool)
    (label : N → A → B) (bare : A → B)
    (right_e : (n : ℕ) → ReadsRule n Stop E E' e) (some_e : SomeOf E) (full : (x : A) → E [] x → ⊥)
    (name_is : (t : T) (a : N) → name t ≡ Some a → f t ≡ true) (name_takes : (t : T) → f t ≡ true → (a : N) × (name t ≡ Some a))
    (colon_is : (t : T) (a : C) → colon t ≡ Some a → g t ≡ true) (colon_takes : (t : T) → g t ≡ true → (a : C) × (colon t ≡ Some a))
    (a_colon : T) (is_colon : g a_colon ≡ true) (colon_stops : (t : T) → g t ≡ true → Stop (Some t))
    (alone : (t : T) → f t ≡ true → (x : A) × E (t ∷ []) x) where
  -- what may follow: what may follow an unlabelled one, but no mark
  abbrev pub AfterLabel : Option T → Type 0
  AfterLabel x = Stop x × (of_first g x ≡ false)

  abbrev Labelled : (List T → A → Type 0) → List T → B → Type 0
  Labelled D = TokenThen name (λ n. TokenThen colon (λ _. Then D (λ x. Empty (label n x))))

  abbrev Bare : (List T → A → Type 0) → List T → B → Type 0
  Bare D = Then D (λ x. Empty (bare x))

  -- [ name mark ] what is read
  abbrev pub Label : (List T → A → Type 0) → List T → B → Type 0
  Label D = Or (Labelled D) (Bare D)

  abbrev labelled : Reader T B
  labelled = one name >>= (λ n. one colon >>= (λ _. e >>= (λ x. pure (label n x))))

  abbrev pub label_of : Reader T B
  label_of = two f g labelled (e >>= (λ x. pure (bare x)))

  ended : AfterLabel None
  ended = ((right_e 0).ended, refl)

  tail : (n : ℕ) (w : N) → ReadsRule n AfterLabel (Then E (λ x. Empty (label w x))) (Then E' (λ x. Empty (label w x))) (e >>= (λ x. pure (label w x)))
  tail n w = right_stop n Stop AfterLabel _ _ _ (λ x h. h.0) ended (right_map n Stop E E' e (label w) (right_e n))

  some_tail : (w : N) → SomeOf (Then E (λ x. Empty (label w x)))
  some_tail w = some_then E (λ x. Empty (label w x)) some_e (λ x. some_only (label w x))

  some_colon : (w : N) → SomeOf (TokenThen colon (λ _. Then E (λ x. Empty (label w x))))
  some_colon w = let (c, takes) = colon_takes a_colon is_colon in some_led colon (λ _. Then E (λ x. Empty (label w x))) a_colon c takes (some_tail w)

  right_labelled : (n : ℕ) → ReadsRule n AfterLabel (Labelled E) (Labelled E') labelled
  right_labelled n = right_led name n AfterLabel _ _ _ ended (λ w. right_led colon n AfterLabel _ _ _ ended (λ _. tail n w) (λ _. some_tail w)) some_colon

  right_bare : (n : ℕ) → ReadsRule n AfterLabel (Bare E) (Bare E') (e >>= (λ x. pure (bare x)))
  right_bare n = right_stop n Stop AfterLabel _ _ _ (λ x h. h.0) ended (right_map n Stop E E' e bare (right_e n))

  pair : (us : List T) (b : B) → Labelled E us b → (t : T) × (s : T) × (vs : List T) × (us ≡ t ∷ (s ∷ vs)) × (f t ≡ true) × (g s ≡ true)
  pair us b (t, w, vs, cut, takes, (s, c, ws, cut', takes', r)) = (t, s, ws, cut ∙ ap (λ z. t ∷ z) cut', name_is t w takes, colon_is s c takes')

  apart_at : (us rest : List T) (x : A) → E us x → AfterLabel (first rest) → starts_two f g (us ++ rest) ≡ false
  apart_at [] rest x s stop = absurd (full x s)
  apart_at (t ∷ []) rest x s stop = two_taken_not f g t rest (λ _. starts_is g rest ∙ stop.1)
  apart_at (t ∷ (u ∷ us)) rest x s stop = two_taken_not f g t (u ∷ (us ++ rest)) (λ is. starts_is g (u ∷ (us ++ rest)) ∙ not_colon (g u) refl is)
    where
      not_colon : (b : Bool) → g u ≡ b → f t ≡ true → b ≡ false
      not_colon true is named = let (y, r) = alone t named in absurd (no_longer Stop E E' e right_e (t ∷ []) us u y x r (colon_stops u is) s)
      not_colon false is named = refl

  goes_labelled : (t : T) → f t ≡ true → IsViablePrefix (Labelled E) (t ∷ [])
  goes_labelled t is =
      let (a, takes) = name_takes t is in
      let (us, b, s) = some_colon a in
      (us, b, (t, a, us, refl, takes, s))

  goes_colon : (t s : T) → f t ≡ true → g s ≡ true → IsViablePrefix (Labelled E) ((t ∷ []) ++ s ∷ [])
  goes_colon t s is is' =
      let (a, takes) = name_takes t is in
      let (c, takes') = colon_takes s is' in
      let (us, b, r) = some_tail a in
      (us, b, (t, a, s ∷ us, refl, takes, (s, c, us, refl, takes', r)))

  goes_bare : (t : T) → f t ≡ true → IsViablePrefix (Bare E) (t ∷ [])
  goes_bare t is = let (x, s) = alone t is in ([], bare x, (x, t ∷ [], [], refl, s, (refl, refl)))

  never_there : (t : T) (rest : List T) → f t ≡ true → starts g rest ≡ true → labelled (t ∷ rest) ≡ Err (Grammar (length rest)) → ⊥
  never_there t [] is is' bad = let none = sym (starts_is g []) ∙ is' in cc
  never_there t (c ∷ rest) is is' bad =
      not_refused AfterLabel (Labelled E) (Labelled E') labelled right_labelled (t ∷ []) c (goes_colon t c is (sym (starts_is g (c ∷ rest)) ∙ is')) rest bad

  empty : (b : B) → Bare E [] b → ⊥
  empty b (x, [], ws, cut, s, o) = full x s
  empty b (x, v ∷ vs, ws, cut, s, o) = cc

  pub right_label : (n : ℕ) → ReadsRule n AfterLabel (Label E) (Label E') label_of
  right_label n = right_two n AfterLabel f g (Labelled E) (Labelled E') (Bare E) (Bare E') labelled (e >>= (λ x. pure (bare x))) (right_labelled n) (right_bare n) pair empty
      (λ us rest b s stop. let (x, r, is) = of_map E bare us b s in apart_at us rest x r stop)
      (λ t us fits is bad. not_refused AfterLabel (Labelled E) (Labelled E') labelled right_labelled [] t (goes_labelled t is) us bad)
      (λ t us is bad. not_refused AfterLabel (Bare E) (Bare E') (e >>= (λ x. pure (bare x))) right_bare [] t (goes_bare t is) us bad)
      (λ t us is bad. opens_by AfterLabel (Labelled E) (Labelled E') labelled right_labelled t (goes_labelled t is) us bad)
      (λ t us is bad. opens_by AfterLabel (Bare E) (Bare E') (e >>= (λ x. pure (bare x))) right_bare t (goes_bare t is) us bad)
      (λ t rest is is' bad. absurd (never_there t rest is is' bad))
