-- Rules that take a token and go on, and repetitions with separators.
use Rattle.std.specs.Prelude.{◌≡◌, ℕ, List, [], ◌∷◌, ◌++◌, Option, Some, None, refl}
use Rattle.std.proofs.Common.{◌∙◌, ap, subst, arith, length-append}
use Rattle.evo_combinators.specs.Reader.{Reader, ◌>>=◌, one}
use Rattle.evo_combinators.specs.Rule.{Empty, TokenThen, One, Then, Many, Repeat, SomeOf}
use Rattle.evo_combinators.specs.Laws.{ReadsRule}
use Rattle.evo_combinators.proofs.Laws.{right_same, right_then, right_then_by, right_one}

pub some_only : {T A : Type 0} (a : A) → SomeOf (Empty {T = T} a)
some_only a = ([], a, (refl, refl))

pub some_led : {T A B : Type 0} (f : T → Option A) (S : A → List T → B → Type 0) (t : T) (a : A) → f t ≡ Some a → SomeOf (S a) → SomeOf (TokenThen f S)
some_led f S t a takes (us, b, s) = (t ∷ us, b, (t, a, us, refl, takes, s))

pub some_then : {T A B : Type 0} (S : List T → A → Type 0) (R : A → List T → B → Type 0) → SomeOf S → ((a : A) → SomeOf (R a)) → SomeOf (Then S R)
some_then S R (us, a, s) some = let (vs, b, r) = some a in (us ++ vs, b, (a, us, vs, refl, s, r))

-- anything may follow
abbrev pub Anything : {T : Type 0} → Option T → Type 0
Anything x = Unit {0}

-- a token that `f` takes, and then what S says
module _ {T A B : Type 0} (f : T → Option A) where
  pub of_led : (S : A → List T → B → Type 0) (us : List T) (b : B) → TokenThen f S us b → Then (One f) S us b
  of_led S us b (t, a, vs, cut, takes, s) = (a, t ∷ [], vs, cut, (t, a, [], refl, takes, (refl, refl)), s)

  pub to_led : (S : A → List T → B → Type 0) (us : List T) (b : B) → Then (One f) S us b → TokenThen f S us b
  to_led S us b (a, vs, ws, cut, (t, a', xs, cut', takes, (none, is)), s) =
      (t, a', ws, cut ∙ ap (λ x. x ++ ws) (cut' ∙ ap (λ x. t ∷ x) none), takes, subst (λ x. S x ws b) is s)

  pub right_led : (n : ℕ) (Stop : Option T → Type 0) (S S' : A → List T → B → Type 0) (q : A → Reader T B) → Stop None →
      ((a : A) → ReadsRule n Stop (S a) (S' a) (q a)) → ((a : A) → SomeOf (S a)) → ReadsRule n Stop (TokenThen f S) (TokenThen f S') (one f >>= q)
  right_led n Stop S S' q ended right some =
      right_same n Stop (Then (One f) S) (Then (One f) S') (TokenThen f S) (TokenThen f S') (one f >>= q) (to_led S) (of_led S) (to_led S')
      (right_then n Anything Stop (One f) (One f) S S' (one f) q (right_one n Anything tt f) right (λ a vs rest b s stop. tt) some ended)

  -- the same, where the rule with more nesting alone need have a spelling
  pub right_led_by : (n : ℕ) (Stop : Option T → Type 0) (S S' : A → List T → B → Type 0) (q : A → Reader T B) → Stop None →
      ((a : A) → ReadsRule n Stop (S a) (S' a) (q a)) → ((a : A) → SomeOf (S' a)) → ReadsRule n Stop (TokenThen f S) (TokenThen f S') (one f >>= q)
  right_led_by n Stop S S' q ended right some =
      right_same n Stop (Then (One f) S) (Then (One f) S') (TokenThen f S) (TokenThen f S') (one f >>= q) (to_led S) (of_led S) (to_led S')
      (right_then_by n n Anything Stop (One f) (One f) S S' (one f) q (right_one n Anything tt f) right (λ us vs a s fits. omega (arith, length-append us vs)) (λ a vs rest b s stop. tt) some ended)

-- a repetition each turn of which is led by a token, and one of such turns
module _ {T A B : Type 0} (f : T → Option A) (S : A → List T → B → Type 0) (R : List T → B → Type 0)
    (to : (us : List T) (b : B) → TokenThen f S us b → R us b) (from : (us : List T) (b : B) → R us b → TokenThen f S us b) where
  pub to_repeat : (us : List T) (bs : List B) → Many f S us bs → Repeat R us bs
  to_repeat us [] e = e
  to_repeat us (b ∷ bs) (t, a, vs, ws, cut, takes, s, m) = (t ∷ vs, ws, cut, to (t ∷ vs) b (t, a, vs, refl, takes, s), to_repeat ws bs m)

  pub of_repeat : (us : List T) (bs : List B) → Repeat R us bs → Many f S us bs
  of_repeat us [] e = e
  of_repeat us (b ∷ bs) (vs, ws, cut, r, m) =
      let (t, a, xs, cut', takes, s) = from vs b r in
      (t, a, xs, ws, cut ∙ ap (λ x. x ++ ws) cut', takes, s, of_repeat ws bs m)
