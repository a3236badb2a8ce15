-- That a reader reads a rule at each nesting: by parts, with the sets of what they begin with and of what may follow them.
use Rattle.std.specs.Prelude.{◌||◌}
use Rattle.std.specs.Option.{is_some}
use Rattle.std.proofs.Common.{◌≡◌, ℕ, zero, suc, ◌-◌, Bool, true, false, List, [], ◌∷◌, ◌++◌, length, Option, Some, None, Err, refl, sym, ◌∙◌, ap, subst, arith, ◌⊎◌, inl, inr, append_assoc, length-append}
use Rattle.evo_combinators.specs.declared.Fault.TheVariants.{Grammar}
use Rattle.evo_combinators.specs.Rule.{Empty, Fail, TokenThen, One, Or, Then, Many, SomeOf}
use Rattle.evo_combinators.specs.Reader.{Outcome, ◌>>=◌, and_then, pure, refuse, alt, one, bar, many, lead, paired, branch}
use Rattle.evo_combinators.specs.Guard.{Run, run}
use Rattle.evo_combinators.specs.Laws.{Begins, Takes, of_first, GrowsWithNesting, Same, ReadsRule, Skips, first}
use Rattle.evo_combinators.proofs.Laws.{right_pure, right_nothing, right_then_by, right_alt_by, right_bar, right_same, right_ext, right_stop, right_map, right_many, right_one, of_map}
use Rattle.evo_combinators.proofs.GrowsWithNesting.{same_refl, deeper_then, deeper_alt, deeper_bar, deeper_many}
use Rattle.evo_combinators.proofs.GuardDeeper.{deeper_run}
use Rattle.evo_combinators.proofs.RunLaws.{right_run}
use Rattle.evo_combinators.proofs.Entered.{refused_within}
use Rattle.evo_combinators.proofs.Sequences.{some_only, some_led, some_then}
use Rattle.evo_tree.specs.declared.terminal.Terminal.{Terminal}
use Rattle.evo_tree.specs.declared.terminal.Terminal.TheVariants as t
use Rattle.evo_tree.specs.Pieces.{Piece, is_terminal, mark, sign, opens_nesting}
use Rattle.evo_tree.specs.Terminals.{number_of}
use Rattle.evo_tree.specs.Expressions.{Rule, Nested}
use Rattle.evo_tree.specs.Declarations.{only_if, Separated}
use Rattle.evo_parse_expr.specs.Read.{Reader, opens}
use Rattle.evo_parse_expr.proofs.Tests.{opening_is}
use Rattle.evo_parse_expr.proofs.Nesting.{May, ReadsInner, Under, nest_opens}
use Rattle.evo_combinators.proofs.Nesting.{nest_pure, nest_refuse, nest_by, nest_then, nest_quiet, nest_led, nest_many}
use Rattle.evo_combinators.proofs.NestingTries.{nest_made}
use Rattle.evo_combinators.proofs.NestingRuns.{nest_held, nest_ext, nest_one, nest_run}
use Rattle.evo_parse_header.specs.Read.{separated}
use Rattle.evo_parse_expr.proofs.Among.{among}
use Rattle.evo_parse_header.proofs.Sets.{Set, these, In, contains, included, none_in, none_holds, into, included_refl, the_end}

-- a test takes only tokens of these terminals, and one at least
pub record Test {A : Type 0} (ns : List ℕ) (f : Piece → Option A) : Type 0 where
  pub numbers : (u : Piece) (a : A) → f u ≡ Some a → among ns (number_of u.terminal) ≡ true
  pub piece : Piece
  pub value : A
  pub taken : f piece ≡ Some value

-- what opens a nesting: the signs, the parenthesis and the brace; and the last two alone, which always do
abbrev pub Opening : Set
Opening = these (number_of t.Minus ∷ number_of t.Not ∷ number_of t.OpenParenthesis ∷ number_of t.OpenBrace ∷ [])

abbrev pub Brackets : Set
Brackets = these (number_of t.OpenParenthesis ∷ number_of t.OpenBrace ∷ [])

opening_among : {R : Type 0} (n : ℕ) → (n ≡ number_of t.OpenParenthesis) ⊎ ((n ≡ number_of t.OpenBrace) ⊎ (R × ((n ≡ number_of t.Minus) ⊎ (n ≡ number_of t.Not)))) → contains Opening n ≡ true
opening_among n (inl e) = ap (λ k. contains Opening k) e
opening_among n (inr (inl e)) = ap (λ k. contains Opening k) e
opening_among n (inr (inr (role, inl e))) = ap (λ k. contains Opening k) e
opening_among n (inr (inr (role, inr e))) = ap (λ k. contains Opening k) e

-- tokens of other terminals open nothing
pub quiet : {A : Type 0} (ns : List ℕ) (f : Piece → Option A) → none_in Opening ns ≡ true → ((u : Piece) (a : A) → f u ≡ Some a → among ns (number_of u.terminal) ≡ true) →
    (u : Piece) (a : A) → f u ≡ Some a → opens_nesting u ≡ true → ⊥
quiet ns f calm numbers u a takes is = none_holds Opening (number_of u.terminal) ns calm (numbers u a takes) (opening_among (number_of u.terminal) (opening_is u is))

-- and brackets open a nesting
pub opening : {A : Type 0} (ns : List ℕ) (f : Piece → Option A) → included (these ns) Brackets ≡ true → ((u : Piece) (a : A) → f u ≡ Some a → among ns (number_of u.terminal) ≡ true) →
    (u : Piece) (a : A) → f u ≡ Some a → opens_nesting u ≡ true
opening ns f brackets numbers u a takes = either (is_terminal t.OpenParenthesis u) (is_terminal t.OpenBrace u) (is_some (sign u)) (into (these ns) Brackets brackets (Some u) (numbers u a takes))
  where
    either : (a b c : Bool) → (a || (b || false)) ≡ true → ((a || b) || c) ≡ true
    either true b c is = refl
    either false true c is = refl
    either false false c is = absurd (cc)

-- what is spelled where some nesting may open is spelled where it does
held_some : {A : Type 0} (S : ℕ → Rule A) → ((d : ℕ) → SomeOf (S (suc d))) → (d : ℕ) → May d → SomeOf (S d)
held_some S some zero held = absurd held
held_some S some (suc d) held = some d

-- The reader reads the rule at each nesting and grows with it. `front`: what is spelled, and what may follow it, begin with F.
-- `nest`: with each token that opens a nesting a spelling goes on, and no other token opens one too many.
pub record Chooses {A : Type 0} (F St : Set) (S : ℕ → Rule A) (p : ℕ → Reader A) : Type 0 where
  pub right : (d n : ℕ) → ReadsRule n (In St) (S d) (S (suc d)) (p d)
  pub deeper : (d : ℕ) → GrowsWithNesting (p d) (p (suc d))
  pub front : (d : ℕ) (us rest : List Piece) (a : A) → S d us a → In St (first rest) → In F (first (us ++ rest))
  pub nest : (d n : ℕ) → ReadsInner d n (S d) (p d)

-- and something is spelled with some nesting
pub record Parses {A : Type 0} (F St : Set) (S : ℕ → Rule A) (p : ℕ → Reader A) : Type 0 where
  pub chooses : Chooses F St S p
  pub some : (d : ℕ) → SomeOf (S (suc d))

front_of_nil : {A : Type 0} (St : Set) (a b : A) (us rest : List Piece) → Empty a us b → In St (first rest) → In St (first (us ++ rest))
front_of_nil St a b us rest s stop = subst (λ x. In St (first (x ++ rest))) (sym s.0) stop

pub parses_pure : {A : Type 0} {St : Set} → contains St the_end ≡ true → (a : A) → Parses St St (λ _. Empty a) (λ _. pure a)
parses_pure {A} {St} ended a = record {
  chooses = record {
    right = λ d n. right_pure n (In St) ended a;
    deeper = λ d. same_refl (pure a);
    front = λ d us rest b s stop. front_of_nil St a b us rest s stop;
    nest = λ d n. nest_pure (May d) opens_nesting n (Empty a) a;
  };
  some = λ d. some_only a;
}

pub chooses_nothing : {A : Type 0} {F St : Set} → contains St the_end ≡ true → Chooses {A = A} F St (λ _. Fail) (λ _. refuse)
chooses_nothing {A} {F} {St} ended = record {
  right = λ d n. right_nothing n (In St) ended;
  deeper = λ d. same_refl refuse;
  front = λ d us rest b s stop. absurd s;
  nest = λ d n. nest_refuse (May d) opens_nesting n Fail;
}

-- weaker sets
pub chooses_as : {A : Type 0} {F F' St St' : Set} {S : ℕ → Rule A} {p : ℕ → Reader A} → included F F' ≡ true → included St' St ≡ true → contains St' the_end ≡ true →
    Chooses F St S p → Chooses F' St' S p
chooses_as {A} {F} {F'} {St} {St'} {S} {p} wide narrow ended fits = record {
  right = λ d n. right_stop n (In St) (In St') (S d) (S (suc d)) (p d) (λ x h. into St' St narrow x h) ended (fits.right d n);
  deeper = fits.deeper;
  front = λ d us rest a s stop. into F F' wide (first (us ++ rest)) (fits.front d us rest a s (into St' St narrow (first rest) stop));
  nest = fits.nest;
}

pub parses_as : {A : Type 0} {F F' St St' : Set} {S : ℕ → Rule A} {p : ℕ → Reader A} → included F F' ≡ true → included St' St ≡ true → contains St' the_end ≡ true →
    Parses F St S p → Parses F' St' S p
parses_as wide narrow ended fits = record { chooses = chooses_as wide narrow ended fits.chooses; some = fits.some }

-- where less may follow
pub parses_before : {A : Type 0} {F St St' : Set} {S : ℕ → Rule A} {p : ℕ → Reader A} → included St' St ≡ true → contains St' the_end ≡ true → Parses F St S p → Parses F St' S p
parses_before {A} {F} narrow ended fits = parses_as (included_refl F) narrow ended fits

-- one after the other
pub parses_then : {A B : Type 0} {F G St St' : Set} {S : ℕ → Rule A} {R : ℕ → A → Rule B} {p : ℕ → Reader A} {q : ℕ → A → Reader B} → included G St ≡ true →
    Parses F St S p → ((a : A) → Parses G St' (λ d. R d a) (λ d. q d a)) → Parses F St' (λ d. Then (S d) (R d)) (λ d. p d >>= q d)
parses_then {A} {B} {F} {G} {St} {St'} {S} {R} {p} {q} follow fits next = record {
  chooses = record {
    right = λ d n. right_then_by n n (In St) (In St') (S d) (S (suc d)) (R d) (R (suc d)) (p d) (q d) (fits.chooses.right d n) (λ a. (next a).chooses.right d n)
        (λ us vs a s all. omega (arith, length-append us vs))
        (λ a vs rest b r stop. into G St follow (first (vs ++ rest)) ((next a).chooses.front d vs rest b r stop))
        (λ a. (next a).some d) ((next (fits.some d).1).chooses.right d n).ended;
    deeper = λ d. deeper_then (p d) (p (suc d)) (q d) (q (suc d)) (fits.chooses.deeper d) (λ a. (next a).chooses.deeper d);
    front = λ d us rest b (a, vs, ws, cut, s, r) stop.
        subst (λ x. In F (first x)) (sym (ap (λ x. x ++ rest) cut ∙ append_assoc vs ws rest))
        (fits.chooses.front d vs (ws ++ rest) a s (into G St follow (first (ws ++ rest)) ((next a).chooses.front d ws rest b r stop)));
    nest = λ d n. nest_then (May d) opens_nesting n (In St) (S d) (S (suc d)) (R d) (p d) (q d) (fits.chooses.right d n) (fits.chooses.nest d n) (λ a. (next a).chooses.nest d n)
        (λ held a. held_some (λ d. R d a) (next a).some d held);
  };
  some = λ d. some_then (S (suc d)) (R (suc d)) (fits.some d) (λ a. (next a).some d);
}

pub parses_map : {A B : Type 0} {F St : Set} {S : ℕ → Rule A} {p : ℕ → Reader A} (g : A → B) → Parses F St S p →
    Parses F St (λ d. Then (S d) (λ a. Empty (g a))) (λ d. p d >>= (λ a. pure (g a)))
parses_map {A} {B} {F} {St} {S} {p} g fits = record {
  chooses = record {
    right = λ d n. right_map n (In St) (S d) (S (suc d)) (p d) g (fits.chooses.right d n);
    deeper = λ d. deeper_then (p d) (p (suc d)) _ _ (fits.chooses.deeper d) (λ a. same_refl (pure (g a)));
    front = λ d us rest b s stop. let (a, s', is) = of_map (S d) g us b s in fits.chooses.front d us rest a s' stop;
    nest = λ d n. nest_made (May d) opens_nesting n (S d) (p d) g (fits.chooses.nest d n);
  };
  some = λ d. some_then (S (suc d)) (λ a. Empty (g a)) (fits.some d) (λ a. some_only (g a));
}

-- by the first token
skips : {A B : Type 0} (ns : List ℕ) (H St : Set) (R : ℕ → Rule B) (r : ℕ → Reader B) (f : Piece → Option A) → Test ns f → none_in H ns ≡ true →
    Chooses H St R r → (d : ℕ) (us rest : List Piece) (b : B) → R d us b → In St (first rest) → Skips f (us ++ rest)
skips ns H St R r f test apart other d us rest b s stop = λ u a is takes.
    none_holds H (number_of u.terminal) ns apart (test.numbers u a takes) (subst (In H) is (other.front d us rest b s stop))

led_front : {A B : Type 0} (ns : List ℕ) (F : Set) (f : Piece → Option A) (S : A → Rule B) → Test ns f → included (these ns) F ≡ true →
    (us rest : List Piece) (b : B) → TokenThen f S us b → In F (first (us ++ rest))
led_front ns F f S test begun us rest b (u, a, vs, cut, takes, s) = subst (λ x. In F (first (x ++ rest))) (sym cut) (into (these ns) F begun (Some u) (test.numbers u a takes))

module _ {A B : Type 0} {ns : List ℕ} {F H G St : Set} {S : ℕ → A → Rule B} {R : ℕ → Rule B} {q : ℕ → A → Reader B} {r : ℕ → Reader B} {f : Piece → Option A}
    (calm : none_in Opening ns ≡ true) (apart : none_in H ns ≡ true) (begun : included (these ns) F ≡ true) (wide : included H F ≡ true) (test : Test ns f)
    (fits : (a : A) → Parses G St (λ d. S d a) (λ d. q d a)) (other : Chooses H St R r) where
  pub chooses_alt : Chooses F St (λ d. Or (TokenThen f (S d)) (R d)) (λ d. alt f (q d) (r d))
  chooses_alt = record {
    right = λ d n. right_alt_by n (In St) f (S d) (S (suc d)) (R d) (R (suc d)) (q d) (r d) (λ a. (fits a).chooses.right d (n - 1)) (other.right d n) (λ a. (fits a).some d) (skips ns H St R r f test apart other d);
    deeper = λ d. deeper_alt f (q d) (q (suc d)) (r d) (r (suc d)) (λ a. (fits a).chooses.deeper d) (other.deeper d);
    front = λ d us rest b s stop. elim s [
      | inl led ↦ led_front ns F f (S d) test begun us rest b led
      | inr s' ↦ into H F wide (first (us ++ rest)) (other.front d us rest b s' stop)
    ];
    nest = λ d n. nest_quiet (May d) opens_nesting n f (S d) (R d) (q d) (r d) (quiet ns f calm test.numbers) (λ a. (fits a).chooses.nest d (n - 1)) (other.nest d n);
  }

  pub parses_alt : Parses F St (λ d. Or (TokenThen f (S d)) (R d)) (λ d. alt f (q d) (r d))
  parses_alt = record {
    chooses = chooses_alt;
    some = λ d. let (us, b, s) = some_led f (S (suc d)) test.piece test.value test.taken ((fits test.value).some d) in (us, b, inl s);
  }

-- a token, and what follows it
led_read : {A B : Type 0} (o : Option (A × List Piece)) (q : A → Reader B) (n : ℕ) → and_then (branch o pure (Err (Grammar n))) q ≡ branch o q (Err (Grammar n))
led_read (Some x) q n = refl
led_read None q n = refl

no_nothing : {B : Type 0} (S : Rule B) (us : List Piece) (b : B) → Or S Fail us b → S us b
no_nothing S us b (inl s) = s
no_nothing S us b (inr none) = absurd none

module _ {A B : Type 0} {ns : List ℕ} {F G St : Set} {S : ℕ → A → Rule B} {q : ℕ → A → Reader B} {f : Piece → Option A}
    (calm : none_in Opening ns ≡ true) (begun : included (these ns) F ≡ true) (ended : contains St the_end ≡ true) (test : Test ns f) (fits : (a : A) → Parses G St (λ d. S d a) (λ d. q d a)) where
  pub parses_led : Parses F St (λ d. TokenThen f (S d)) (λ d. one f >>= q d)
  parses_led = record {
    chooses = record {
      right = λ d n. right_ext n (In St) (TokenThen f (S d)) (TokenThen f (S (suc d))) (alt f (q d) refuse) (one f >>= q d) (λ ts all. led_read (lead f ts) (q d) (length ts))
          (right_same n (In St) (Or (TokenThen f (S d)) Fail) (Or (TokenThen f (S (suc d))) Fail) (TokenThen f (S d)) (TokenThen f (S (suc d))) (alt f (q d) refuse)
          (no_nothing (TokenThen f (S d))) (λ us b s. inl s) (no_nothing (TokenThen f (S (suc d))))
          (right_alt_by n (In St) f (S d) (S (suc d)) Fail Fail (q d) refuse (λ a. (fits a).chooses.right d (n - 1)) (right_nothing n (In St) ended) (λ a. (fits a).some d) (λ us rest b s stop. absurd s)));
      deeper = λ d. deeper_then (one f) (one f) (q d) (q (suc d)) (same_refl (one f)) (λ a. (fits a).chooses.deeper d);
      front = λ d us rest b s stop. led_front ns F f (S d) test begun us rest b s;
      nest = λ d n. nest_led (May d) opens_nesting n f (S d) (q d) (quiet ns f calm test.numbers) (λ a. (fits a).chooses.nest d n);
    };
    some = λ d. some_led f (S (suc d)) test.piece test.value test.taken ((fits test.value).some d);
  }

pub parses_one : {A : Type 0} {ns : List ℕ} {F St : Set} {f : Piece → Option A} → none_in Opening ns ≡ true → included (these ns) F ≡ true → contains St the_end ≡ true → Test ns f →
    Parses F St (λ _. One f) (λ _. one f)
parses_one {A} {ns} {F} {St} {f} calm begun ended test = record {
  chooses = record {
    right = λ d n. right_one n (In St) ended f;
    deeper = λ d. same_refl (one f);
    front = λ d us rest b s stop. led_front ns F f (λ a. Empty a) test begun us rest b s;
    nest = λ d n. nest_one (May d) opens_nesting n f (quiet ns f calm test.numbers);
  };
  some = λ d. some_led f (λ a. Empty a) test.piece test.value test.taken (some_only test.value);
}

-- a token that opens a nesting
module _ {A B : Type 0} (ns : List ℕ) (F H G St : Set) (S : ℕ → A → Rule B) (R : ℕ → Rule B) (q : ℕ → A → Reader B) (r : ℕ → Reader B) (f : Piece → Option A)
    (brackets : included (these ns) Brackets ≡ true) (apart : none_in H ns ≡ true) (begun : included (these ns) F ≡ true) (wide : included H F ≡ true) (test : Test ns f)
    (least : (a : A) → SomeOf (S 1 a)) (fits : (a : A) → Parses G St (λ d. S (suc d) a) (λ d. q (suc d) a)) (other : Chooses H St R r) where
  right_opens : (d n : ℕ) → ReadsRule n (In St) (Or (Nested d f (S d)) (R d)) (Or (Nested (suc d) f (S (suc d))) (R (suc d))) (opens d f (q d) (r d))
  right_opens zero n = right_same n (In St) (R 0) (Or (TokenThen f (S 1)) (R 1)) (Or Fail (R 0)) (Or (TokenThen f (S 1)) (R 1)) (bar f (r 0))
      (λ us b s. inr s) (λ us b s. elim s [ inl none ↦ absurd none | inr s' ↦ s' ]) (λ us b s. s)
      (right_bar n (In St) f (S 1) (R 0) (R 1) (r 0) (other.right 0 n) least (skips ns H St R r f test apart other 0))
  right_opens (suc d) n = right_alt_by n (In St) f (S (suc d)) (S (suc (suc d))) (R (suc d)) (R (suc (suc d))) (q (suc d)) (r (suc d))
      (λ a. (fits a).chooses.right d (n - 1)) (other.right (suc d) n) (λ a. (fits a).some d) (skips ns H St R r f test apart other (suc d))

  deeper_opens : (d : ℕ) → GrowsWithNesting (opens d f (q d) (r d)) (opens (suc d) f (q (suc d)) (r (suc d)))
  deeper_opens zero = deeper_bar f (q 1) (q 1) (r 0) (r 1) (λ a. same_refl (q 1 a)) (other.deeper 0)
  deeper_opens (suc d) = deeper_alt f (q (suc d)) (q (suc (suc d))) (r (suc d)) (r (suc (suc d))) (λ a. (fits a).chooses.deeper d) (other.deeper (suc d))

  opens_front : (d : ℕ) (us rest : List Piece) (b : B) → Or (Nested d f (S d)) (R d) us b → In St (first rest) → In F (first (us ++ rest))
  opens_front zero us rest b (inl none) stop = absurd none
  opens_front (suc d) us rest b (inl led) stop = led_front ns F f (S (suc d)) test begun us rest b led
  opens_front d us rest b (inr s) stop = into H F wide (first (us ++ rest)) (other.front d us rest b s stop)

  some_at : (d : ℕ) (a : A) → SomeOf (S (suc d) a)
  some_at zero a = least a
  some_at (suc d) a = (fits a).some d

  under : (d n : ℕ) (a : A) → Under d n (S d a) (q d a)
  under zero n a = tt
  under (suc d) n a = (nest_held n (May d) opens_nesting (S (suc d) a) (q (suc d) a) ((fits a).chooses.nest d n), some_at d a)

  opens_parses : Parses F St (λ d. Or (Nested d f (S d)) (R d)) (λ d. opens d f (q d) (r d))
  opens_parses = record {
    chooses = record {
      right = right_opens;
      deeper = deeper_opens;
      front = opens_front;
      nest = λ d n. nest_opens d n f (S d) (R d) (q d) (r d) (opening ns f brackets test.numbers) (under d (n - 1)) (other.nest d n);
    };
    some = λ d. let (us, b, s) = some_led f (S (suc d)) test.piece test.value test.taken (some_at d test.value) in (us, b, inl s);
  }

pub parses_opens : {A B : Type 0} {ns : List ℕ} {F H G St : Set} {S : ℕ → A → Rule B} {R : ℕ → Rule B} {q : ℕ → A → Reader B} {r : ℕ → Reader B} {f : Piece → Option A} →
    included (these ns) Brackets ≡ true → none_in H ns ≡ true → included (these ns) F ≡ true → included H F ≡ true → Test ns f → ((a : A) → SomeOf (S 1 a)) →
    ((a : A) → Parses G St (λ d. S (suc d) a) (λ d. q (suc d) a)) → Chooses H St R r → Parses F St (λ d. Or (Nested d f (S d)) (R d)) (λ d. opens d f (q d) (r d))
parses_opens {A} {B} {ns} {F} {H} {G} {St} {S} {R} {q} {r} {f} brackets apart begun wide test least fits other = opens_parses ns F H G St S R q r f brackets apart begun wide test least fits other

-- any number, each behind a token
module _ {A B : Type 0} (ns : List ℕ) (F G H St : Set) (S : ℕ → A → Rule B) (q : ℕ → A → Reader B) (f : Piece → Option A)
    (calm : none_in Opening ns ≡ true) (apart : none_in St ns ≡ true) (begun : included (these ns) F ≡ true) (wide : included St F ≡ true) (goes_on : included F H ≡ true) (ended : contains St the_end ≡ true) (test : Test ns f)
    (least : (d : ℕ) (a : A) → SomeOf (S d a)) (fits : (a : A) → Parses G H (λ d. S d a) (λ d. q d a)) where
  ends : (x : Option Piece) → In St x → In H x
  ends x h = into F H goes_on x (into St F wide x h)

  behind : (u : Piece) (a : A) → f u ≡ Some a → In H (Some u)
  behind u a takes = into F H goes_on (Some u) (into (these ns) F begun (Some u) (test.numbers u a takes))

  many_front : (d : ℕ) (us rest : List Piece) (bs : List B) → Many f (S d) us bs → In St (first rest) → In F (first (us ++ rest))
  many_front d us rest [] e stop = subst (λ x. In F (first (x ++ rest))) (sym e) (into St F wide (first rest) stop)
  many_front d us rest (b ∷ bs) (u, a, vs, ws, cut, takes, s, m) stop = subst (λ x. In F (first (x ++ rest))) (sym cut) (into (these ns) F begun (Some u) (test.numbers u a takes))

  shut : (u : Piece) (a : A) → In St (Some u) → f u ≡ Some a → ⊥
  shut u a stop takes = none_holds St (number_of u.terminal) ns apart (test.numbers u a takes) stop

  many_parses : Parses F St (λ d. Many f (S d)) (λ d. many f (q d))
  many_parses = record {
    chooses = record {
      right = λ d n. right_many (In St) (In H) f (S d) (S (suc d)) (q d) (λ n a. (fits a).chooses.right d n) (least d) ended shut ends behind n;
      deeper = λ d. deeper_many f (q d) (q (suc d)) (λ a. (fits a).chooses.deeper d);
      front = many_front;
      nest = λ d n. nest_many (May d) opens_nesting (In St) (In H) f (S d) (S (suc d)) (q d) (λ n a. (fits a).chooses.right d n) (least d) ended shut ends behind
          (quiet ns f calm test.numbers) (λ n a. (fits a).chooses.nest d n) n;
    };
    some = λ d. ([], [], refl);
  }

pub parses_many : {A B : Type 0} {ns : List ℕ} {F G H St : Set} {S : ℕ → A → Rule B} {q : ℕ → A → Reader B} {f : Piece → Option A} →
    none_in Opening ns ≡ true → none_in St ns ≡ true → included (these ns) F ≡ true → included St F ≡ true → included F H ≡ true → contains St the_end ≡ true → Test ns f →
    ((d : ℕ) (a : A) → SomeOf (S d a)) → ((a : A) → Parses G H (λ d. S d a) (λ d. q d a)) → Parses F St (λ d. Many f (S d)) (λ d. many f (q d))
parses_many {A} {B} {ns} {F} {G} {H} {St} {S} {q} {f} calm apart begun wide goes_on ended test least fits = many_parses ns F G H St S q f calm apart begun wide goes_on ended test least fits

-- ---- tokens that may stand only in some places

lead_none : {A : Type 0} (f : Piece → Option A) (ts : List Piece) → lead (only_if false f) ts ≡ None
unfolding lead
lead_none f [] = refl
lead_none f (u ∷ us) = refl

never_led : {A B : Type 0} (f : Piece → Option A) (S : A → Rule B) (us : List Piece) (b : B) → TokenThen (only_if false f) S us b → ⊥
never_led f S us b (u, a, vs, cut, takes, s) = cc

pub never : {A B : Type 0} (f : Piece → Option A) (S : A → Rule B) (R : Rule B) (us : List Piece) (b : B) → Or (TokenThen (only_if false f) S) R us b → R us b
never f S R us b (inl led) = absurd (never_led f S us b led)
never f S R us b (inr s) = s

pub skipped : {A B : Type 0} (f : Piece → Option A) (q : A → Reader B) (r : Reader B) (ts : List Piece) → alt (only_if false f) q r ts ≡ r ts
skipped f q r ts = ap (λ o. branch o q (r ts)) (lead_none f ts)

pub same_outcomes : {A : Type 0} (o o' p p' : Outcome Piece A) → p ≡ o → p' ≡ o' → Same o o' → Same p p'
same_outcomes {A} o o' p p' e e' same = subst (λ x. Same x p') (sym e) (subst (λ x. Same o x) (sym e') same)

chooses_never : {A B : Type 0} (F H St : Set) (S : ℕ → A → Rule B) (R : ℕ → Rule B) (q : ℕ → A → Reader B) (r : ℕ → Reader B) (f : Piece → Option A) →
    included H F ≡ true → Chooses H St R r → Chooses F St (λ d. Or (TokenThen (only_if false f) (S d)) (R d)) (λ d. alt (only_if false f) (q d) (r d))
chooses_never F H St S R q r f wide other = record {
  right = λ d n. right_ext n (In St) (Or (TokenThen (only_if false f) (S d)) (R d)) (Or (TokenThen (only_if false f) (S (suc d))) (R (suc d))) (r d) (alt (only_if false f) (q d) (r d)) (λ ts all. skipped f (q d) (r d) ts)
      (right_same n (In St) (R d) (R (suc d)) (Or (TokenThen (only_if false f) (S d)) (R d)) (Or (TokenThen (only_if false f) (S (suc d))) (R (suc d))) (r d)
      (λ us b s. inr s) (never f (S d) (R d)) (λ us b s. inr s) (other.right d n));
  deeper = λ d ts. same_outcomes (r d ts) (r (suc d) ts) _ _ (skipped f (q d) (r d) ts) (skipped f (q (suc d)) (r (suc d)) ts) (other.deeper d ts);
  front = λ d us rest b s stop. into H F wide (first (us ++ rest)) (other.front d us rest b (never f (S d) (R d) us b s) stop);
  nest = λ d n. nest_ext (May d) opens_nesting n (Or (TokenThen (only_if false f) (S d)) (R d)) (r d) (alt (only_if false f) (q d) (r d)) (skipped f (q d) (r d))
      (nest_by (May d) opens_nesting n (R d) (Or (TokenThen (only_if false f) (S d)) (R d)) (r d) (λ us b s. inr s) (other.nest d n));
}

pub chooses_alt_if : {A B : Type 0} {ns : List ℕ} {F H G St : Set} {S : ℕ → A → Rule B} {R : ℕ → Rule B} {q : ℕ → A → Reader B} {r : ℕ → Reader B} {f : Piece → Option A} →
    none_in Opening ns ≡ true → none_in H ns ≡ true → included (these ns) F ≡ true → included H F ≡ true → (b : Bool) → Test ns f →
    (b ≡ true → (a : A) → Parses G St (λ d. S d a) (λ d. q d a)) → Chooses H St R r → Chooses F St (λ d. Or (TokenThen (only_if b f) (S d)) (R d)) (λ d. alt (only_if b f) (q d) (r d))
chooses_alt_if {A} {B} {ns} {F} {H} {G} {St} {S} {R} {q} {r} {f} calm apart begun wide true test fits other = chooses_alt calm apart begun wide test (fits refl) other
chooses_alt_if {A} {B} {ns} {F} {H} {G} {St} {S} {R} {q} {r} {f} calm apart begun wide false test fits other = chooses_never F H St S R q r f wide other

-- or nothing
pub parses_maybe : {A : Type 0} {F St : Set} {S : ℕ → Rule A} {p : ℕ → Reader A} {a : A} → Chooses F St (λ d. Or (S d) (Empty a)) p → Parses F St (λ d. Or (S d) (Empty a)) p
parses_maybe {A} {F} {St} {S} {p} {a} fits = record { chooses = fits; some = λ d. ([], a, inr (refl, refl)) }

-- one, and more behind a mark
pub parses_separated : {A : Type 0} {F H St : Set} {S : ℕ → Rule A} {p : ℕ → Reader A} (k : Terminal) → none_in Opening (number_of k ∷ []) ≡ true → none_in St (number_of k ∷ []) ≡ true → included (these (number_of k ∷ [])) H ≡ true →
    included St H ≡ true → contains St the_end ≡ true → Test (number_of k ∷ []) (mark k) → ((d : ℕ) → SomeOf (S d)) → Parses F H S p → Parses F St (λ d. Separated k (S d)) (λ d. separated k (p d))
unfolding separated
parses_separated {A} {F} {H} {St} {S} {p} k calm apart begun wide ended test least fits =
    parses_then (included_refl H) fits (λ x. parses_map (λ xs. x ∷ xs) (many_parses (number_of k ∷ []) H F H St (λ d _. S d) (λ d _. p d) (mark k) calm apart begun wide (included_refl H) ended test (λ d _. least d) (λ _. fits)))

-- another rule that says the same, another reader that gives the same
pub parses_same : {A : Type 0} {F St : Set} {S R : ℕ → Rule A} {p q : ℕ → Reader A} → ((d : ℕ) (us : List Piece) (a : A) → S d us a → R d us a) → ((d : ℕ) (us : List Piece) (a : A) → R d us a → S d us a) →
    ((d : ℕ) (ts : List Piece) → q d ts ≡ p d ts) → Parses F St S p → Parses F St R q
parses_same {A} {F} {St} {S} {R} {p} {q} to from same fits = record {
  chooses = record {
    right = λ d n. right_ext n (In St) (R d) (R (suc d)) (p d) (q d) (λ ts all. same d ts) (right_same n (In St) (S d) (S (suc d)) (R d) (R (suc d)) (p d) (to d) (from d) (to (suc d)) (fits.chooses.right d n));
    deeper = λ d ts. same_outcomes (p d ts) (p (suc d) ts) (q d ts) (q (suc d) ts) (same d ts) (same (suc d) ts) (fits.chooses.deeper d ts);
    front = λ d us rest a s stop. fits.chooses.front d us rest a (from d us a s) stop;
    nest = λ d n. nest_ext (May d) opens_nesting n (R d) (p d) (q d) (same d) (nest_by (May d) opens_nesting n (S d) (R d) (p d) (to d) (fits.chooses.nest d n));
  };
  some = λ d. let (us, a, s) = fits.some d in (us, a, to (suc d) us a s);
}

-- two tokens that no test takes both
module _ {A C B : Type 0} (ns ms : List ℕ) (F G H St : Set) (S : ℕ → A → Rule B) (T : ℕ → C → Rule B) (q : ℕ → A → Reader B) (r : ℕ → C → Reader B) (f : Piece → Option A) (g : Piece → Option C)
    (clash : (u : Piece) (a : A) (c : C) → f u ≡ Some a → g u ≡ Some c → ⊥) (numbers : (u : Piece) (a : A) → f u ≡ Some a → among ns (number_of u.terminal) ≡ true) (test : Test ms g)
    (calm : none_in Opening ns ≡ true) (calm_too : none_in Opening ms ≡ true) (begun : included (these ns) F ≡ true) (wide : included (these ms) F ≡ true) (ended : contains St the_end ≡ true)
    (fits : (a : A) → Parses G St (λ d. S d a) (λ d. q d a)) (other : (c : C) → Parses H St (λ d. T d c) (λ d. r d c)) where
  second : Parses F St (λ d. TokenThen g (T d)) (λ d. one g >>= r d)
  second = parses_led calm_too wide ended test other

  apart_leds : (d : ℕ) (us rest : List Piece) (b : B) → TokenThen g (T d) us b → In St (first rest) → Skips f (us ++ rest)
  apart_leds d us rest b (u, c, vs, cut, takes, s) stop = λ u' a is takes'.
      let same : u ≡ u' = let eq = sym (ap (λ x. first (x ++ rest)) cut) ∙ is in cc in clash u' a c takes' (subst (λ v. g v ≡ Some c) same takes)

  pub parses_leds : Parses F St (λ d. Or (TokenThen f (S d)) (TokenThen g (T d))) (λ d. alt f (q d) (one g >>= r d))
  parses_leds = record {
    chooses = record {
      right = λ d n. right_alt_by n (In St) f (S d) (S (suc d)) (TokenThen g (T d)) (TokenThen g (T (suc d))) (q d) (one g >>= r d) (λ a. (fits a).chooses.right d (n - 1)) (second.chooses.right d n) (λ a. (fits a).some d) (apart_leds d);
      deeper = λ d. deeper_alt f (q d) (q (suc d)) (one g >>= r d) (one g >>= r (suc d)) (λ a. (fits a).chooses.deeper d) (second.chooses.deeper d);
      front = λ d us rest b s stop. elim s [
        | inl (u, a, vs, cut, takes, s') ↦ subst (λ x. In F (first (x ++ rest))) (sym cut) (into (these ns) F begun (Some u) (numbers u a takes))
        | inr s' ↦ second.chooses.front d us rest b s' stop
      ];
      nest = λ d n. nest_quiet (May d) opens_nesting n f (S d) (TokenThen g (T d)) (q d) (one g >>= r d) (quiet ns f calm numbers) (λ a. (fits a).chooses.nest d (n - 1)) (second.chooses.nest d n);
    };
    some = λ d. let (us, b, s) = second.some d in (us, b, inr s);
  }

-- ---- repetitions with a state

pub takes_led : {A B : Type 0} {F St : Set} {S : ℕ → A → Rule B} {q : ℕ → A → Reader B} (f : Piece → Option A) → ((a : A) → Parses F St (λ d. S d a) (λ d. q d a)) →
    (d : ℕ) (u : Piece) (a : A) → f u ≡ Some a → Takes (one f >>= q d) u
unfolding lead
takes_led {A} {B} {F} {St} {S} {q} f fits d u a takes us bad =
    let read : q d a us ≡ Err (Grammar (suc (length us))) = sym (ap (λ o. and_then (branch (paired o us) pure (Err (Grammar (suc (length us))))) (q d)) takes) ∙ bad in
    let short = refused_within (In St) (S d a) (S (suc d) a) (q d a) (λ n. (fits a).chooses.right d n) us (suc (length us)) read in
    omega (arith, short)

module _ {B State : Type 0} (F G H St : Set) (gs : List ℕ) (g : State → Piece → Bool) (S : ℕ → State → Rule B) (q : ℕ → State → Reader B) (next : State → B → State)
    (apart : none_in St gs ≡ true) (begun : included (these gs) F ≡ true) (wide : included St F ≡ true) (goes_on : included F H ≡ true) (ended : contains St the_end ≡ true)
    (fits : (s : State) → Chooses G H (λ d. S d s) (λ d. q d s)) (begins : (d : ℕ) (s : State) → Begins (λ u. g s u ≡ true) (S d s))
    (numbers : (s : State) (u : Piece) → g s u ≡ true → among gs (number_of u.terminal) ≡ true) (takes : (d : ℕ) (s : State) (u : Piece) → g s u ≡ true → Takes (q d s) u) where
  stops : (s : State) (x : Option Piece) → In St x → of_first (g s) x ≡ false
  stops s None stop = refl
  stops s (Some u) stop = go (g s u) refl
    where
      go : (b : Bool) → g s u ≡ b → b ≡ false
      go true is = absurd (none_holds St (number_of u.terminal) gs apart (numbers s u is) stop)
      go false is = refl

  run_front : (d : ℕ) (s : State) (us rest : List Piece) (bs : List B) → Run (S d) next s us bs → In St (first rest) → In F (first (us ++ rest))
  run_front d s us rest [] e stop = subst (λ x. In F (first (x ++ rest))) (sym e) (into St F wide (first rest) stop)
  run_front d s us rest (b ∷ bs) (vs, ws, cut, r, m) stop =
      let (u, xs, cut', is) = begins d s vs b r in
      subst (λ x. In F (first (x ++ rest))) (sym (cut ∙ ap (λ x. x ++ ws) cut')) (into (these gs) F begun (Some u) (numbers s u is))

  pub parses_run : (s : State) → Parses F St (λ d. Run (S d) next s) (λ d. run g (q d) next s)
  parses_run s = record {
    chooses = record {
      right = λ d n. right_run (In St) (In H) g (S d) (S (suc d)) (q d) next (λ n s. (fits s).right d n) (begins d) (λ s u us is bad. takes d s u is us bad) ended stops
          (λ x h. into F H goes_on x (into St F wide x h)) (λ s b u is. into F H goes_on (Some u) (into (these gs) F begun (Some u) (numbers (next s b) u is))) n s;
      deeper = λ d. deeper_run g (q d) (q (suc d)) next (λ s. (fits s).deeper d) s;
      front = λ d us rest bs m stop. run_front d s us rest bs m stop;
      nest = λ d n. nest_run (May d) opens_nesting (In H) g (S d) (S (suc d)) (q d) next (λ n s. (fits s).right d n) (λ n s. (fits s).nest d n) n s;
    };
    some = λ d. ([], [], refl);
  }
