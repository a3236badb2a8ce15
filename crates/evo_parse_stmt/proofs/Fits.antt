-- That a reader reads a rule at one nesting and one more: what each part keeps.
use Rattle.std.specs.Prelude.{◌≡◌, ◌==◌, ◌&&◌, ℕ, zero, suc, ◌-◌, Bool, true, List, [], ◌∷◌, ◌++◌, Option, Some, None, ◌⊎◌, refl}
use Rattle.std.proofs.Common.{sym, ◌∙◌, ap, subst, inl, inr, arith, length-append}
use Rattle.evo_base.specs.declared.place.Place.{Place}
use Rattle.evo_combinators.specs.Rule.{Empty, Fail, TokenThen, One, Or, Then, Many, SomeOf}
use Rattle.evo_combinators.specs.Reader.{◌>>=◌, pure, refuse, alt, one, bar, many}
use Rattle.evo_combinators.specs.Guard.{On, Run, ahead}
use Rattle.evo_combinators.specs.Attempt.{attempt, tries}
use Rattle.evo_combinators.specs.Laws.{Begins, GrowsWithNesting, ReadsRule, Skips, first}
use Rattle.evo_combinators.proofs.Laws.{right_pure, right_nothing, right_then_by, right_alt_by, right_same, right_stop, right_map, right_one, right_bar, right_many, begins_led, begins_or, begins_skips, begins_as}
use Rattle.evo_combinators.proofs.GuardLaws.{right_ahead}
use Rattle.evo_combinators.proofs.Attempts.{right_attempt, right_tries, deeper_attempt, deeper_tries}
use Rattle.evo_combinators.proofs.GrowsWithNesting.{same_refl, deeper_then, deeper_alt, deeper_bar, deeper_many}
use Rattle.evo_combinators.proofs.Sequences.{Anything, some_only, some_led, some_then, to_led, of_led}
use Rattle.evo_tree.specs.Pieces.{Piece, mark, identifier}
use Rattle.evo_tree.specs.Expressions.{Rule, Nested}
use Rattle.evo_tree.specs.declared.name.Identifier.{Identifier}
use Rattle.evo_tree.specs.declared.terminal.Terminal.{Terminal}
use Rattle.evo_tree.specs.declared.terminal.Terminal.TheVariants as t
use Rattle.evo_parse_expr.specs.Read.{Reader, opens}
use Rattle.evo_combinators.proofs.Nesting.{nest_pure, nest_refuse, nest_then, nest_alt, nest_quiet, nest_led, nest_many, nest_by}
use Rattle.evo_combinators.proofs.NestingTries.{nest_made, nest_attempt, nest_ahead, nest_tries}
use Rattle.evo_tree.specs.Pieces.{opens_nesting}
use Rattle.evo_tree.specs.Terminals.{number_of}
use Rattle.evo_parse_expr.proofs.Tests.{is_quiet, quiet_mark, quiet_number}
use Rattle.evo_parse_expr.proofs.Nesting.{May, ReadsInner, Under, nest_opens, identifier_quiet}
use Rattle.evo_parse_expr.proofs.Among.{among, disjoint, apart, among_append, among_behind}
use Rattle.evo_parse_expr.proofs.Tests.{and_both}
use Rattle.std.proofs.lemmas.Bool.{or_cases}
use Rattle.std.proofs.Common.{eqb-true}
use Rattle.evo_parse_stmt.proofs.Tests.{code, Codes, a_piece, a_place, mark_takes, identifier_takes}

-- the reader reads the rule, and with more nesting the other ones go together so too
pub record Law {A : Type 0} (d : ℕ) (Stop : Option Piece → Type 0) (S S' : Rule A) (p p' : Reader A) : Type 0 where
  pub right : (n : ℕ) → ReadsRule n Stop S S' p
  pub deeper : GrowsWithNesting p p'
  pub nest : (n : ℕ) → ReadsInner d n S p

-- and with more nesting something is spelled
pub record Fits {A : Type 0} (d : ℕ) (Stop : Option Piece → Type 0) (S S' : Rule A) (p p' : Reader A) : Type 0 where
  pub law : Law d Stop S S' p p'
  pub some : SomeOf S'
  pub here : May d → SomeOf S

-- the tokens that a test takes open no nesting
abbrev pub Quiet : {A : Type 0} → (Piece → Option A) → Type 0
Quiet {A} f = (t : Piece) (a : A) → f t ≡ Some a → opens_nesting t ≡ true → ⊥

abbrev pub all_quiet : List ℕ → Bool
all_quiet [] = true
all_quiet (j ∷ js) = is_quiet j && all_quiet js

quiet_among : (js : List ℕ) (n : ℕ) → all_quiet js ≡ true → among js n ≡ true → is_quiet n ≡ true
quiet_among [] n all is = absurd cc
quiet_among (j ∷ js) n all is = elim (or_cases (n == j) (among js n) is) [
  | inl same ↦ ap is_quiet (eqb-true n j same) ∙ (and_both (is_quiet j) (all_quiet js) all).0
  | inr more ↦ quiet_among js n (and_both (is_quiet j) (all_quiet js) all).1 more
]

pub quiet_by : {A : Type 0} (f : Piece → Option A) (js : List ℕ) → all_quiet js ≡ true → Codes js f → Quiet f
quiet_by f js all codes t a takes is = quiet_number (code t) (quiet_among js (code t) all (codes t a takes)) t refl is

-- as far as the nesting may open
abbrev pub Below : {A : Type 0} → ℕ → (Option Piece → Type 0) → Rule A → Rule A → Reader A → Reader A → Type 0
Below zero Stop S S' p p' = SomeOf S'
Below (suc d) Stop S S' p p' = Fits (suc d) Stop S S' p p'

-- what reads where some nesting may open also reads where more may
pub lift : {d : ℕ} {A : Type 0} {Stop : Option Piece → Type 0} {S S' : Rule A} {p p' : Reader A} → SomeOf S → Fits d Stop S S' p p' → Fits (suc d) Stop S S' p p'
lift some fits = record {
  law = record {
    right = fits.law.right;
    deeper = fits.law.deeper;
    nest = λ n. record { keeps = λ us x more all is le. (tt, ((fits.law.nest n).keeps us x more all is le).1); deep = (fits.law.nest n).deep };
  };
  some = fits.some;
  here = λ held. some;
}

pub fits_stop : {d : ℕ} {A : Type 0} {Stop End : Option Piece → Type 0} {S S' : Rule A} {p p' : Reader A} →
    ((x : Option Piece) → End x → Stop x) → End None → Fits d Stop S S' p p' → Fits d End S S' p p'
fits_stop {d} {A} {Stop} {End} {S} {S'} {p} {p'} ends ended fits = record {
  law = record { right = λ n. right_stop n Stop End S S' p ends ended (fits.law.right n); deeper = fits.law.deeper; nest = fits.law.nest };
  some = fits.some;
  here = fits.here;
}

pub fits_pure : {d : ℕ} {A : Type 0} {Stop : Option Piece → Type 0} → Stop None → (a : A) → Fits d Stop (Empty a) (Empty a) (pure a) (pure a)
fits_pure {d} {A} {Stop} ended a = record { law = record { right = λ n. right_pure n Stop ended a; deeper = same_refl (pure a); nest = λ n. nest_pure (May d) opens_nesting n (Empty a) a }; some = some_only a; here = λ held. some_only a }

pub law_nothing : {d : ℕ} {A : Type 0} {Stop : Option Piece → Type 0} → Stop None → Law {A = A} d Stop Fail Fail refuse refuse
law_nothing {d} {A} {Stop} ended = record { right = λ n. right_nothing n Stop ended; deeper = same_refl refuse; nest = λ n. nest_refuse (May d) opens_nesting n Fail }

pub fits_then : {d : ℕ} {A B : Type 0} {Stop End : Option Piece → Type 0} {S S' : Rule A} {R R' : A → Rule B} {p p' : Reader A} {q q' : A → Reader B} → End None →
    ((a : A) (vs rest : List Piece) (b : B) → R a vs b → End (first rest) → Stop (first (vs ++ rest))) →
    Fits d Stop S S' p p' → ((a : A) → Fits d End (R a) (R' a) (q a) (q' a)) → Fits d End (Then S R) (Then S' R') (p >>= q) (p' >>= q')
fits_then {d} {A} {B} {Stop} {End} {S} {S'} {R} {R'} {p} {p'} {q} {q'} ended follow fits next = record {
  law = record {
    right = λ n. right_then_by n n Stop End S S' R R' p q (fits.law.right n) (λ a. (next a).law.right n) (λ us vs a s fits. omega (arith, length-append us vs)) follow (λ a. (next a).some) ended;
    deeper = deeper_then p p' q q' fits.law.deeper (λ a. (next a).law.deeper);
    nest = λ n. nest_then (May d) opens_nesting n Stop S S' R p q (fits.law.right n) (fits.law.nest n) (λ a. (next a).law.nest n) (λ held a. (next a).here held);
  };
  some = some_then S' R' fits.some (λ a. (next a).some);
  here = λ held. some_then S R (fits.here held) (λ a. (next a).here held);
}

-- where anything may follow the first
pub fits_next : {d : ℕ} {A B : Type 0} {End : Option Piece → Type 0} {S S' : Rule A} {R R' : A → Rule B} {p p' : Reader A} {q q' : A → Reader B} → End None →
    Fits d Anything S S' p p' → ((a : A) → Fits d End (R a) (R' a) (q a) (q' a)) → Fits d End (Then S R) (Then S' R') (p >>= q) (p' >>= q')
fits_next ended fits next = fits_then ended (λ a vs rest b s stop. tt) fits next

pub fits_map : {d : ℕ} {A B : Type 0} {Stop : Option Piece → Type 0} {S S' : Rule A} {p p' : Reader A} (g : A → B) → Fits d Stop S S' p p' →
    Fits d Stop (Then S (λ a. Empty (g a))) (Then S' (λ a. Empty (g a))) (p >>= (λ a. pure (g a))) (p' >>= (λ a. pure (g a)))
fits_map {d} {A} {B} {Stop} {S} {S'} {p} {p'} g fits = record {
  law = record { right = λ n. right_map n Stop S S' p g (fits.law.right n); deeper = deeper_then p p' _ _ fits.law.deeper (λ a. same_refl (pure (g a))); nest = λ n. nest_made (May d) opens_nesting n S p g (fits.law.nest n) };
  some = some_then S' (λ a. Empty (g a)) fits.some (λ a. some_only (g a));
  here = λ held. some_then S (λ a. Empty (g a)) (fits.here held) (λ a. some_only (g a));
}

pub fits_one : {d : ℕ} {A : Type 0} (f : Piece → Option A) → Quiet f → (t : Piece) (a : A) → f t ≡ Some a → Fits d Anything (One f) (One f) (one f) (one f)
fits_one {d} {A} f quiet t a takes = record {
  law = record {
    right = λ n. right_one n Anything tt f;
    deeper = same_refl (one f);
    nest = λ n. nest_by (May d) opens_nesting n (Or (One f) Fail) (One f) (one f) (λ us x s. elim s [ inl one ↦ one | inr none ↦ absurd none ])
        (nest_quiet (May d) opens_nesting n f (λ x. Empty x) Fail pure refuse quiet (λ x. nest_pure (May d) opens_nesting (n - 1) (Empty x) x) (nest_refuse (May d) opens_nesting n Fail));
  };
  some = (t ∷ [], a, (t, a, [], refl, takes, (refl, refl)));
  here = λ held. (t ∷ [], a, (t, a, [], refl, takes, (refl, refl)));
}

pub fits_led : {d : ℕ} {A B : Type 0} {Stop : Option Piece → Type 0} {S S' : A → Rule B} {q q' : A → Reader B} (f : Piece → Option A) → Quiet f → (t : Piece) (a : A) → f t ≡ Some a → Stop None →
    ((a : A) → Fits d Stop (S a) (S' a) (q a) (q' a)) → Fits d Stop (TokenThen f S) (TokenThen f S') (one f >>= q) (one f >>= q')
fits_led {d} {A} {B} {Stop} {S} {S'} {q} {q'} f quiet t a takes ended fits = record {
  law = record {
    right = λ n. right_same n Stop (Then (One f) S) (Then (One f) S') (TokenThen f S) (TokenThen f S') (one f >>= q) (to_led f S) (of_led f S) (to_led f S')
        ((fits_next ended (fits_one f quiet t a takes) fits).law.right n);
    deeper = deeper_then (one f) (one f) q q' (same_refl (one f)) (λ x. (fits x).law.deeper);
    nest = λ n. nest_led (May d) opens_nesting n f S q quiet (λ x. (fits x).law.nest n);
  };
  some = some_led f S' t a takes (fits a).some;
  here = λ held. some_led f S t a takes ((fits a).here held);
}

pub fits_mark : {d : ℕ} {B : Type 0} {Stop : Option Piece → Type 0} {S S' : Place → Rule B} {q q' : Place → Reader B} (k : Terminal) → is_quiet (number_of k) ≡ true → Stop None →
    ((p : Place) → Fits d Stop (S p) (S' p) (q p) (q' p)) → Fits d Stop (TokenThen (mark k) S) (TokenThen (mark k) S') (one (mark k) >>= q) (one (mark k) >>= q')
fits_mark k quiet ended fits = fits_led (mark k) (quiet_mark k quiet) (a_piece k []) a_place (mark_takes k) ended fits

pub fits_name : {d : ℕ} {B : Type 0} {Stop : Option Piece → Type 0} {S S' : Identifier → Rule B} {q q' : Identifier → Reader B} → Stop None →
    ((n : Identifier) → Fits d Stop (S n) (S' n) (q n) (q' n)) → Fits d Stop (TokenThen identifier S) (TokenThen identifier S') (one identifier >>= q) (one identifier >>= q')
fits_name ended fits = fits_led identifier identifier_quiet (a_piece t.Identifier []) (record { place = a_place; text = [] }) identifier_takes ended fits

-- ---- by the first token

-- the first token opens no nesting, or what it leads is spelled with so much
abbrev pub Leading : {A B : Type 0} → ℕ → (Piece → Option A) → (A → Rule B) → Type 0
Leading {A} d f S = (t : Piece) (a : A) → f t ≡ Some a → opens_nesting t ≡ true → May d × SomeOf (S a)

quiet_leads : {A B : Type 0} (d : ℕ) (f : Piece → Option A) (S : A → Rule B) → Quiet f → Leading d f S
quiet_leads d f S quiet t a takes is = absurd (quiet t a takes is)

law_by : {d : ℕ} {A B : Type 0} {Stop : Option Piece → Type 0} {S S' : A → Rule B} {R R' : Rule B} {q q' : A → Reader B} {r r' : Reader B} (f : Piece → Option A) → Leading d f S →
    ((us rest : List Piece) (b : B) → R us b → Stop (first rest) → Skips f (us ++ rest)) →
    ((a : A) → Fits d Stop (S a) (S' a) (q a) (q' a)) → Law d Stop R R' r r' → Law d Stop (Or (TokenThen f S) R) (Or (TokenThen f S') R') (alt f q r) (alt f q' r')
law_by {d} {A} {B} {Stop} {S} {S'} {R} {R'} {q} {q'} {r} {r'} f leading skips fits other = record {
  right = λ n. right_alt_by n Stop f S S' R R' q r (λ a. (fits a).law.right (n - 1)) (other.right n) (λ a. (fits a).some) skips;
  deeper = deeper_alt f q q' r r' (λ a. (fits a).law.deeper) other.deeper;
  nest = λ n. nest_alt (May d) opens_nesting n f S R q r (λ a. (fits a).law.nest (n - 1)) (other.nest n) leading;
}

pub law_alt : {d : ℕ} {A B : Type 0} {Stop : Option Piece → Type 0} {S S' : A → Rule B} {R R' : Rule B} {q q' : A → Reader B} {r r' : Reader B} (f : Piece → Option A) → Quiet f →
    ((us rest : List Piece) (b : B) → R us b → Stop (first rest) → Skips f (us ++ rest)) →
    ((a : A) → Fits d Stop (S a) (S' a) (q a) (q' a)) → Law d Stop R R' r r' → Law d Stop (Or (TokenThen f S) R) (Or (TokenThen f S') R') (alt f q r) (alt f q' r')
law_alt {d} {A} {B} {Stop} {S} f quiet skips fits other = law_by f (quiet_leads d f S quiet) skips fits other

fits_by : {d : ℕ} {A B : Type 0} {Stop : Option Piece → Type 0} {S S' : A → Rule B} {R R' : Rule B} {q q' : A → Reader B} {r r' : Reader B} (f : Piece → Option A) → Leading d f S →
    ((us rest : List Piece) (b : B) → R us b → Stop (first rest) → Skips f (us ++ rest)) →
    ((a : A) → Fits d Stop (S a) (S' a) (q a) (q' a)) → Fits d Stop R R' r r' → Fits d Stop (Or (TokenThen f S) R) (Or (TokenThen f S') R') (alt f q r) (alt f q' r')
fits_by f leading skips fits other = record { law = law_by f leading skips fits other.law; some = let (us, b, s) = other.some in (us, b, inr s); here = λ held. let (us, b, s) = other.here held in (us, b, inr s) }

pub fits_alt : {d : ℕ} {A B : Type 0} {Stop : Option Piece → Type 0} {S S' : A → Rule B} {R R' : Rule B} {q q' : A → Reader B} {r r' : Reader B} (f : Piece → Option A) → Quiet f →
    ((us rest : List Piece) (b : B) → R us b → Stop (first rest) → Skips f (us ++ rest)) →
    ((a : A) → Fits d Stop (S a) (S' a) (q a) (q' a)) → Fits d Stop R R' r r' → Fits d Stop (Or (TokenThen f S) R) (Or (TokenThen f S') R') (alt f q r) (alt f q' r')
fits_alt {d} {A} {B} {Stop} {S} f quiet skips fits other = fits_by f (quiet_leads d f S quiet) skips fits other

under_of : {A : Type 0} (d n : ℕ) (Stop : Option Piece → Type 0) (S S' : Rule A) (p p' : Reader A) → Below d Stop S S' p p' → Under d n S p
under_of zero n Stop S S' p p' below = tt
under_of (suc d) n Stop S S' p p' below = (below.law.nest n, below.here tt)

pub law_opens : {A B : Type 0} {Stop : Option Piece → Type 0} {R R' : Rule B} {r r' : Reader B} (d : ℕ) (f : Piece → Option A) (S S' : A → Rule B) (q q' : A → Reader B) →
    ((p : Piece) (a : A) → f p ≡ Some a → opens_nesting p ≡ true) →
    ((us rest : List Piece) (b : B) → R us b → Stop (first rest) → Skips f (us ++ rest)) →
    ((a : A) → Below d Stop (S a) (S' a) (q a) (q' a)) → Law d Stop R R' r r' →
    Law d Stop (Or (Nested d f S) R) (Or (Nested (suc d) f S') R') (opens d f q r) (opens (suc d) f q' r')
law_opens {A} {B} {Stop} {R} {R'} {r} {r'} zero f S S' q q' opening skips fits other = record {
  right = λ n. right_same n Stop R (Or (TokenThen f S') R') (Or Fail R) (Or (TokenThen f S') R') (bar f r) (λ us b s. inr s) (λ us b s. elim s [ inl none ↦ absurd none | inr r ↦ r ]) (λ us b s. s)
      (right_bar n Stop f S' R R' r (other.right n) fits skips);
  deeper = deeper_bar f q' q' r r' (λ a. same_refl (q' a)) other.deeper;
  nest = λ n. nest_opens 0 n f S R q r opening (λ a. tt) (other.nest n);
}
law_opens {A} {B} {Stop} {R} {R'} {r} {r'} (suc d) f S S' q q' opening skips fits other = record {
  right = λ n. right_alt_by n Stop f S S' R R' q r (λ a. (fits a).law.right (n - 1)) (other.right n) (λ a. (fits a).some) skips;
  deeper = deeper_alt f q q' r r' (λ a. (fits a).law.deeper) other.deeper;
  nest = λ n. nest_opens (suc d) n f S R q r opening (λ a. under_of (suc d) (n - 1) Stop (S a) (S' a) (q a) (q' a) (fits a)) (other.nest n);
}

-- where a rule may spell nothing
pub no_skips : {A B : Type 0} (Stop : Option Piece → Type 0) (f : Piece → Option A) → (us rest : List Piece) (b : B) → Fail us b → Stop (first rest) → Skips f (us ++ rest)
no_skips Stop f us rest b s stop = absurd s

-- ---- any number

pub fits_many : {d : ℕ} {A B : Type 0} {Stop End : Option Piece → Type 0} {S S' : A → Rule B} {q q' : A → Reader B} (f : Piece → Option A) → Quiet f → End None →
    ((t : Piece) (a : A) → End (Some t) → f t ≡ Some a → ⊥) → ((x : Option Piece) → End x → Stop x) → ((t : Piece) (a : A) → f t ≡ Some a → Stop (Some t)) →
    ((a : A) → SomeOf (S a)) → ((a : A) → Fits d Stop (S a) (S' a) (q a) (q' a)) → Fits d End (Many f S) (Many f S') (many f q) (many f q')
fits_many {d} {A} {B} {Stop} {End} {S} {S'} {q} {q'} f quiet ended stops ends next some fits = record {
  law = record {
    right = right_many End Stop f S S' q (λ n a. (fits a).law.right n) some ended stops ends next;
    deeper = deeper_many f q q' (λ a. (fits a).law.deeper);
    nest = λ n. nest_many (May d) opens_nesting End Stop f S S' q (λ n a. (fits a).law.right n) some ended stops ends next quiet (λ n a. (fits a).law.nest n) n;
  };
  some = ([], [], refl);
  here = λ held. ([], [], refl);
}

-- ---- a look at the first token

begun_some : {A : Type 0} (P : Piece → Type 0) (S : Rule A) → Begins P S → (a : A) → S [] a → ⊥
begun_some P S begins a s = let (t, vs, cut, h) = begins [] a s in cc

-- what begins with more nesting begins so with less
pub begun_law : {d : ℕ} {A : Type 0} {Stop : Option Piece → Type 0} {S S' : Rule A} {p p' : Reader A} {P : Piece → Type 0} → Law d Stop S S' p p' → Begins P S' → Begins P S
begun_law law begins us a s = begins us a ((law.right 0).wider us a s)

pub law_ahead : {d : ℕ} {A : Type 0} {Stop : Option Piece → Type 0} {S S' : Rule A} {p p' : Reader A} (g : Piece → Bool) (P : Piece → Type 0) → Begins P S' → Law d Stop S S' p p' →
    Law d Stop (On g S) (On g S') (ahead g >>= (λ _. p)) (ahead g >>= (λ _. p'))
law_ahead {d} {A} {Stop} {S} {S'} {p} {p'} g P begins law = record {
  right = λ n. right_ahead n Stop g S S' p (law.right n) (begun_some P S (begun_law law begins));
  deeper = deeper_then (ahead g) (ahead g) (λ _. p) (λ _. p') (same_refl (ahead g)) (λ _. law.deeper);
  nest = λ n. nest_ahead (May d) opens_nesting n g S p (law.nest n);
}

-- ---- trying

abbrev Maybe : {A : Type 0} → Rule A → Rule (Option A)
Maybe S = Or (Then S (λ a. Empty (Some a))) (Empty None)

pub fits_attempt : {d : ℕ} {A : Type 0} {Stop End : Option Piece → Type 0} {S S' : Rule A} {p p' : Reader A} (P : Piece → Type 0) → Begins P S' → End None →
    ((x : Option Piece) → End x → Stop x) → ((t : Piece) → End (Some t) → P t → ⊥) → Law d Stop S S' p p' → Fits d End (Maybe S) (Maybe S') (attempt p) (attempt p')
fits_attempt {d} {A} {Stop} {End} {S} {S'} {p} {p'} P begins ended ends shut law = record {
  law = record {
    right = right_attempt Stop S S' p law.right (begun_some P S (begun_law law begins)) End P begins ended ends shut;
    deeper = deeper_attempt p p' law.deeper;
    nest = λ n. nest_attempt (May d) opens_nesting n S p (law.nest n);
  };
  some = ([], None, inr (refl, refl));
  here = λ held. ([], None, inr (refl, refl));
}

pub fits_tries : {d : ℕ} {B St : Type 0} {Stop StopQ : Option Piece → Type 0} {S S' : St → Rule B} {q q' : St → Reader B} (next : St → B → St) (P : St → Piece → Type 0) →
    ((s : St) → Begins (P s) (S' s)) → Stop None → ((s : St) (t : Piece) → Stop (Some t) → P s t → ⊥) → ((x : Option Piece) → Stop x → StopQ x) →
    ((s : St) (b : B) (t : Piece) → P (next s b) t → StopQ (Some t)) → ((s : St) → Law d StopQ (S s) (S' s) (q s) (q' s)) →
    (s : St) → Fits d Stop (Run S next s) (Run S' next s) (tries q next s) (tries q' next s)
fits_tries {d} {B} {St} {Stop} {StopQ} {S} {S'} {q} {q'} next P begins ended shut ends follow laws s = record {
  law = record {
    right = λ n. right_tries Stop StopQ S S' q next P (λ n s. (laws s).right n) (λ s. begun_some (P s) (S s) (begun_law (laws s) (begins s))) begins ended shut ends follow n s;
    deeper = deeper_tries q q' next (λ s. (laws s).deeper) s;
    nest = λ n. nest_tries (May d) opens_nesting StopQ S S' q next P (λ n s. (laws s).right n) (λ s. begun_some (P s) (S s) (begun_law (laws s) (begins s))) begins (λ n s. (laws s).nest n) n s;
  };
  some = ([], [], refl);
  here = λ held. ([], [], refl);
}

-- what stands first in any number of turns and behind them
pub run_follows : {B St : Type 0} {Stop StopQ : Option Piece → Type 0} (S : St → Rule B) (next : St → B → St) (P : St → Piece → Type 0) → (s : St) → Begins (P s) (S s) →
    ((x : Option Piece) → Stop x → StopQ x) → ((t : Piece) → P s t → StopQ (Some t)) →
    (us rest : List Piece) (bs : List B) → Run S next s us bs → Stop (first rest) → StopQ (first (us ++ rest))
run_follows {B} {St} {Stop} {StopQ} S next P s begins ends follow us rest [] e stop = subst (λ (z : List Piece). StopQ (first (z ++ rest))) (sym e) (ends (first rest) stop)
run_follows {B} {St} {Stop} {StopQ} S next P s begins ends follow us rest (b ∷ bs) (vs, ws, cut, r, m) stop =
    let (t, xs, cut', is) = begins vs b r in
    subst (λ (z : List Piece). StopQ (first (z ++ rest))) (sym (cut ∙ ap (λ (z : List Piece). z ++ ws) cut')) (follow t is)

-- what stands first in a rule and behind it
pub begun_follows : {A : Type 0} {P : Piece → Type 0} (StopQ : Option Piece → Type 0) (S : Rule A) → Begins P S → ((t : Piece) → P t → StopQ (Some t)) →
    (us rest : List Piece) (a : A) → S us a → StopQ (first (us ++ rest))
begun_follows StopQ S begins follow us rest a s = let (t, vs, cut, h) = begins us a s in subst (λ (z : List Piece). StopQ (first (z ++ rest))) (sym cut) (follow t h)

-- ---- alternatives by the numbers of their first tokens. Extra says what else the last ones begin with.

abbrev pub Leads : (Piece → Type 0) → List ℕ → Piece → Type 0
Leads extra ks t = (among ks (code t) ≡ true) ⊎ extra t

pub record Tail {A : Type 0} (d : ℕ) (Stop : Option Piece → Type 0) (extra : Piece → Type 0) (ks : List ℕ) (R R' : Rule A) (r r' : Reader A) : Type 0 where
  pub fits : Fits d Stop R R' r r'
  pub begins : Begins (Leads extra ks) R'

pub tail_by : {d : ℕ} {A B : Type 0} {Stop : Option Piece → Type 0} {extra : Piece → Type 0} {ks : List ℕ} {S S' : A → Rule B} {R R' : Rule B} {q q' : A → Reader B} {r r' : Reader B}
    (f : Piece → Option A) (js : List ℕ) → Codes js f → Leading d f S → disjoint js ks ≡ true → ((t : Piece) → extra t → among js (code t) ≡ true → ⊥) →
    ((a : A) → Fits d Stop (S a) (S' a) (q a) (q' a)) → Tail d Stop extra ks R R' r r' →
    Tail d Stop extra (js ++ ks) (Or (TokenThen f S) R) (Or (TokenThen f S') R') (alt f q r) (alt f q' r')
tail_by {d} {A} {B} {Stop} {extra} {ks} {S} {S'} {R} {R'} {q} {q'} {r} {r'} f js codes leading far other fits tail = record {
  fits = fits_by f leading (λ us rest b s stop. begins_skips (Leads extra ks) f R (begun_law tail.fits.law tail.begins) clash us rest b s) fits tail.fits;
  begins = begins_or (Leads extra (js ++ ks)) (TokenThen f S') R' (begins_led (Leads extra (js ++ ks)) f S' (λ t a takes. inl (among_append js ks (code t) (codes t a takes))))
      (begins_as (Leads extra ks) (Leads extra (js ++ ks)) R' (λ t h. elim h [ inl is ↦ inl (among_behind js ks (code t) is) | inr e ↦ inr e ]) tail.begins);
}
  where
    clash : (t : Piece) (a : A) → Leads extra ks t → f t ≡ Some a → ⊥
    clash t a (inl is) takes = apart js ks (code t) far (codes t a takes) is
    clash t a (inr e) takes = other t e (codes t a takes)

pub tail_alt : {d : ℕ} {A B : Type 0} {Stop : Option Piece → Type 0} {extra : Piece → Type 0} {ks : List ℕ} {S S' : A → Rule B} {R R' : Rule B} {q q' : A → Reader B} {r r' : Reader B}
    (f : Piece → Option A) (js : List ℕ) → Codes js f → Quiet f → disjoint js ks ≡ true → ((t : Piece) → extra t → among js (code t) ≡ true → ⊥) →
    ((a : A) → Fits d Stop (S a) (S' a) (q a) (q' a)) → Tail d Stop extra ks R R' r r' →
    Tail d Stop extra (js ++ ks) (Or (TokenThen f S) R) (Or (TokenThen f S') R') (alt f q r) (alt f q' r')
tail_alt {d} {A} {B} {Stop} {extra} {ks} {S} f js codes quiet far other fits tail = tail_by f js codes (quiet_leads d f S quiet) far other fits tail

pub tail_last : {d : ℕ} {A B : Type 0} {Stop : Option Piece → Type 0} {extra : Piece → Type 0} {S S' : A → Rule B} {r r' : Reader B} (f : Piece → Option A) (js : List ℕ) → Codes js f →
    Fits d Stop (TokenThen f S) (TokenThen f S') r r' → Tail d Stop extra js (TokenThen f S) (TokenThen f S') r r'
tail_last {d} {A} {B} {Stop} {extra} {S} {S'} f js codes fits = record { fits = fits; begins = begins_led (Leads extra js) f S' (λ t a takes. inl (codes t a takes)) }
