-- Which tokens open a nesting, through another reader that gives the same, one token, a look at the first token, and a repetition with a state.
use Rattle.std.specs.Prelude.{◌≡◌, ℕ, zero, suc, ◌-◌, ◌≤◌, Bool, true, false, cond, List, [], ◌∷◌, ◌++◌, length, Option, Some, Ok, Err, refl}
use Rattle.std.proofs.Common.{sym, ◌∙◌, subst, inl, inr}
use Rattle.evo_combinators.specs.declared.Fault.TheVariants.{Grammar}
use Rattle.evo_combinators.specs.Rule.{Empty, Fail, One, Or, Then}
use Rattle.evo_combinators.specs.Reader.{Outcome, Reader, and_then, ◌>>=◌, pure, refuse, one}
use Rattle.evo_combinators.specs.Guard.{starts, on, ahead, On, Run, run_from, run}
use Rattle.evo_combinators.specs.Laws.{ReadsRule}
use Rattle.evo_combinators.specs.Nesting.{left_of}
use Rattle.evo_combinators.proofs.Laws.{of_map}
use Rattle.evo_combinators.proofs.Nesting.{Nest, nest_pure, nest_refuse, nest_then, nest_by, nest_quiet, nest_choose}
use Rattle.evo_combinators.proofs.NestingTries.{nest_made, nest_ahead}

-- what holds besides may be left out
pub nest_held : {T A : Type 0} (n : ℕ) (Q : Type 0) (opens : T → Bool) (S : List T → A → Type 0) (p : Reader T A) → Nest n Q opens S p → Nest n (Unit {0}) opens S p
nest_held n Q opens S p nest = record { keeps = λ us t more fits is le. (tt, (nest.keeps us t more fits is le).1); deep = nest.deep }

module _ {T : Type 0} (Q : Type 0) (opens : T → Bool) where
  -- another reader that gives the same
  pub nest_ext : {A : Type 0} (n : ℕ) (S : List T → A → Type 0) (p q : Reader T A) → ((ts : List T) → q ts ≡ p ts) → Nest n Q opens S p → Nest n Q opens S q
  nest_ext n S p q same nest = record {
    keeps = λ us t more fits is le. nest.keeps us t more fits is (subst (λ o. left_of o ≤ length more) (same (us ++ t ∷ more)) le);
    deep = λ ts k fits e. nest.deep ts k fits (sym (same ts) ∙ e);
  }

  -- one token that opens nothing
  pub nest_one : {A : Type 0} (n : ℕ) (f : T → Option A) → ((t : T) (a : A) → f t ≡ Some a → opens t ≡ true → ⊥) → Nest n Q opens (One f) (one f)
  nest_one n f quiet = nest_by Q opens n (Or (One f) Fail) (One f) (one f) (λ us a s. elim s [ inl token ↦ token | inr none ↦ absurd none ])
      (nest_quiet Q opens n f (λ a. Empty a) Fail pure refuse quiet (λ a. nest_pure Q opens (n - 1) (Empty a) a) (nest_refuse Q opens n Fail))

  -- a look at the first token, which the reader itself takes
  abbrev glance : List T → Bool → Outcome T (Unit {0})
  glance ts c = cond c (Ok (tt, ts)) (Err (Grammar (length ts)))

  glanced : {A : Type 0} (p : Reader T A) (ts : List T) (c : Bool) → ◌≡◌ {A = Outcome T A} (cond c (p ts) (Err (Grammar (length ts)))) (and_then (glance ts c) (λ _. p))
  glanced p ts true = refl
  glanced p ts false = refl

  looks_ahead : {A : Type 0} (g : T → Bool) (p : Reader T A) (ts : List T) → on g p refuse ts ≡ (ahead g >>= (λ _. p)) ts
  unfolding ahead
  looks_ahead g p ts = glanced p ts (starts g ts)

  pub nest_filter : {A : Type 0} (n : ℕ) (g : T → Bool) (S : List T → A → Type 0) (p : Reader T A) → Nest n Q opens S p → Nest n Q opens (On g S) (on g p refuse)
  nest_filter n g S p nest = nest_ext n (On g S) (ahead g >>= (λ _. p)) (on g p refuse) (looks_ahead g p) (nest_ahead Q opens n g S p nest)

  -- a repetition with a state
  module _ {B St : Type 0} (StopQ : Option T → Type 0) (g : St → T → Bool) (S S' : St → List T → B → Type 0) (q : St → Reader T B) (next : St → B → St)
      (right_q : (n : ℕ) (s : St) → ReadsRule n StopQ (S s) (S' s) (q s)) (nest_q : (n : ℕ) (s : St) → Nest n Q opens (S s) (q s)) where
    -- one turn, as the parts have it
    abbrev Later : St → B → List T → List B → Type 0
    Later s b = Then (Run S next (next s b)) (λ bs. Empty (b ∷ bs))

    to_run : (s : St) (us : List T) (bs : List B) → Or (Then (S s) (Later s)) (Empty []) us bs → Run S next s us bs
    to_run s us bs (inl (b, vs, ws, cut, r, m)) =
        let (bs', m', e) = of_map (Run S next (next s b)) (λ bs. b ∷ bs) ws bs m in
        subst (Run S next s us) (sym e) (vs, ws, cut, r, m')
    to_run s us bs (inr (none, e)) = subst (Run S next s us) (sym e) none

    nest_from : (m n : ℕ) (s : St) → Nest n Q opens (Run S next s) (run_from g q next m s)
    nest_from zero n s = nest_pure Q opens n (Run S next s) []
    nest_from (suc m) n s = nest_by Q opens n (Or (Then (S s) (Later s)) (Empty [])) (Run S next s) _ (to_run s)
        (nest_choose Q opens n (starts (g s)) (Then (S s) (Later s)) (Empty []) _ (pure [])
        (nest_then Q opens n StopQ (S s) (S' s) (Later s) (q s) _ (right_q n s) (nest_q n s)
        (λ b. nest_made Q opens n (Run S next (next s b)) (run_from g q next m (next s b)) (λ bs. b ∷ bs) (nest_from m n (next s b)))
        (λ held b. ([], b ∷ [], ([], [], [], refl, refl, (refl, refl)))))
        (nest_pure Q opens n (Empty []) []))

    pub nest_run : (n : ℕ) (s : St) → Nest n Q opens (Run S next s) (run g q next s)
    unfolding run
    nest_run n s = record {
      keeps = λ us t more fits is le. (nest_from (length (us ++ t ∷ more)) n s).keeps us t more fits is le;
      deep = λ ts k fits e. (nest_from (length ts) n s).deep ts k fits e;
    }
