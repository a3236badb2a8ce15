-- Rules whose spellings are written: the law, and that each part of a grammar keeps it.
use Rattle.std.proofs.Common.{◌≡◌, ℕ, zero, suc, List, [], ◌∷◌, ◌++◌, Bool, true, false, not, Option, Some, refl, sym, ◌∙◌, ap, subst, inl, inr}
use Rattle.std.specs.List.{flat_map}
use Rattle.evo_combinators.specs.Rule.{Empty, Fail, TokenThen, Or, Then, Many}
use Rattle.evo_combinators.specs.Guard.{On, Run}
use Rattle.evo_round_trip.proofs.Alike.{AllLike}
use Rattle.evo_tree.specs.Pieces.{Piece}
use Rattle.evo_tree.specs.Expressions.{Rule, Nested}
use Rattle.evo_round_trip.proofs.Written.{Written, joined, is_none, is_gap, breaks, leads, IsToken, Sound}
use Rattle.evo_round_trip.proofs.Matching.{SameLookahead, IsGenuine, FromText}
use Rattle.evo_round_trip.proofs.Printed.{Text, begins, any, any_begins, is_apart, is_flush, is_free, Fitted, Matched, all_matched, matched_parts, firm_parts, genuine_left, genuine_right, begins_left, joined_append, sound_append, begins_within, begins_append, begins_after}

-- What S spells with genuine pieces, of which the first passes `g`, is written: behind what `before` says, the written text is `out`
-- of the value; the written tokens begin as `e` and `p` say; and whatever pieces match them, S' spells with them a value that is like it,
-- for whatever it is told that is near.
pub record Prints {A B : Type 0} (firm : Bool) (g : Piece → Bool) (e : Bool) (p : Written → Bool) (before : Text → Text) (out : B → Text) (Near : A → Type 0) (Same : B → B → Type 0) (S : Rule B) (S' : A → Rule B) : Type 0 where
  pub holds : (us : List Piece) (b : B) → FromText us → begins true g us ≡ true → S us b →
      (ws : List Written) × (before (joined ws) ≡ out b) × Sound ws × (begins e p ws ≡ true) × ((a : A) → Near a → (ms : List Piece) → Matched firm ms ws → (b' : B) × S' a ms b' × Same b b')

abbrev pub Alone : Unit {0} → Type 0
Alone a = Unit {0}

-- a rule by itself
abbrev pub Writes : {B : Type 0} → Bool → Bool → (Written → Bool) → (B → Text) → (B → B → Type 0) → Rule B → Rule B → Type 0
Writes firm e p out Same S S' = Prints firm any e p (λ z. z) out Alone Same S (λ a. S')

-- the first value as it is near, and a further one that is like `c`
abbrev pub Both : {A C : Type 0} → (A → Type 0) → (C → C → Type 0) → C → A × C → Type 0
Both Near SameLookahead c x = Near x.0 × SameLookahead c x.1

nothing_left : (firm : Bool) (ms : List Piece) → Matched firm ms [] → ms ≡ []
nothing_left firm [] f = refl
nothing_left firm (m ∷ ms) f = absurd f

module _ {A B : Type 0} {firm : Bool} {g : Piece → Bool} {before : Text → Text} {out : B → Text} {Near : A → Type 0} {Same : B → B → Type 0} where
  pub print_only : {p : Written → Bool} {b : B} {b' : A → B} → before [] ≡ out b → ((a : A) → Near a → Same b (b' a)) → Prints firm g true p before out Near Same (Empty b) (λ a. Empty (b' a))
  print_only {p} {b} {b'} written like = record {
    holds = λ us c gen fst s. (
      [],
      written ∙ ap out (sym s.1),
      tt,
      refl,
      λ a near ms fits. (b' a, (nothing_left firm ms fits, refl), subst (λ z. Same z (b' a)) (sym s.1) (like a near)),
    );
  }

  module _ {e : Bool} {p : Written → Bool} where
    pub print_nothing : {S' : A → Rule B} → Prints firm g e p before out Near Same Fail S'
    print_nothing = record { holds = λ us b gen fst s. absurd s }

    pub print_or : {S R : Rule B} {S' R' : A → Rule B} → Prints firm g e p before out Near Same S S' → Prints firm g e p before out Near Same R R' → Prints firm g e p before out Near Same (Or S R) (λ a. Or (S' a) (R' a))
    print_or {S} {R} {S'} {R'} cs cr = record { holds = go }
      where
        go : (us : List Piece) (b : B) → FromText us → begins true g us ≡ true → Or S R us b →
            (ws : List Written) × (before (joined ws) ≡ out b) × Sound ws × (begins e p ws ≡ true) × ((a : A) → Near a → (ms : List Piece) → Matched firm ms ws → (b' : B) × Or (S' a) (R' a) ms b' × Same b b')
        go us b gen fst (inl s) = let (ws, written, sound, begun, make) = cs.holds us b gen fst s in (ws, written, sound, begun, λ a near ms f. let (b', s', same) = make a near ms f in (b', inl s', same))
        go us b gen fst (inr r) = let (ws, written, sound, begun, make) = cr.holds us b gen fst r in (ws, written, sound, begun, λ a near ms f. let (b', r', same) = make a near ms f in (b', inr r', same))

    -- a weaker beginning
    pub print_more : {e' : Bool} {q : Written → Bool} {S : Rule B} {S' : A → Rule B} → (e ≡ true → e' ≡ true) → ((w : Written) → p w ≡ true → q w ≡ true) → Prints firm g e p before out Near Same S S' → Prints firm g e' q before out Near Same S S'
    print_more {e'} {q} h k cs = record {
      holds = λ us b gen fst s.
          let (ws, written, sound, begun, make) = cs.holds us b gen fst s in (ws, written, sound, begins_within e e' p q ws h k begun, make);
    }

-- a firmer match
pub print_firm : {A B : Type 0} {g : Piece → Bool} {e : Bool} {p : Written → Bool} {before : Text → Text} {out : B → Text} {Near : A → Type 0} {Same : B → B → Type 0} {S : Rule B} {S' : A → Rule B} →
    Prints false g e p before out Near Same S S' → Prints true g e p before out Near Same S S'
print_firm cs = record {
  holds = λ us b gen fst s.
      let (ws, written, sound, begun, make) = cs.holds us b gen fst s in (ws, written, sound, begun, λ a near ms f. make a near ms (loose ms ws f));
}
  where
    loose : (ms : List Piece) (ws : List Written) → Matched true ms ws → Matched false ms ws
    loose [] [] f = tt
    loose [] (w ∷ ws) f = absurd f
    loose (m ∷ ms) [] f = absurd f
    loose (m ∷ ms) (w ∷ ws) f = (f.0.0, f.1)

-- a rule by itself, whatever is told
pub print_alone : {A B : Type 0} {firm e : Bool} {p : Written → Bool} {out : B → Text} {Near : A → Type 0} {Same : B → B → Type 0} {S S' : Rule B} → Writes firm e p out Same S S' → Prints firm any e p (λ z. z) out Near Same S (λ a. S')
print_alone cs = record { holds = λ us b gen fst s. let (ws, written, sound, begun, make) = cs.holds us b gen fst s in (ws, written, sound, begun, λ a near ms f. make tt tt ms f) }

-- a rule by itself, as the rest of what is written
pub print_in : {A B : Type 0} {firm e : Bool} {p : Written → Bool} {before : Text → Text} {out out' : B → Text} {Near : A → Type 0} {Same : B → B → Type 0} {S S' : Rule B} →
    ((b : B) (z : Text) → z ≡ out b → before z ≡ out' b) → Writes firm e p out Same S S' → Prints firm any e p before out' Near Same S (λ a. S')
print_in h cs = record { holds = λ us b gen fst s. let (ws, written, sound, begun, make) = cs.holds us b gen fst s in (ws, h b (joined ws) written, sound, begun, λ a near ms f. make tt tt ms f) }

-- ---- tokens

-- a piece that the test takes is written as a token, and what matches it is taken with a value like it
abbrev pub Takes : {A C : Type 0} → Bool → (Piece → Bool) → (Written → Bool) → (C → Written) → (A → Type 0) → (C → C → Type 0) → (Piece → Option C) → (A → Piece → Option C) → Type 0
Takes {A} {C} firm g p w Near SameLookahead f f' = (u : Piece) (c : C) → IsGenuine u → g u ≡ true → f u ≡ Some c →
    IsToken (w c) × (p (w c) ≡ true) × ((a : A) → Near a → (m : Piece) → Fitted firm m (w c) → (c' : C) × (f' a m ≡ Some c') × SameLookahead c c')

pub record Taken {A C : Type 0} (firm : Bool) (g : Piece → Bool) (p : Written → Bool) (w : C → Written) (Near : A → Type 0) (SameLookahead : C → C → Type 0) (f : Piece → Option C) (f' : A → Piece → Option C) : Type 0 where
  pub holds : Takes firm g p w Near SameLookahead f f'

module _ {A B C : Type 0} {firm : Bool} {g : Piece → Bool} {e : Bool} {p : Written → Bool} {before : Text → Text} {out : B → Text} {Near : A → Type 0} {Same : B → B → Type 0}
    {w : C → Written} {SameLookahead : C → C → Type 0} {f : Piece → Option C} {f' : A → Piece → Option C} {S : C → Rule B} {S' : A → C → Rule B} where
  -- a token and what follows it, whose first piece passes `h`
  pub print_led_to : {h : C → Piece → Bool} {e' : Bool} {q : C → Written → Bool} →
      Taken firm g p w Near SameLookahead f f' → ((u : Piece) (vs : List Piece) (c : C) → f u ≡ Some c → FromText (u ∷ vs) → begins true (h c) vs ≡ true) →
      ((c : C) (ws : List Written) → begins e' (q c) ws ≡ true → leads (w c) ws ≡ true) →
      ((c : C) → Prints true (h c) e' (q c) (λ z. before ((w c).gap ++ ((w c).text ++ z))) out (Both Near SameLookahead c) Same (S c) (λ x. S' x.0 x.1)) →
      Prints firm g e p before out Near Same (TokenThen f S) (λ a. TokenThen (f' a) (S' a))
  print_led_to {h} {e'} {q} taken next joins rest = record { holds = go }
    where
      matched : (b : B) (c : C) (ws : List Written) → ((x : A × C) → Both Near SameLookahead c x → (ms : List Piece) → Matched true ms ws → (b' : B) × S' x.0 x.1 ms b' × Same b b') →
          ((a : A) → Near a → (m : Piece) → Fitted firm m (w c) → (c' : C) × (f' a m ≡ Some c') × SameLookahead c c') →
          (a : A) → Near a → (ms : List Piece) → Matched firm ms (w c ∷ ws) → (b' : B) × TokenThen (f' a) (S' a) ms b' × Same b b'
      matched b c ws make again a near [] fits = absurd fits
      matched b c ws make again a near (m ∷ ms) fits =
          let (c', takes', like) = again a near m fits.0 in
          let (b', s', same) = make (a, c') (near, like) ms (all_matched true ms ws fits.1) in
          (b', (m, c', ms, refl, takes', s'), same)

      go : (us : List Piece) (b : B) → FromText us → begins true g us ≡ true → TokenThen f S us b →
          (ws : List Written) × (before (joined ws) ≡ out b) × Sound ws × (begins e p ws ≡ true) × ((a : A) → Near a → (ms : List Piece) → Matched firm ms ws → (b' : B) × TokenThen (f' a) (S' a) ms b' × Same b b')
      go us b gen fst (u, c, vs, at, takes, s) =
          let gen' : FromText (u ∷ vs) = subst FromText at gen in
          let passes : g u ≡ true = subst (λ z. begins true g z ≡ true) at fst in
          let (token, first, again) = taken.holds u c gen'.0 passes takes in
          let (ws, written, sound, begun, make) = (rest c).holds vs b gen'.2 (next u vs c takes gen') s in
          (w c ∷ ws, written, (token, joins c ws begun, sound), first, λ a near ms fits. matched b c ws make again a near ms fits)

  -- a token and what follows it
  pub print_led : {e' : Bool} {q : Written → Bool} → Taken firm g p w Near SameLookahead f f' → ((c : C) (ws : List Written) → begins e' q ws ≡ true → leads (w c) ws ≡ true) →
      ((c : C) → Prints true any e' q (λ z. before ((w c).gap ++ ((w c).text ++ z))) out (Both Near SameLookahead c) Same (S c) (λ x. S' x.0 x.1)) →
      Prints firm g e p before out Near Same (TokenThen f S) (λ a. TokenThen (f' a) (S' a))
  print_led {e'} {q} taken joins rest = print_led_to {h = λ c. any} {e' = e'} {q = λ c. q} taken (λ u vs c takes gen. any_begins vs) joins rest

-- where so much nesting may open
module _ {A B C : Type 0} {firm : Bool} {g : Piece → Bool} {e : Bool} {p : Written → Bool} {before : Text → Text} {out : B → Text} {Near : A → Type 0} {Same : B → B → Type 0}
    {f : Piece → Option C} {f' : A → Piece → Option C} {S : C → Rule B} {S' : A → C → Rule B} where
  pub print_nested : (d : ℕ) → Prints firm g e p before out Near Same (TokenThen f S) (λ a. TokenThen (f' a) (S' a)) → Prints firm g e p before out Near Same (Nested d f S) (λ a. Nested d (f' a) (S' a))
  print_nested zero cs = record { holds = λ us b gen fst s. absurd s }
  print_nested (suc d) cs = cs

-- ---- one after the other

module _ {A B C : Type 0} {firm : Bool} {g : Piece → Bool} {e : Bool} {p : Written → Bool} {before : Text → Text} {out : B → Text} {Near : A → Type 0} {Same : B → B → Type 0}
    {outs : C → Text} {SameLookahead : C → C → Type 0} {p' q : Written → Bool} {S S' : Rule C} {R : C → Rule B} {R' : A → C → Rule B} where
  -- what is written behind something that is not empty
  pub print_then : {e' : Bool} → Prints {A = Unit {0}} firm g false p' (λ z. z) outs Alone SameLookahead S (λ a. S') → ((w : Written) → p' w ≡ true → p w ≡ true) → ((w : Written) → q w ≡ true → is_free w ≡ true) →
      ((c : C) → Prints true any e' q (λ z. before (outs c ++ z)) out (Both Near SameLookahead c) Same (R c) (λ x. R' x.0 x.1)) →
      Prints firm g e p before out Near Same (Then S R) (λ a. Then S' (R' a))
  print_then {e'} cs h k cr = record { holds = go }
    where
      go : (us : List Piece) (b : B) → FromText us → begins true g us ≡ true → Then S R us b →
          (ws : List Written) × (before (joined ws) ≡ out b) × Sound ws × (begins e p ws ≡ true) × ((a : A) → Near a → (ms : List Piece) → Matched firm ms ws → (b' : B) × Then S' (R' a) ms b' × Same b b')
      go us b gen fst (c, vs, ws, at, s, r) =
          let gen' : FromText (vs ++ ws) = subst FromText at gen in
          let (xs, written, sound, begun, make) = cs.holds vs c (genuine_left vs ws gen') (begins_left g vs ws (subst (λ z. begins true g z ≡ true) at fst)) s in
          let (ys, written', sound', begun', make') = (cr c).holds ws b (genuine_right vs ws gen') (any_begins ws) r in (
            xs ++ ys,
            ap before (joined_append xs ys ∙ ap (λ z. z ++ joined ys) written) ∙ written',
            sound_append xs ys sound sound' (begins_within e' true q is_free ys (λ t. refl) k begun'),
            begins_append e p xs ys (begins_within false false p' p xs (λ t. t) h begun),
            λ a near ms fits.
                let (ns, ps, cut, left, right) = firm_parts firm p' ms xs ys begun fits in
                let (c', s', like) = make tt tt ns left in
                let (b', r', same) = make' (a, c') (near, like) ps right in
                (b', (c', ns, ps, cut, s', r'), same),
          )

  -- what is written behind something that may be empty
  pub print_after : Prints {A = Unit {0}} firm any true p' (λ z. z) outs Alone SameLookahead S (λ a. S') → ((w : Written) → p' w ≡ true → p w ≡ true) → ((w : Written) → q w ≡ true → is_free w ≡ true) →
      ((w : Written) → q w ≡ true → p w ≡ true) →
      ((c : C) → Prints firm any e q (λ z. before (outs c ++ z)) out (Both Near SameLookahead c) Same (R c) (λ x. R' x.0 x.1)) →
      Prints firm g e p before out Near Same (Then S R) (λ a. Then S' (R' a))
  print_after cs h k l cr = record { holds = go }
    where
      go : (us : List Piece) (b : B) → FromText us → begins true g us ≡ true → Then S R us b →
          (ws : List Written) × (before (joined ws) ≡ out b) × Sound ws × (begins e p ws ≡ true) × ((a : A) → Near a → (ms : List Piece) → Matched firm ms ws → (b' : B) × Then S' (R' a) ms b' × Same b b')
      go us b gen fst (c, vs, ws, at, s, r) =
          let gen' : FromText (vs ++ ws) = subst FromText at gen in
          let (xs, written, sound, begun, make) = cs.holds vs c (genuine_left vs ws gen') (any_begins vs) s in
          let (ys, written', sound', begun', make') = (cr c).holds ws b (genuine_right vs ws gen') (any_begins ws) r in (
            xs ++ ys,
            ap before (joined_append xs ys ∙ ap (λ z. z ++ joined ys) written) ∙ written',
            sound_append xs ys sound sound' (begins_within e true q is_free ys (λ t. refl) k begun'),
            begins_after e p xs ys (begins_within true true p' p xs (λ t. t) h begun) (begins_within e e q p ys (λ t. t) l begun'),
            λ a near ms fits.
                let (ns, ps, cut, left, right) = matched_parts firm ms xs ys fits in
                let (c', s', like) = make tt tt ns left in
                let (b', r', same) = make' (a, c') (near, like) ps right in
                (b', (c', ns, ps, cut, s', r'), same),
          )

-- a part whose rule is told what stands before it, and whose text is that of all up to its end
module _ {A B C : Type 0} {firm : Bool} {g : Piece → Bool} {e : Bool} {p : Written → Bool} {before : Text → Text} {out : B → Text} {Near : A → Type 0} {Same : B → B → Type 0}
    {outs : C → Text} {SameLookahead : C → C → Type 0} {p' q : Written → Bool} {S : Rule C} {S' : A → Rule C} {R : C → Rule B} {R' : A → C → Rule B} where
  pub print_onto : {e' : Bool} → ((x y : Text) → before (x ++ y) ≡ before x ++ y) → Prints firm g false p' before outs Near SameLookahead S S' → ((w : Written) → p' w ≡ true → p w ≡ true) → ((w : Written) → q w ≡ true → is_free w ≡ true) →
      ((c : C) → Prints true any e' q (λ z. outs c ++ z) out (Both Near SameLookahead c) Same (R c) (λ x. R' x.0 x.1)) →
      Prints firm g e p before out Near Same (Then S R) (λ a. Then (S' a) (R' a))
  print_onto {e'} prefixes cs h k cr = record { holds = go }
    where
      go : (us : List Piece) (b : B) → FromText us → begins true g us ≡ true → Then S R us b →
          (ws : List Written) × (before (joined ws) ≡ out b) × Sound ws × (begins e p ws ≡ true) × ((a : A) → Near a → (ms : List Piece) → Matched firm ms ws → (b' : B) × Then (S' a) (R' a) ms b' × Same b b')
      go us b gen fst (c, vs, ws, at, s, r) =
          let gen' : FromText (vs ++ ws) = subst FromText at gen in
          let (xs, written, sound, begun, make) = cs.holds vs c (genuine_left vs ws gen') (begins_left g vs ws (subst (λ z. begins true g z ≡ true) at fst)) s in
          let (ys, written', sound', begun', make') = (cr c).holds ws b (genuine_right vs ws gen') (any_begins ws) r in (
            xs ++ ys,
            ap before (joined_append xs ys) ∙ prefixes (joined xs) (joined ys) ∙ ap (λ z. z ++ joined ys) written ∙ written',
            sound_append xs ys sound sound' (begins_within e' true q is_free ys (λ t. refl) k begun'),
            begins_append e p xs ys (begins_within false false p' p xs (λ t. t) h begun),
            λ a near ms fits.
                let (ns, ps, cut, left, right) = firm_parts firm p' ms xs ys begun fits in
                let (c', s', like) = make a near ns left in
                let (b', r', same) = make' (a, c') (near, like) ps right in
                (b', (c', ns, ps, cut, s', r'), same),
          )

-- a part that may be empty, whose rule is told a value that is near
module _ {A B C D : Type 0} {firm : Bool} {e : Bool} {p : Written → Bool} {before : Text → Text} {out : B → Text} {Near : A → Type 0} {Same : B → B → Type 0}
    {outs : C → Text} {SameLookahead : C → C → Type 0} {Told : D → Type 0} {told : A → D} {S : Rule C} {S' : D → Rule C} {R : C → Rule B} {R' : A → C → Rule B} where
  pub print_after_told : Prints firm any true p (λ z. z) outs Told SameLookahead S S' → ((a : A) → Near a → Told (told a)) →
      ((c : C) → Prints firm any e p (λ z. before (outs c ++ z)) out (Both Near SameLookahead c) Same (R c) (λ x. R' x.0 x.1)) →
      ((w : Written) → p w ≡ true → is_free w ≡ true) →
      Prints firm any e p before out Near Same (Then S R) (λ a. Then (S' (told a)) (R' a))
  print_after_told cs tell cr k = record { holds = go }
    where
      go : (us : List Piece) (b : B) → FromText us → begins true any us ≡ true → Then S R us b →
          (ws : List Written) × (before (joined ws) ≡ out b) × Sound ws × (begins e p ws ≡ true) × ((a : A) → Near a → (ms : List Piece) → Matched firm ms ws → (b' : B) × Then (S' (told a)) (R' a) ms b' × Same b b')
      go us b gen fst (c, vs, ws, at, s, r) =
          let gen' : FromText (vs ++ ws) = subst FromText at gen in
          let (xs, written, sound, begun, make) = cs.holds vs c (genuine_left vs ws gen') (any_begins vs) s in
          let (ys, written', sound', begun', make') = (cr c).holds ws b (genuine_right vs ws gen') (any_begins ws) r in (
            xs ++ ys,
            ap before (joined_append xs ys ∙ ap (λ z. z ++ joined ys) written) ∙ written',
            sound_append xs ys sound sound' (begins_within e true p is_free ys (λ t. refl) k begun'),
            begins_after e p xs ys begun begun',
            λ a near ms fits.
                let (ns, ps, cut, left, right) = matched_parts firm ms xs ys fits in
                let (c', s', like) = make (told a) (tell a near) ns left in
                let (b', r', same) = make' (a, c') (near, like) ps right in
                (b', (c', ns, ps, cut, s', r'), same),
          )

-- the same spellings by another rule
pub print_by : {A B : Type 0} {firm : Bool} {g : Piece → Bool} {e : Bool} {p : Written → Bool} {before : Text → Text} {out : B → Text} {Near : A → Type 0} {Same : B → B → Type 0} {S T : Rule B} {S' T' : A → Rule B} →
    ((us : List Piece) (b : B) → S us b → T us b) → ((a : A) (us : List Piece) (b : B) → T' a us b → S' a us b) → Prints firm g e p before out Near Same T T' → Prints firm g e p before out Near Same S S'
print_by to from cs = record {
  holds = λ us b gen fst s.
      let (ws, written, sound, begun, make) = cs.holds us b gen fst (to us b s) in
      (ws, written, sound, begun, λ a near ms f. let (b', t', same) = make a near ms f in (b', from a ms b' t', same));
}

-- ---- several

module _ {B : Type 0} {firm : Bool} {p : Written → Bool} {out : B → Text} {Same : B → B → Type 0} where
  pub print_many : {C : Type 0} {f f' : Piece → Option C} {S S' : C → Rule B} → ((w : Written) → p w ≡ true → is_free w ≡ true) → Writes firm false p out Same (TokenThen f S) (TokenThen f' S') →
      Writes firm true p (flat_map out) (AllLike Same) (Many f S) (Many f' S')
  print_many {C} {f} {f'} {S} {S'} free cs = record { holds = λ us b gen fst s. go us b gen s }
    where
      go : (us : List Piece) (bs : List B) → FromText us → Many f S us bs →
          (ws : List Written) × (joined ws ≡ flat_map out bs) × Sound ws × (begins true p ws ≡ true) × ((a : Unit {0}) → Alone a → (ms : List Piece) → Matched firm ms ws → (bs' : List B) × Many f' S' ms bs' × AllLike Same bs bs')
      go us [] gen none = ([], refl, tt, refl, λ a near ms fits. ([], nothing_left firm ms fits, tt))
      go us (b ∷ bs) gen (u, c, vs, rest, at, takes, s, more) =
          let gen' : FromText ((u ∷ vs) ++ rest) = subst FromText at gen in
          let (xs, written, sound, begun, make) = cs.holds (u ∷ vs) b (genuine_left (u ∷ vs) rest gen') refl (u, c, vs, refl, takes, s) in
          let (ys, written', sound', begun', make') = go rest bs (genuine_right (u ∷ vs) rest gen') more in (
            xs ++ ys,
            joined_append xs ys ∙ ap (λ z. z ++ joined ys) written ∙ ap (λ z. out b ++ z) written',
            sound_append xs ys sound sound' (begins_within true true p is_free ys (λ t. t) free begun'),
            begins_append true p xs ys begun,
            λ a near ms fits.
                let (ns, ps, cut, left, right) = matched_parts firm ms xs ys fits in
                let (b', (m, c', qs, at', takes', s'), same) = make tt tt ns left in
                let (bs', more', sames) = make' tt tt ps right in
                (b' ∷ bs', (m, c', qs, ps, cut ∙ ap (λ z. z ++ ps) at', takes', s', more'), (same, sames)),
          )

  -- each by the state that those before it left
  pub print_run : {St : Type 0} {S S' : St → Rule B} {next next' : St → B → St} {Rel : St → St → Type 0} → ((w : Written) → p w ≡ true → is_free w ≡ true) →
      ((s : St) → Prints firm any false p (λ z. z) out (Rel s) Same (S s) S') → ((s s' : St) (b b' : B) → Rel s s' → Same b b' → Rel (next s b) (next' s' b')) →
      (s : St) → Prints firm any true p (λ z. z) (flat_map out) (Rel s) (AllLike Same) (Run S next s) (λ s'. Run S' next' s')
  print_run {St} {S} {S'} {next} {next'} {Rel} free cs follows s = record { holds = λ us b gen fst r. go s us b gen r }
    where
      go : (s : St) (us : List Piece) (bs : List B) → FromText us → Run S next s us bs →
          (ws : List Written) × (joined ws ≡ flat_map out bs) × Sound ws × (begins true p ws ≡ true) × ((s' : St) → Rel s s' → (ms : List Piece) → Matched firm ms ws → (bs' : List B) × Run S' next' s' ms bs' × AllLike Same bs bs')
      go s us [] gen none = ([], refl, tt, refl, λ a near ms fits. ([], nothing_left firm ms fits, tt))
      go s us (b ∷ bs) gen (vs, rest, at, r, more) =
          let gen' : FromText (vs ++ rest) = subst FromText at gen in
          let (xs, written, sound, begun, make) = (cs s).holds vs b (genuine_left vs rest gen') (any_begins vs) r in
          let (ys, written', sound', begun', make') = go (next s b) rest bs (genuine_right vs rest gen') more in (
            xs ++ ys,
            joined_append xs ys ∙ ap (λ z. z ++ joined ys) written ∙ ap (λ z. out b ++ z) written',
            sound_append xs ys sound sound' (begins_within true true p is_free ys (λ t. t) free begun'),
            begins_append true p xs ys begun,
            λ a near ms fits.
                let (ns, ps, cut, left, right) = matched_parts firm ms xs ys fits in
                let (b', r', same) = make a near ns left in
                let (bs', more', sames) = make' (next' a b') (follows s a b b' near same) ps right in
                (b' ∷ bs', (ns, ps, cut, r', more'), (same, sames)),
          )

-- ---- behind white space

abbrev pub lead : List ℕ → List Written → List Written
lead gap [] = []
lead gap (w ∷ ws) = record w { gap = gap } ∷ ws

pub lead_sound : (gap : List ℕ) → is_gap gap ≡ true → (ws : List Written) → Sound ws → Sound (lead gap ws)
lead_sound gap blank [] s = tt
lead_sound gap blank (w ∷ []) (token, u, r) = (record { utf8 = token.utf8; gap = blank; front = token.front }, u, r)
lead_sound gap blank (w ∷ v ∷ ws) (token, u, r) = (record { utf8 = token.utf8; gap = blank; front = token.front }, u, r)

none_is : (gap : List ℕ) → is_none gap ≡ true → gap ≡ []
none_is [] h = refl
none_is (c ∷ cs) h = absurd (cc)

pub lead_joined : (gap : List ℕ) (ws : List Written) → begins false is_flush ws ≡ true → joined (lead gap ws) ≡ gap ++ joined ws
lead_joined gap [] h = absurd (cc)
lead_joined gap (w ∷ ws) h = ap (λ z. gap ++ (z ++ (w.text ++ joined ws))) (sym (none_is w.gap h))

pub lead_begins : (gap : List ℕ) → is_none gap ≡ false → (ws : List Written) → begins false is_flush ws ≡ true → begins false is_apart (lead gap ws) ≡ true
lead_begins gap some [] h = absurd (cc)
lead_begins gap some (w ∷ ws) h = ap not some

pub lead_fits : (gap : List ℕ) (ms : List Piece) (ws : List Written) → Matched false ms (lead gap ws) → Matched false ms ws
lead_fits gap [] [] f = tt
lead_fits gap [] (w ∷ ws) f = absurd f
lead_fits gap (m ∷ ms) [] f = absurd f
lead_fits gap (m ∷ ms) (w ∷ ws) (like, fits) = (record { terminal = like.terminal; text = like.text; role = like.role }, fits)

module _ {A B : Type 0} {g : Piece → Bool} {out : B → Text} {Near : A → Type 0} {Same : B → B → Type 0} {S : Rule B} {S' : A → Rule B} (gap : List ℕ) (some : is_none gap ≡ false) (blank : is_gap gap ≡ true) where
  pub print_behind : Prints false g false is_flush (λ z. z) out Near Same S S' → Prints false g false is_apart (λ z. z) (λ b. gap ++ out b) Near Same S S'
  print_behind cs = record {
    holds = λ us b gen fst s.
        let (ws, written, sound, begun, make) = cs.holds us b gen fst s in
        (lead gap ws, lead_joined gap ws begun ∙ ap (λ z. gap ++ z) written, lead_sound gap blank ws sound, lead_begins gap some ws begun, λ a near ms fits. make a near ms (lead_fits gap ms ws fits));
  }

  -- which passes a test that asks for this white space
  pub print_on : {t : Piece → Bool} → ((m : Piece) → m.below ≡ breaks gap → t m ≡ true) → Prints false g false is_flush (λ z. z) out Near Same S S' →
      Prints true g false is_apart (λ z. z) (λ b. gap ++ out b) Near Same S (λ a. On t (S' a))
  print_on {t} passes cs = record {
    holds = λ us b gen fst s.
        let (ws, written, sound, begun, make) = cs.holds us b gen fst s in
        (lead gap ws, lead_joined gap ws begun ∙ ap (λ z. gap ++ z) written, lead_sound gap blank ws sound, lead_begins gap some ws begun, λ a near ms fits. on b a ws begun (make a near) ms fits);
  }
    where
      on : (b : B) (a : A) (ws : List Written) → begins false is_flush ws ≡ true → ((ms : List Piece) → Matched false ms ws → (b' : B) × S' a ms b' × Same b b') →
          (ms : List Piece) → Matched true ms (lead gap ws) → (b' : B) × On t (S' a) ms b' × Same b b'
      on b a [] h make ms fits = absurd (cc)
      on b a (w ∷ ws) h make [] fits = absurd fits
      on b a (w ∷ ws) h make (m ∷ ms) fits =
          let (b', s', same) = make (m ∷ ms) (lead_fits gap (m ∷ ms) (w ∷ ws) (fits.0.0, fits.1)) in
          (b', (m, ms, refl, passes m fits.0.1, s'), same)
