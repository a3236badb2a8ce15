-- Rounds of offers find the first path of each class.
use Rattle.std.proofs.Common.{◌≡◌, ℕ, zero, suc, ◌+◌, ◌<◌, List, [], ◌∷◌, ◌++◌, length, set, Option, Some, None, slice_get, Bool, true, false, cond, ◌==◌, ◌⊎◌, inl, inr, refl, sym, ◌∙◌, ap, subst, arith, length-append, eq-eqb}
use Rattle.std.proofs.lemmas.Bool.{eqb-true}
use Rattle.std.proofs.lemmas.List.{get_or-set_same, get_or-set_other, length-set}
use Rattle.std.specs.Option.{option_map}
use Rattle.std.specs.Ordering.{is_lt}
use Rattle.evo_resolved.specs.declared.resolved_type.RType.{RType}
use Rattle.evo_resolved.specs.declared.resolved_type.RType.TheVariants as ty
use Rattle.evo_names.specs.Listed.{Text}
use Rattle.evo_solve.specs.declared.path.Path.{Path}
use Rattle.evo_solve.specs.declared.universe.Node.{Node}
use Rattle.evo_solve.specs.declared.universe.Origin.{Origin}
use Rattle.evo_solve.specs.declared.universe.Origin.TheVariants.{Root, Taken}
use Rattle.evo_solve.specs.Equal.{taken, parameter}
use Rattle.evo_solve.specs.Canonical.{NotAfter, path_order}
use Rattle.evo_solve.specs.Universe.{InRange, Walks, Has, rep, best_of, root_offer, offer_by, offer, lesser, Improves, Offered, Sound, Least, Relaxed}
use Rattle.evo_solve.proofs.Growing.{path_eq}
use Rattle.evo_solve.proofs.Closing.{rooted, branched}
use Rattle.evo_solve.proofs.Walking.{has_taken, has_back}
use Rattle.evo_solve.proofs.Lists.{below_length}
use Rattle.evo_solve.proofs.Ordered.{not_after_refl, not_after_trans, not_after_taken, not_before, before_not_after}

pub improves_on : (o : Option Path) (b c : Path) → Improves o b → NotAfter b c → Improves o c
improves_on o b c i n = (i.0, i.1, not_after_trans i.0 b c i.2 n)

abbrev Lower : List (Option Path) → List (Option Path) → Type 0
Lower old new = (c : ℕ) (b : Path) → best_of old c ≡ Some b → Improves (best_of new c) b

-- ---- one path more is kept

kept_at : (now new : List (Option Path)) (r : ℕ) (p : Path) → r < length now → new ≡ set now r (Some (lesser (best_of now r) p)) → best_of new r ≡ Some (lesser (best_of now r) p)
kept_at now new r p less is = ap (λ l. best_of l r) is ∙ get_or-set_same now r (Some (lesser (best_of now r) p)) None less

kept_elsewhere : (now new : List (Option Path)) (r c : ℕ) (p : Path) → new ≡ set now r (Some (lesser (best_of now r) p)) → (c == r) ≡ false → best_of new c ≡ best_of now c
kept_elsewhere now new r c p is other =
    let differ : c ≡ r → ⊥ = λ e. differs c r e other in
    ap (λ l. best_of l c) is ∙ get_or-set_other now r c (Some (lesser (best_of now r) p)) None differ
  where
    differs : (c r : ℕ) → c ≡ r → (c == r) ≡ false → ⊥
    differs c r e f = let g : (r == r) ≡ false = subst (λ z. (z == r) ≡ false) e f in absurd (cc (g, eq-eqb r r refl))

lesser_of : (o : Option Path) (p b : Path) → o ≡ Some b → NotAfter (lesser o p) b
lesser_of None p b e = absurd (cc e)
lesser_of (Some a) p b e = subst (λ z. NotAfter (lesser (Some a) p) z) (let f : a ≡ b = cc e in f) (go (is_lt (path_order p a)) refl)
  where
    go : (t : Bool) → is_lt (path_order p a) ≡ t → NotAfter (cond t p a) a
    go true e = before_not_after p a e
    go false e = not_after_refl a

lesser_offer : (o : Option Path) (p : Path) → NotAfter (lesser o p) p
lesser_offer None p = not_after_refl p
lesser_offer (Some a) p = go (is_lt (path_order p a)) refl
  where
    go : (t : Bool) → is_lt (path_order p a) ≡ t → NotAfter (cond t p a) p
    go true e = not_after_refl p
    go false e = not_before p a e

-- it is one of the two
lesser_is : (o : Option Path) (p : Path) (P : Path → Type 0) → P p → ((b : Path) → o ≡ Some b → P b) → P (lesser o p)
lesser_is None p P here other = here
lesser_is (Some a) p P here other = go (is_lt (path_order p a))
  where
    go : (t : Bool) → P (cond t p a)
    go true = here
    go false = other a refl

kept_lower : (now new : List (Option Path)) (r : ℕ) (p : Path) → r < length now → new ≡ set now r (Some (lesser (best_of now r) p)) → Lower now new
kept_lower now new r p less is c b e = go (c == r) refl
  where
    go : (t : Bool) → (c == r) ≡ t → Improves (best_of new c) b
    go true f =
        let at : c ≡ r = eqb-true c r f in
        let here : best_of now r ≡ Some b = subst (λ z. best_of now z ≡ Some b) at e in
        subst (λ z. Improves (best_of new z) b) (sym at) (lesser (best_of now r) p, kept_at now new r p less is, lesser_of (best_of now r) p b here)
    go false f = (b, kept_elsewhere now new r c p is f ∙ e, not_after_refl b)

-- ---- what nodes offer

offer_lower : (reps : List ℕ) (old new : List (Option Path)) → Lower old new → (x : Node) (b : Path) → offer reps old x ≡ Some b → Improves (offer reps new x) b
offer_lower reps old new lower x b e = go x.origin e
  where
    with_name : (n : Text) (o r : Option Path) → ((a : Path) → o ≡ Some a → Improves r a) → option_map (λ a. taken a n) o ≡ Some b → Improves (option_map (λ a. taken a n) r) b
    with_name n None r f e = absurd (cc e)
    with_name n (Some a) r f e =
        let i = f a refl in
        let is : taken a n ≡ b = cc e in
        (taken i.0 n, ap (option_map (λ a. taken a n)) i.1, subst (λ z. NotAfter (taken i.0 n) z) is (not_after_taken i.0 a n i.2))

    go : (o : Origin) → offer_by reps old x o ≡ Some b → Improves (offer_by reps new x o) b
    go Root e = (b, e, not_after_refl b)
    go (Taken p n) e = with_name n (best_of old (rep reps p)) (best_of new (rep reps p)) (lower (rep reps p)) e

module _ (nodes : List Node) (reps : List ℕ) (range : InRange nodes reps) where
  abbrev Good : ℕ → Path → Type 0
  Good c p = Has nodes reps p c × ((i : ℕ) × (p.first ≡ ty.Param i))

  offer_good : (now : List (Option Path)) → Sound nodes reps now → (i : ℕ) (x : Node) (p : Path) → slice_get nodes i ≡ Some x → offer reps now x ≡ Some p → Good (rep reps i) p
  offer_good now sound i x p at e = go x.origin refl e
    where
      by_first : (t : RType) → x.path.first ≡ t → x.origin ≡ Root → root_offer x.path t ≡ Some p → Good (rep reps i) p
      by_first (ty.Param k) f o e =
          let is : x.path ≡ p = cc e in
          let names = rooted nodes range.grown i x at o in
          subst (Good (rep reps i)) is ((rep reps i, (i, x, at, o, refl, refl), subst (λ ns. Walks nodes reps (rep reps i) ns (rep reps i)) (sym names) refl), (k, f))
      by_first (ty.Named k) f o e = absurd (cc e)
      by_first (ty.Assoc k ns) f o e = absurd (cc e)
      by_first ty.NoValue f o e = absurd (cc e)

      with_name : (q : ℕ) (n : Text) → x.origin ≡ Taken q n → (o : Option Path) → best_of now (rep reps q) ≡ o → option_map (λ a. taken a n) o ≡ Some p → Good (rep reps i) p
      with_name q n is None b e = absurd (cc e)
      with_name q n is (Some a) b e =
          let whole : taken a n ≡ p = cc e in
          subst (Good (rep reps i)) whole (has_taken nodes reps a n (rep reps q) (rep reps i) (sound.has (rep reps q) a b) (i, x, q, at, is, refl, refl), sound.over (rep reps q) a b)

      go : (o : Origin) → x.origin ≡ o → offer_by reps now x o ≡ Some p → Good (rep reps i) p
      go Root is e = by_first x.path.first refl is e
      go (Taken q n) is e = with_name q n is (best_of now (rep reps q)) refl e

  kept_good : (now new : List (Option Path)) (r : ℕ) (p : Path) → r < length now → new ≡ set now r (Some (lesser (best_of now r) p)) → Good r p → Sound nodes reps now → (c : ℕ) (b : Path) → best_of new c ≡ Some b → Good c b
  kept_good now new r p less is good sound c b e = go (c == r) refl
    where
      go : (t : Bool) → (c == r) ≡ t → Good c b
      go true f =
          let at : c ≡ r = eqb-true c r f in
          let here : best_of new r ≡ Some b = subst (λ z. best_of new z ≡ Some b) at e in
          let whole : lesser (best_of now r) p ≡ b = (let k = kept_at now new r p less is in cc (k, here)) in
          subst (λ z. Good z b) (sym at) (subst (Good r) whole (lesser_is (best_of now r) p (Good r) good (λ a i. (sound.has r a i, sound.over r a i))))
      go false f =
          let k : best_of now c ≡ Some b = sym (kept_elsewhere now new r c p is f) ∙ e in
          (sound.has c b k, sound.over c b k)

  before_or_at : (k n : ℕ) → k < n + 1 → (k < n) ⊎ (k ≡ n)
  before_or_at k zero less = inr (omega arith)
  before_or_at zero (suc n) less = inl (omega arith)
  before_or_at (suc k) (suc n) less = elim (before_or_at k n (omega arith)) [ inl a ↦ inl (omega arith) | inr b ↦ inr (ap suc b) ]

  pub offered_in : (bests given : List (Option Path)) → given ≡ bests → length bests ≡ length nodes → (i : ℕ) (x : Node) → slice_get nodes i ≡ Some x → Offered reps given x x.origin
  offered_in bests given e size i x at = go x.origin refl
    where
      go : (o : Origin) → x.origin ≡ o → Offered reps given x o
      go Root is = tt
      go (Taken p n) is =
          let s = branched nodes range.grown i p n x at is in
          let inside = below_length nodes p s.0 s.1 in
          let rep_inside = range.inside p inside in
          let long : length given ≡ length bests = ap length e in
          let same = range.size in
          (omega arith, omega arith)

  -- ---- a round

  pub relaxed_none : (old : List (Option Path)) → Relaxed nodes reps old old 0
  relaxed_none old = record {
    size = refl;
    lower = λ c b e. (b, e, not_after_refl b);
    offered = λ i x b less at e. absurd (omega arith);
    sound = λ s. s;
  }

  pub relaxed_keep : (old now new : List (Option Path)) (n r : ℕ) (x : Node) (p : Path) → length old ≡ length nodes → Relaxed nodes reps old now n → slice_get nodes n ≡ Some x → offer reps now x ≡ Some p → r ≡ rep reps n → new ≡ set now r (Some (lesser (best_of now r) p)) → Relaxed nodes reps old new (n + 1)
  relaxed_keep old now new n r x p size relaxed at is_offer is_r is =
      let inside : r < length now = (let a = range.inside n (below_length nodes n x at) in let s = relaxed.size in omega arith) in
      record {
        size = ap length is ∙ length-set now r (Some (lesser (best_of now r) p)) ∙ relaxed.size;
        lower = λ c b e. let i = relaxed.lower c b e in improves_on (best_of new c) i.0 b (kept_lower now new r p inside is c i.0 i.1) i.2;
        offered = λ i y b less at_y e. go inside i y b at_y e (before_or_at i n less);
        sound = λ s. let t = relaxed.sound s in let good = offer_good now t n x p at is_offer in let g = kept_good now new r p inside is (subst (λ z. Good z p) (sym is_r) good) t in record { has = λ c b e. (g c b e).0; over = λ c b e. (g c b e).1 };
      }
    where
      go : r < length now → (i : ℕ) (y : Node) (b : Path) → slice_get nodes i ≡ Some y → offer reps old y ≡ Some b → (i < n) ⊎ (i ≡ n) → Improves (best_of new (rep reps i)) b
      go inside i y b at_y e (inl less) = let j = relaxed.offered i y b less at_y e in improves_on (best_of new (rep reps i)) j.0 b (kept_lower now new r p inside is (rep reps i) j.0 j.1) j.2
      go inside i y b at_y e (inr same) =
          let y_x : y ≡ x = (let a = subst (λ z. slice_get nodes z ≡ Some y) same at_y in cc (a, at)) in
          let j = offer_lower reps old now relaxed.lower x b (subst (λ z. offer reps old z ≡ Some b) y_x e) in
          let d_p : p ≡ j.0 = (let a = j.1 in cc (a, is_offer)) in
          let k : Improves (best_of new r) p = (lesser (best_of now r) p, kept_at now new r p inside is, lesser_offer (best_of now r) p) in
          let here : Improves (best_of new r) b = improves_on (best_of new r) p b k (subst (λ z. NotAfter z b) (sym d_p) j.2) in
          subst (λ z. Improves (best_of new z) b) (is_r ∙ ap (rep reps) (sym same)) here

  pub relaxed_skip : (old now : List (Option Path)) (n : ℕ) (x : Node) → Relaxed nodes reps old now n → slice_get nodes n ≡ Some x → offer reps now x ≡ None → Relaxed nodes reps old now (n + 1)
  relaxed_skip old now n x relaxed at none = record {
    size = relaxed.size;
    lower = relaxed.lower;
    offered = λ i y b less at_y e. go i y b at_y e (before_or_at i n less);
    sound = relaxed.sound;
  }
    where
      go : (i : ℕ) (y : Node) (b : Path) → slice_get nodes i ≡ Some y → offer reps old y ≡ Some b → (i < n) ⊎ (i ≡ n) → Improves (best_of now (rep reps i)) b
      go i y b at_y e (inl less) = relaxed.offered i y b less at_y e
      go i y b at_y e (inr same) =
          let y_x : y ≡ x = (let a = subst (λ z. slice_get nodes z ≡ Some y) same at_y in cc (a, at)) in
          let j = offer_lower reps old now relaxed.lower x b (subst (λ z. offer reps old z ≡ Some b) y_x e) in
          absurd (let a = j.1 in cc (a, none))

  -- ---- rounds

  record Last (ns : List Text) : Type 0 where
    pub front : List Text
    pub last : Text
    pub is : ns ≡ front ++ last ∷ []

  last_of : (ns : List Text) → (ns ≡ []) ⊎ Last ns
  last_of [] = inl refl
  last_of (n ∷ ns) = inr (go (last_of ns))
    where
      go : (ns ≡ []) ⊎ Last ns → Last (n ∷ ns)
      go (inl e) = record { front = []; last = n; is = ap (λ l. n ∷ l) e }
      go (inr l) = record { front = n ∷ l.front; last = l.last; is = ap (λ l. n ∷ l) l.is }

  pub least_none : (bests : List (Option Path)) → Least nodes reps 0 bests
  least_none bests i ns c short has = absurd (omega arith)

  pub least_more : (k : ℕ) (old new : List (Option Path)) → Least nodes reps k old → Relaxed nodes reps old new (length nodes) → Least nodes reps (k + 1) new
  least_more k old new least relaxed i ns c short has = go (last_of ns)
    where
      go : (ns ≡ []) ⊎ Last ns → Improves (best_of new c) (parameter i ns)
      go (inl e) =
          let h : Has nodes reps (parameter i []) c = subst (λ z. Has nodes reps (parameter i z) c) e has in
          let r = h.1 in
          let x = r.1 in
          let is_offer : offer reps old x ≡ Some x.path = ap (offer_by reps old x) r.3 ∙ ap (root_offer x.path) r.4 in
          let whole : x.path ≡ parameter i ns = path_eq x.path (parameter i ns) r.4 (rooted nodes range.grown r.0 x r.2 r.3 ∙ sym e) in
          let o = relaxed.offered r.0 x x.path (below_length nodes r.0 x r.2) r.2 is_offer in
          subst (λ z. Improves (best_of new z) (parameter i ns)) (r.5 ∙ h.2) (subst (Improves (best_of new (rep reps r.0))) whole o)
      go (inr l) =
          let whole : parameter i ns ≡ taken (parameter i l.front) l.last = path_eq (parameter i ns) (taken (parameter i l.front) l.last) refl l.is in
          let h = has_back nodes reps (parameter i l.front) l.last c (subst (λ z. Has nodes reps z c) whole has) in
          let less : length l.front < k = omega (arith, length-append l.front (l.last ∷ []), ap length l.is) in
          let b = least i l.front h.0 less h.1 in
          let ch = h.2 in
          let is_offer : offer reps old ch.1 ≡ Some (taken b.0 l.last) = ap (offer_by reps old ch.1) ch.4 ∙ ap (λ z. option_map (λ a. taken a l.last) (best_of old z)) ch.5 ∙ ap (option_map (λ a. taken a l.last)) b.1 in
          let o = relaxed.offered ch.0 ch.1 (taken b.0 l.last) (below_length nodes ch.0 ch.1 ch.3) ch.3 is_offer in
          let better = improves_on (best_of new (rep reps ch.0)) (taken b.0 l.last) (taken (parameter i l.front) l.last) o (not_after_taken b.0 (parameter i l.front) l.last b.2) in
          subst (λ z. Improves (best_of new z) (parameter i ns)) ch.6 (subst (Improves (best_of new (rep reps ch.0))) (sym whole) better)
