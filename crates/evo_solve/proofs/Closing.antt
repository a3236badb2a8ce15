-- Joining two classes keeps what stands for each node, and lowers the sum of the numbers.
use Rattle.std.proofs.Common.{◌≡◌, ℕ, zero, suc, ◌+◌, ◌<◌, ◌≤◌, List, [], ◌∷◌, ◌++◌, length, get_or, map, take, drop, set, add-one, Some, slice_get, Bool, true, false, cond, ◌==◌, inl, inr, refl, sym, ◌∙◌, ap, subst, arith, eq-eqb}
use Rattle.std.proofs.lemmas.Bool.{eqb-true, ne_eqb}
use Rattle.std.proofs.lemmas.List.{get_or-map, append-nil}
use Rattle.evo_resolved.specs.declared.declaration.RRequirement.{RRequirement}
use Rattle.evo_names.specs.Listed.{Text}
use Rattle.evo_solve.specs.declared.path.Path.{Path}
use Rattle.evo_solve.specs.declared.universe.Node.{Node}
use Rattle.evo_solve.specs.declared.universe.Origin.{Origin}
use Rattle.evo_solve.specs.declared.universe.Origin.TheVariants.{Root, Taken}
use Rattle.evo_solve.specs.declared.universe.Sides.{Sides}
use Rattle.evo_solve.specs.declared.classes.Couple.{Couple}
use Rattle.evo_solve.specs.Equal.{Equal, held, same, turned, joined, member, taken, path_of}
use Rattle.evo_solve.specs.Universe.{GrownBy, Grown, Added, Placing, Closed, Gap, Represented, IsSolved, Linked, LinkedBy, redirect, rep, total}
use Rattle.evo_solve.proofs.Lists.{below_length, at_place, take_all}
use Rattle.evo_solve.proofs.Growing.{path_eq, placing_more}

redirect_le : (hi lo r : ℕ) → lo < hi → redirect hi lo r ≤ r
redirect_le hi lo r less = go (r == hi) refl
  where
    go : (b : Bool) → (r == hi) ≡ b → cond b lo r ≤ r
    go true e = let q = eqb-true r hi e in omega arith
    go false e = omega arith

redirect_at : (hi lo : ℕ) → redirect hi lo hi ≡ lo
redirect_at hi lo = rw (eq-eqb hi hi refl) refl

sum_le : (hi lo : ℕ) (rs : List ℕ) → lo < hi → total (map (redirect hi lo) rs) ≤ total rs
sum_le hi lo [] less = omega arith
sum_le hi lo (r ∷ rs) less = omega (arith, redirect_le hi lo r less, sum_le hi lo rs less)

-- the sum falls where a class is put into a lesser one
pub sum_falls : (hi lo i : ℕ) (rs : List ℕ) → lo < hi → i < length rs → rep rs i ≡ hi → total (map (redirect hi lo) rs) < total rs
sum_falls hi lo i [] less inside is = absurd (omega arith)
sum_falls hi lo zero (r ∷ rs) less inside is =
    let e : redirect hi lo r ≡ lo = ap (redirect hi lo) is ∙ redirect_at hi lo in
    omega (arith, sum_le hi lo rs less, e, is)
sum_falls hi lo (suc i) (r ∷ rs) less inside is = omega (arith, redirect_le hi lo r less, sum_falls hi lo i rs less (omega arith) is)

-- one more number is redirected
pub more_redirected : (f : ℕ → ℕ) (rs : List ℕ) (i : ℕ) → i < length rs →
    (get_or (map f (take i rs) ++ drop i rs) i 0 ≡ get_or rs i 0) × (set (map f (take i rs) ++ drop i rs) i (f (get_or rs i 0)) ≡ map f (take (suc i) rs) ++ drop (suc i) rs)
more_redirected f [] i inside = absurd (omega arith)
more_redirected f (r ∷ rs) zero inside = (refl, refl)
more_redirected f (r ∷ rs) (suc i) inside = let m = more_redirected f rs i (omega arith) in (m.0, ap (λ l. f r ∷ l) m.1)

merge_step : (from to : ℕ) (rs l new : List ℕ) (i : ℕ) → l ≡ map (redirect from to) (take i rs) ++ drop i rs → i < length rs → new ≡ set l i (redirect from to (get_or l i 0)) → new ≡ map (redirect from to) (take (i + 1) rs) ++ drop (i + 1) rs
merge_step from to rs l new i is inside e =
    let m = more_redirected (redirect from to) rs i inside in
    rw add-one (e ∙ ap (λ l. set l i (redirect from to (get_or l i 0))) is ∙ ap (λ v. set (map (redirect from to) (take i rs) ++ drop i rs) i (redirect from to v)) m.0 ∙ m.1)

pub merge_this : (from to : ℕ) (rs l new : List ℕ) (i : ℕ) → l ≡ map (redirect from to) (take i rs) ++ drop i rs → i < length rs → get_or l i 0 ≡ from → new ≡ set l i to → new ≡ map (redirect from to) (take (i + 1) rs) ++ drop (i + 1) rs
merge_this from to rs l new i is inside at e =
    merge_step from to rs l new i is inside (e ∙ ap (set l i) (sym (ap (redirect from to) at ∙ redirect_at from to)))

pub merge_other : (from to : ℕ) (rs l new : List ℕ) (i : ℕ) → l ≡ map (redirect from to) (take i rs) ++ drop i rs → i < length rs → (get_or l i 0 ≡ from → ⊥) → new ≡ set l i (get_or l i 0) → new ≡ map (redirect from to) (take (i + 1) rs) ++ drop (i + 1) rs
merge_other from to rs l new i is inside at e =
    let same : redirect from to (get_or l i 0) ≡ get_or l i 0 = rw (redirect, ne_eqb (get_or l i 0) from at) refl in
    merge_step from to rs l new i is inside (e ∙ ap (set l i) (sym same))

-- the places of sides are nodes
pub sides_in : (written : List RRequirement) (nodes : List Node) (pairs : List Sides) (n : ℕ) → Placing written nodes pairs n → (k : ℕ) (p : Sides) → slice_get pairs k ≡ Some p → (p.left < length nodes) × (p.right < length nodes)
sides_in written nodes pairs n placing k p at =
    let m = placing.meant k p at in
    (below_length nodes p.left m.5.0 m.5.1, below_length nodes p.right m.6.0 m.6.1)

-- a walk over all couples that found none
pub closed_from : (nodes : List Node) (pairs : List Sides) (reps : List ℕ) →
    ((k : ℕ) (p : Sides) → k < length pairs → slice_get pairs k ≡ Some p → rep reps p.left ≡ rep reps p.right) →
    ((k m : ℕ) (x y : Node) → k < length nodes → slice_get nodes k ≡ Some x → slice_get nodes m ≡ Some y → Linked reps x y → rep reps k ≡ rep reps m) → Closed nodes pairs reps
closed_from nodes pairs reps sides couples = record {
  sides = λ k p at. sides k p (below_length pairs k p at) at;
  linked = λ i j x y ax ay l. couples i j x y (below_length nodes i x ax) ax ay l;
}

pub rooted : (nodes : List Node) (grown : Grown nodes) (i : ℕ) (x : Node) → slice_get nodes i ≡ Some x → x.origin ≡ Root → x.path.names ≡ []
rooted nodes grown i x at o = let P : Origin → Type 0 = λ z. GrownBy nodes i x z in subst P o (grown.each i x at)

pub branched : (nodes : List Node) (grown : Grown nodes) (i p : ℕ) (n : Text) (x : Node) → slice_get nodes i ≡ Some x → x.origin ≡ Taken p n → (y : Node) × (slice_get nodes p ≡ Some y) × (x.path ≡ taken y.path n) × (p < i)
branched nodes grown i p n x at o = let P : Origin → Type 0 = λ z. GrownBy nodes i x z in subst P o (grown.each i x at)

pub same_node : (nodes : List Node) (i : ℕ) (x y : Node) → slice_get nodes i ≡ Some x → slice_get nodes i ≡ Some y → x ≡ y
same_node nodes i x y a b = cc (a, b)

-- the nodes of a gap's two classes are equal
module _ (written : List RRequirement) (nodes : List Node) (pairs : List Sides) (reps : List ℕ) (placing : Placing written nodes pairs (length written)) (sound : Represented written nodes reps) where
  -- nodes of one class are equal
  pub one_class : (i j : ℕ) (x y : Node) → slice_get nodes i ≡ Some x → slice_get nodes j ≡ Some y → rep reps i ≡ rep reps j → Equal written x.path y.path
  one_class i j x y a b e =
      let s = sound.each i x a in
      let t = sound.each j y b in
      let k = subst (λ r. slice_get nodes r ≡ Some s.0) e s.1 in
      let same : s.0 ≡ t.0 = same_node nodes (rep reps j) s.0 t.0 k t.1 in
      joined s.2 (subst (λ z. Equal written z.path y.path) (sym same) (turned t.2))

  linked_equal : (i j : ℕ) (x y : Node) → slice_get nodes i ≡ Some x → slice_get nodes j ≡ Some y → Linked reps x y → Equal written x.path y.path
  linked_equal i j x y a b e = go x.origin y.origin refl refl e
    where
      go : (o p : Origin) → x.origin ≡ o → y.origin ≡ p → LinkedBy reps x y o p → Equal written x.path y.path
      go Root Root u v h =
          let q : x.path ≡ y.path = path_eq x.path y.path h (rooted nodes placing.grown i x a u ∙ sym (rooted nodes placing.grown j y b v)) in
          subst (λ z. Equal written x.path z) q same
      go (Taken p n) (Taken q m) u v l =
          let s = branched nodes placing.grown i p n x a u in
          let t = branched nodes placing.grown j q m y b v in
          let parents : Equal written s.0.path t.0.path = one_class p q s.0 t.0 s.1 t.1 l.2 in
          let whole : taken t.0.path n ≡ y.path = ap (taken t.0.path) l.3 ∙ sym t.2 in
          subst (λ z. Equal written z y.path) (sym s.2) (subst (λ z. Equal written (taken s.0.path n) z) whole (member n parents))
      go Root (Taken q m) u v e = absurd e
      go (Taken p n) Root u v e = absurd e

  gap_equal : (g : Couple) → Gap nodes pairs reps g → (x y : Node) → slice_get nodes g.one ≡ Some x → slice_get nodes g.other ≡ Some y → Equal written x.path y.path
  gap_equal g gap x y a b = elim gap.why [
    | inl w ↦
        let m = placing.meant w.0 (record { left = g.one; right = g.other }) w.1 in
        let left : path_of m.1.ty ≡ x.path = sym m.5.2 ∙ ap (λ z. z.path) (same_node nodes g.one m.5.0 x m.5.1 a) in
        let right : path_of m.3.ty ≡ y.path = sym m.6.2 ∙ ap (λ z. z.path) (same_node nodes g.other m.6.0 y m.6.1 b) in
        subst (λ z. Equal written z y.path) left (subst (λ z. Equal written (path_of m.1.ty) z) right (held m.0 m.1 m.2 m.3 m.4))
    | inr w ↦
        let left : w.0.path ≡ x.path = ap (λ z. z.path) (same_node nodes g.one w.0 x w.2 a) in
        let right : w.1.path ≡ y.path = ap (λ z. z.path) (same_node nodes g.other w.1 y w.3 b) in
        subst (λ z. Equal written z y.path) left (subst (λ z. Equal written w.0.path z) right (linked_equal g.one g.other w.0 w.1 w.2 w.3 w.4))
  ]

  -- one class put into an equal one
  redirected : length reps ≡ length nodes → (hi lo : ℕ) (u v : Node) → slice_get nodes hi ≡ Some u → slice_get nodes lo ≡ Some v → Equal written u.path v.path → Represented written nodes (map (redirect hi lo) reps)
  redirected size hi lo u v at_u at_v alike = record {
    each = λ i x at.
        let s = sound.each i x at in
        let inside : i < length reps = (let l = below_length nodes i x at in omega arith) in
        let e : rep (map (redirect hi lo) reps) i ≡ redirect hi lo (rep reps i) = get_or-map (redirect hi lo) reps i 0 0 inside in
        let P : ℕ → Type 0 = λ r. (y : Node) × (slice_get nodes r ≡ Some y) × Equal written x.path y.path in
        subst P (sym e) (go (rep reps i) x s.0 s.1 s.2);
  }
    where
      go : (r : ℕ) (x y : Node) → slice_get nodes r ≡ Some y → Equal written x.path y.path → (z : Node) × (slice_get nodes (redirect hi lo r) ≡ Some z) × Equal written x.path z.path
      go r x y at d = by (r == hi) refl
        where
          by : (b : Bool) → (r == hi) ≡ b → (z : Node) × (slice_get nodes (cond b lo r) ≡ Some z) × Equal written x.path z.path
          by false e = (y, at, d)
          by true e =
              let is : r ≡ hi = eqb-true r hi e in
              let y_u : y ≡ u = (let a = subst (λ z. slice_get nodes z ≡ Some y) is at in same_node nodes hi y u a at_u) in
              (v, at_v, joined d (subst (λ z. Equal written z.path v.path) (sym y_u) alike))

  -- what stands for the two classes of a gap is equal
  pub gap_merged : (g : Couple) → Gap nodes pairs reps g → length reps ≡ length nodes → Represented written nodes (map (redirect (rep reps g.one) (rep reps g.other)) reps) × Represented written nodes (map (redirect (rep reps g.other) (rep reps g.one)) reps)
  gap_merged g gap size =
      let x = at_place nodes g.one gap.one_in in
      let y = at_place nodes g.other gap.other_in in
      let s = sound.each g.one x.0 x.1 in
      let t = sound.each g.other y.0 y.1 in
      let e : Equal written s.0.path t.0.path = joined (turned s.2) (joined (gap_equal g gap x.0 y.0 x.1 y.1) t.2) in
      (redirected size (rep reps g.one) (rep reps g.other) s.0 t.0 s.1 t.1 e, redirected size (rep reps g.other) (rep reps g.one) t.0 s.0 t.1 s.1 (turned e))

-- each node stands for itself
pub represented_apart : (written : List RRequirement) (nodes : List Node) (reps : List ℕ) → ((i : ℕ) → i < length nodes → get_or reps i 0 ≡ i) → Represented written nodes reps
represented_apart written nodes reps own = record { each = λ i x at. (x, subst (λ r. slice_get nodes r ≡ Some x) (sym (own i (below_length nodes i x at))) at, same) }

pub solved_from : (written : List RRequirement) (nodes : List Node) (pairs : List Sides) (reps : List ℕ) → length reps ≡ length nodes → Placing written nodes pairs (length written) → Closed nodes pairs reps → Represented written nodes reps → IsSolved written nodes reps
solved_from written nodes pairs reps size placing closed sound = record {
  size = size;
  grown = placing.grown;
  linked = closed.linked;
  held = λ k l place r at.
      let h = placing.placed k l place r (below_length written k _ at) at in
      (h.1.left, h.1.right, h.3, h.4, closed.sides h.0 h.1 h.2);
  sound = sound;
}

-- ---- what joins the parts

pub solve_placing : (written : List RRequirement) (nodes new given : List Node) (pairs given_pairs : List Sides) (n i : ℕ) (p : Path) → Placing written nodes pairs n → Added nodes new i p → given ≡ new → given_pairs ≡ pairs → Placing written given given_pairs n
solve_placing written nodes new given pairs given_pairs n i p a b e f =
    let Q : List Sides → Type 0 = λ ps. Placing written given ps n in
    subst Q (sym f) (subst (λ l. Placing written l pairs n) (sym e) (placing_more written nodes new pairs n i p a b))

pub solve_sound : (written : List RRequirement) (nodes given : List Node) (reps given_reps : List ℕ) (count : ℕ) → given ≡ nodes → given_reps ≡ reps → count ≡ length nodes → ((i : ℕ) → i < count → get_or reps i 0 ≡ i) → Represented written given given_reps
solve_sound written nodes given reps given_reps count e f size own =
    subst (λ l. Represented written l given_reps) (sym e) (subst (Represented written nodes) (sym f) (represented_apart written nodes reps (λ i less. own i (omega arith))))

drop_all : (xs : List ℕ) → drop (length xs) xs ≡ []
drop_all [] = refl
drop_all (x ∷ xs) = drop_all xs

written_back : (xs ys : List ℕ) (n : ℕ) → length xs ≡ length ys → n ≡ length ys → take n (xs ++ drop (length xs) ys) ≡ xs
written_back xs ys n e f =
    let a : drop (length xs) ys ≡ [] = subst (λ k. drop k ys ≡ []) (sym e) (drop_all ys) in
    let b : xs ++ drop (length xs) ys ≡ xs = ap (λ l. xs ++ l) a ∙ append-nil xs in
    ap (take n) b ∙ ap (λ k. take k xs) (f ∙ sym e) ∙ take_all xs

pub solve_returns : (written : List RRequirement) (nodes new given : List Node) (pairs given_pairs : List Sides) (i : ℕ) (p : Path) (reps joined_reps : List ℕ) (len count : ℕ) → Placing written nodes pairs (length written) → Added nodes new i p → given ≡ new → given_pairs ≡ pairs →
    length joined_reps ≡ length given → Closed given given_pairs joined_reps → Represented written given joined_reps → length reps ≡ count → count ≡ length new → len ≡ length reps → IsSolved written new (take len (joined_reps ++ drop (length joined_reps) reps))
solve_returns written nodes new given pairs given_pairs i p reps joined_reps len count a b e f size closed sound size_reps is_count is_len =
    let same_size : length joined_reps ≡ length new = size ∙ ap length e in
    let placing = placing_more written nodes new pairs (length written) i p a b in
    let closed_new : Closed new pairs joined_reps = (let Q : List Sides → Type 0 = λ ps. Closed new ps joined_reps in subst Q f (subst (λ l. Closed l given_pairs joined_reps) e closed)) in
    let sound_new : Represented written new joined_reps = subst (λ l. Represented written l joined_reps) e sound in
    subst (IsSolved written new) (sym (written_back joined_reps reps len (same_size ∙ sym is_count ∙ sym size_reps) is_len)) (solved_from written new pairs joined_reps same_size placing closed_new sound_new)
