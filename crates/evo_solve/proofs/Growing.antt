-- Nodes that grow keep what was said of them.
use Rattle.std.proofs.Common.{◌≡◌, ℕ, zero, suc, ◌+◌, ◌<◌, List, [], ◌∷◌, ◌++◌, length, get_or, take, Some, slice_get, ◌⊎◌, inl, inr, refl, sym, ◌∙◌, ap, subst, arith, add-one, append_assoc}
use Rattle.std.proofs.lemmas.Option.{slice_get_read}
use Rattle.std.proofs.lemmas.List.{append-nil}
use Rattle.evo_base.specs.declared.place.Place.{Place}
use Rattle.evo_resolved.specs.declared.resolved_type.RTypeName.{RTypeName}
use Rattle.evo_resolved.specs.declared.resolved_type.RReference.{RReference}
use Rattle.evo_resolved.specs.declared.declaration.RRequirement.{RRequirement}
use Rattle.evo_resolved.specs.declared.declaration.RRequirement.TheVariants as requirement
use Rattle.evo_names.specs.Listed.{Text}
use Rattle.evo_solve.specs.declared.path.Path.{Path}
use Rattle.evo_solve.specs.declared.universe.Node.{Node}
use Rattle.evo_solve.specs.declared.universe.Origin.{Origin}
use Rattle.evo_solve.specs.declared.universe.Origin.TheVariants.{Root, Taken}
use Rattle.evo_solve.specs.declared.universe.Sides.{Sides}
use Rattle.evo_solve.specs.Equal.{path_of, taken, behind}
use Rattle.evo_solve.specs.Universe.{GrownBy, Grown, HasPath, Added, AddedBehind, Placing}
use Rattle.evo_solve.proofs.Lists.{at_end, at_front, at_last, at_place, take_at}

pub path_eq : (p q : Path) → p.first ≡ q.first → p.names ≡ q.names → p ≡ q
path_eq p q h n = λ i. record { first = h i; names = n i }

by_more : (nodes more : List Node) (i : ℕ) (x : Node) (o : Origin) → GrownBy nodes i x o → GrownBy (nodes ++ more) i x o
by_more nodes more i x Root g = g
by_more nodes more i x (Taken p n) g = (g.0, at_front nodes more p g.0 g.1, g.2, g.3)

pub grown_more : (nodes : List Node) (x : Node) → Grown nodes → GrownBy nodes (length nodes) x x.origin → Grown (nodes ++ x ∷ [])
grown_more nodes x grown g = record { each = λ i y at. go i y (at_last nodes x y i at) }
  where
    go : (i : ℕ) (y : Node) → (slice_get nodes i ≡ Some y) ⊎ ((i ≡ length nodes) × (x ≡ y)) → GrownBy (nodes ++ x ∷ []) i y y.origin
    go i y (inl at) = by_more nodes (x ∷ []) i y y.origin (grown.each i y at)
    go i y (inr e) =
        let P : ℕ → Type 0 = λ k. GrownBy (nodes ++ x ∷ []) k x x.origin in
        let Q : Node → Type 0 = λ z. GrownBy (nodes ++ x ∷ []) i z z.origin in
        subst Q e.1 (subst P (sym e.0) (by_more nodes (x ∷ []) (length nodes) x x.origin g))

pub has_more : (nodes more : List Node) (i : ℕ) (p : Path) → HasPath nodes i p → HasPath (nodes ++ more) i p
has_more nodes more i p h = (h.0, at_front nodes more i h.0 h.1, h.2)

pub has_added : (old new : List Node) (i j : ℕ) (p q : Path) → Added old new j q → HasPath old i p → HasPath new i p
has_added old new i j p q a h = subst (λ l. HasPath l i p) (sym a.is) (has_more old a.more i p h)

-- ---- paths of a type

pub added_behind : (old new : List Node) (i below : ℕ) (name : Text) (y : Node) (path : Path) (copy : Text) → Grown old → below < length old → y ≡ get_or old below y → path ≡ taken y.path name → copy ≡ name → new ≡ old ++ (record { path = path; origin = Taken below copy }) ∷ [] → i ≡ length old → AddedBehind old new i below name
added_behind old new i below name y path copy grown inside is_y is_path is_copy is_new is_i =
    let at = slice_get_read old (length old) below y refl inside is_y in
    let x : Node = record { path = path; origin = Taken below copy } in
    let last = at_end old x in
    record {
      parent = y;
      at = at;
      more = x ∷ [];
      is = is_new;
      grown = subst Grown (sym is_new) (grown_more old x grown (y, at, is_path ∙ ap (taken y.path) (sym is_copy), inside));
      has = (x, cc (last, is_new, is_i), is_path);
    }

pub added_found : (old : List Node) (i below : ℕ) (name : Text) → Grown old → below < length old → ((y : Node) → slice_get old below ≡ Some y → HasPath old i (taken y.path name)) → AddedBehind old old i below name
added_found old i below name grown inside has =
    let y = at_place old below inside in
    record { parent = y.0; at = y.1; more = []; is = sym (append-nil old); grown = grown; has = has y.0 y.1 }

pub added_same : (old : List Node) (i : ℕ) (p : Path) → Grown old → HasPath old i p → Added old old i p
added_same old i p grown has = record { more = []; is = sym (append-nil old); grown = grown; has = has }

added_more : (old mid new : List Node) (i j : ℕ) (p : Path) (n : Text) → Added old mid i p → AddedBehind mid new j i n → Added old new j (taken p n)
added_more old mid new i j p n a b =
    let at_b = b.at in
    let e : b.parent ≡ a.has.0 = cc (at_b, a.has.1) in
    record {
      more = a.more ++ b.more;
      is = b.is ∙ ap (λ l. l ++ b.more) a.is ∙ append_assoc old a.more b.more;
      grown = b.grown;
      has = (b.has.0, b.has.1, b.has.2 ∙ ap (λ q. taken q n) (ap (λ z. z.path) e ∙ a.has.2));
    }

pub added_next : (old mid new : List Node) (i j : ℕ) (p : Path) (names : List Text) (k : ℕ) (n : Text) → Added old mid i (behind p (take k names)) → AddedBehind mid new j i n → k < length names → n ≡ get_or names k n → Added old new j (behind p (take (k + 1) names))
added_next old mid new i j p names k n a b less is =
    let at = slice_get_read names (length names) k n refl less is in
    let e : taken (behind p (take k names)) n ≡ behind p (take (suc k) names) = path_eq (taken (behind p (take k names)) n) (behind p (take (suc k) names)) refl (append_assoc p.names (take k names) (n ∷ []) ∙ ap (λ l. p.names ++ l) (sym (take_at names k n at))) in
    rw add-one (subst (Added old new j) e (added_more old mid new i j (behind p (take k names)) n a b))

pub added_below : (old new : List Node) (i : ℕ) (p : Path) → Added old new i p → i < length new
added_below old new i p a = below_it new i a.has.0 a.has.1
  where
    below_it : (xs : List Node) (i : ℕ) (x : Node) → slice_get xs i ≡ Some x → i < length xs
    below_it [] i x e = absurd (cc e)
    below_it (y ∷ ys) zero x e = omega arith
    below_it (y ∷ ys) (suc i) x e = let l = below_it ys i x e in omega arith

-- ---- the sides of requirements

pub placing_none : (written : List RRequirement) → Placing written [] [] 0
placing_none written = record {
  grown = record { each = λ i x at. absurd (cc at) };
  placed = λ k l place r less at. absurd (omega arith);
  meant = λ m s at. absurd (cc at);
}

pub placing_more : (written : List RRequirement) (nodes new : List Node) (pairs : List Sides) (n i : ℕ) (p : Path) → Placing written nodes pairs n → Added nodes new i p → Placing written new pairs n
placing_more written nodes new pairs n i p a b = record {
  grown = b.grown;
  placed = λ k l place r less at.
      let h = a.placed k l place r less at in
      (h.0, h.1, h.2, has_added nodes new h.1.left i (path_of l.ty) p b h.3, has_added nodes new h.1.right i (path_of r.ty) p b h.4);
  meant = λ m s at.
      let h = a.meant m s at in
      (h.0, h.1, h.2, h.3, h.4, has_added nodes new s.left i (path_of h.1.ty) p b h.5, has_added nodes new s.right i (path_of h.3.ty) p b h.6);
}

pub before_or_at : (k n : ℕ) → k < n + 1 → (k < n) ⊎ (k ≡ n)
before_or_at k zero less = inr (omega arith)
before_or_at zero (suc n) less = inl (omega arith)
before_or_at (suc k) (suc n) less = elim (before_or_at k n (omega arith)) [ inl a ↦ inl (omega arith) | inr b ↦ inr (ap suc b) ]

-- a requirement that is no `==`
pub placing_other : (written : List RRequirement) (nodes : List Node) (pairs : List Sides) (n : ℕ) (t : RTypeName) (q : RReference) → Placing written nodes pairs n → slice_get written n ≡ Some (requirement.Conforms t q) → Placing written nodes pairs (n + 1)
placing_other written nodes pairs n t q a here = record {
  grown = a.grown;
  placed = λ k l place r less at. go k l place r at (before_or_at k n less);
  meant = a.meant;
}
  where
    go : (k : ℕ) (l : RTypeName) (place : Place) (r : RTypeName) → slice_get written k ≡ Some (requirement.Same l place r) → (k < n) ⊎ (k ≡ n) → (m : ℕ) × (s : Sides) × (slice_get pairs m ≡ Some s) × HasPath nodes s.left (path_of l.ty) × HasPath nodes s.right (path_of r.ty)
    go k l place r at (inl less) = a.placed k l place r less at
    go k l place r at (inr e) = absurd (let f : slice_get written n ≡ Some (requirement.Same l place r) = subst (λ z. slice_get written z ≡ Some (requirement.Same l place r)) e at in cc (f, here))

abbrev Sided : List Node → List Sides → RTypeName → RTypeName → Type 0
Sided nodes ps x y = (m : ℕ) × (s : Sides) × (slice_get ps m ≡ Some s) × HasPath nodes s.left (path_of x.ty) × HasPath nodes s.right (path_of y.ty)

pub placing_same : (written : List RRequirement) (nodes mid new : List Node) (pairs more : List Sides) (n i j : ℕ) (l : RTypeName) (place : Place) (r : RTypeName) → Placing written nodes pairs n → slice_get written n ≡ Some (requirement.Same l place r) →
    Added nodes mid i (path_of l.ty) → Added mid new j (path_of r.ty) → more ≡ pairs ++ (record { left = i; right = j }) ∷ [] → Placing written new more (n + 1)
placing_same written nodes mid new pairs more n i j l place r a here left right is = record {
  grown = right.grown;
  placed = λ k l2 place2 r2 less at. subst (λ ps. Sided new ps l2 r2) (sym is) (go k l2 place2 r2 at (before_or_at k n less));
  meant = λ m s at. by m s (at_last pairs (record { left = i; right = j }) s m (subst (λ ps. slice_get ps m ≡ Some s) is at));
}
  where
    both : Placing written new pairs n
    both = placing_more written mid new pairs n j (path_of r.ty) (placing_more written nodes mid pairs n i (path_of l.ty) a left) right

    left_has : HasPath new i (path_of l.ty)
    left_has = has_added mid new i j (path_of l.ty) (path_of r.ty) right left.has

    go : (k : ℕ) (x : RTypeName) (q : Place) (y : RTypeName) → slice_get written k ≡ Some (requirement.Same x q y) → (k < n) ⊎ (k ≡ n) → Sided new (pairs ++ (record { left = i; right = j }) ∷ []) x y
    go k x q y at (inl less) = let h = both.placed k x q y less at in (h.0, h.1, at_front pairs ((record { left = i; right = j }) ∷ []) h.0 h.1 h.2, h.3, h.4)
    go k x q y at (inr e) =
        let f : slice_get written n ≡ Some (requirement.Same x q y) = subst (λ z. slice_get written z ≡ Some (requirement.Same x q y)) e at in
        let one : l ≡ x = cc (f, here) in
        let other : r ≡ y = cc (f, here) in
        (length pairs, record { left = i; right = j }, at_end pairs (record { left = i; right = j }), subst (λ z. HasPath new i (path_of z.ty)) one left_has, subst (λ z. HasPath new j (path_of z.ty)) other right.has)

    by : (m : ℕ) (s : Sides) → (slice_get pairs m ≡ Some s) ⊎ ((m ≡ length pairs) × ((record { left = i; right = j }) ≡ s)) → (k : ℕ) × (x : RTypeName) × (q : Place) × (y : RTypeName) × (slice_get written k ≡ Some (requirement.Same x q y)) × HasPath new s.left (path_of x.ty) × HasPath new s.right (path_of y.ty)
    by m s (inl at) = both.meant m s at
    by m s (inr e) = (n, l, place, r, here, subst (λ z. HasPath new z (path_of l.ty)) (ap (λ (t : Sides). t.left) e.1) left_has, subst (λ z. HasPath new z (path_of r.ty)) (ap (λ (t : Sides). t.right) e.1) right.has)
